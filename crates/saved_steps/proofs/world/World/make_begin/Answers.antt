use Rattle.std.proofs.Common.{◌≡◌, ℕ, List, Some, None, sym, ◌∙◌, subst}
use Rattle.std.specs.BTreeMap.{get_by_text}
use Rattle.saved_steps.specs.declared.world.World.{World}
use Rattle.saved_steps.proofs.Ready.{begin, on_ok}
use Rattle.saved_steps.proofs.world.World.make_begin.Goals as goal

pub returns-clause-made : goal.returns-clause-made
returns-clause-made c =
    let w = c.args.self.now in
    let v : World = record { alloc = w.alloc; executions = c.make_place.new.self; items = w.items } in
    let place : get_by_text v.executions.trees c.exec-2.result.now ≡ Some None =
    on_ok c.make_place.result (get_by_text v.executions.trees c.exec-2.result.now ≡ Some None) (sym c.is_err.ensures.value ∙ c.if-is_err.false) c.make_place.ensures.place in
    begin w v c.args.name c.args.frame (subst (λ (e : List ℕ). get_by_text v.executions.trees e ≡ Some None) c.exec-2.ensures.exec place) c.requires
