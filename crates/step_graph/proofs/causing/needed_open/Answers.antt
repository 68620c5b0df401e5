use Rattle.std.proofs.Common.{◌≡◌, ◌∷◌, ℕ, true, map, sym, ◌∙◌}
use Rattle.step_graph.specs.Causes.{is_in}
use Rattle.step_graph.specs.declared.causing.Cause.{Cause}
use Rattle.step_graph.proofs.Opens.{neither, none_elsewhere}
use Rattle.step_graph.proofs.causing.needed_open.Goals as goal

pub returns-then-not-has-clause-none : goal.returns-then-not-has-clause-none
returns-then-not-has-clause-none c = λ e are m l among.
    let none = neither _ _ (sym c.has.ensures ∙ c.if-not-has.true) in
    none_elsewhere c.args.records.now.items (λ k. is_in k (c.args.at ∷ map (λ (x : Cause). x.place) c.args.found.now)) c.args.near.now.execs c.args.near.now.keys are c.args.place none.0 none.1 m among
