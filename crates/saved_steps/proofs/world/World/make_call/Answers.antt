use Rattle.std.proofs.Common.{◌≡◌, ap, sym, ◌∙◌, subst}
use Rattle.item_store.specs.Deciding.{reply_of}
use Rattle.asl_forward.specs.Results.{after_answer}
use Rattle.asl_forward.specs.declared.prepared.Outcome.TheVariants as outcome
use Rattle.branch_tree.specs.Turn.{located}
use Rattle.saved_steps.specs.Made.{IsMadeBy}
use Rattle.saved_steps.specs.declared.made.Change.{Change}
use Rattle.saved_steps.specs.declared.world.World.{World}
use Rattle.saved_steps.proofs.Ready.{does, call}
use Rattle.saved_steps.proofs.world.World.make_call.Goals as goal

pub returns-clause-made : goal.returns-clause-made
returns-clause-made c =
    let w = c.args.self.now in
    let v : World = record { alloc = w.alloc; executions = w.executions; items = c.answer.new.items } in
    let p = c.args.prepared in
    let parts = c.into_parts-frame.ensures in
    let is : p.outcome ≡ outcome.Call c.in-Call.call = sym (ap (λ x. x.2) parts) ∙ c.in-Call.is in
    let f = c.in-Ok-finish.ensures in
    let there = sym (ap (λ x. located x.1 x.0) parts) ∙ f.2 in
    let after = f.4 ∙ ap (λ x. after_answer f.0.0 f.1 x.0 (reply_of c.in-Ok.field-0.answer)) parts in
    subst (λ (x : Change). IsMadeBy v c.args.name (does w c.args.name c.args.bound p) (record { name = c.args.name; bound = c.args.bound; change = x })) (sym c.change_of.ensures)
    (call w v c.args.name c.args.bound p c.in-Call.call c.in-Ok.field-0 c.in-Ok-finish.next f.0 f.1 is there f.3 after c.in-Ok.ensures.answer c.requires.suits.0)
