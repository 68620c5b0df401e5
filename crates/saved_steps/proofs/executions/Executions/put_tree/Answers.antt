use Rattle.std.proofs.Common.{Bool, cond, ap, ◌∙◌, Some}
use Rattle.std.specs.String.{string_bytes}
use Rattle.saved_steps.specs.Places.{tree_in}
use Rattle.saved_steps.proofs.Earliest.{kept_quiet}
use Rattle.saved_steps.proofs.executions.Executions.put_tree.Goals as goal

pub invariant_of-self : goal.invariant_of-self
invariant_of-self c =
    let was = c.self.inside.places.trees in
    let name = string_bytes c.wake.new.quiet.name in
    let awake = string_bytes c.wake.new.quiet.awake in
    kept_quiet was c.put_tree.new.trees name awake name awake c.wake.ensures.quiet
    (λ e named l. (l, c.put_tree.ensures e ∙ ap (λ (b : Bool). cond b (Some c.args.tree) (tree_in was e)) (c.wake.ensures.wakes e named l)))
