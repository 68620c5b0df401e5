use Rattle.std.proofs.Common.{Bool, cond, ap, ◌∙◌, None}
use Rattle.std.specs.String.{string_bytes}
use Rattle.saved_steps.specs.Places.{tree_in}
use Rattle.saved_steps.proofs.Earliest.{kept_quiet}
use Rattle.saved_steps.proofs.executions.Executions.remove_tree.Goals as goal

pub invariant_of-self : goal.invariant_of-self
invariant_of-self c =
    let was = c.self.inside.places.trees in
    let name = string_bytes c.wake.new.quiet.name in
    let awake = string_bytes c.wake.new.quiet.awake in
    kept_quiet was c.remove_tree.new.trees name awake name awake c.wake.ensures.quiet
    (λ e named l. (l, c.remove_tree.ensures e ∙ ap (λ (b : Bool). cond b None (tree_in was e)) (c.wake.ensures.wakes e named l)))
