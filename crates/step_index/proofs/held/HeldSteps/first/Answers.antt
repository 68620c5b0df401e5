use Rattle.std.proofs.Common.{Bool, List, sym, subst, ◌∙◌, ap}
use Rattle.std.specs.Prelude.{position}
use Rattle.linked_classes.specs.Sets.{set_of}
use Rattle.step_index.proofs.Left.{first_is}
use Rattle.step_index.proofs.held.HeldSteps.first.Goals as goal

pub returns : goal.returns
returns c =
    let v = c.self.inside.places in
    rw (← c.self.view_is)
    (c.place_of.ensures ∙ first_is (set_of v 0) _ c.first.ensures.first ∙ ap (λ (l : List Bool). position (λ m. m) l) c.self.invariant.left)
