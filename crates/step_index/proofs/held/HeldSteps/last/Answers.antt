use Rattle.std.proofs.Common.{Bool, List, sym, subst}
use Rattle.std.specs.Prelude.{option_map}
use Rattle.linked_classes.specs.Places.{place_in}
use Rattle.linked_classes.specs.Sets.{set_of}
use Rattle.step_index.specs.Held.{IsLastLeft}
use Rattle.step_index.proofs.Left.{last_is}
use Rattle.step_index.proofs.held.HeldSteps.last.Goals as goal

pub returns : goal.returns
returns c =
    let v = c.self.inside.places in
    rw (← c.self.view_is)
    (subst (λ r. IsLastLeft v.items r) (sym c.place_of.ensures) (subst (λ (l : List Bool). IsLastLeft l (option_map (place_in v.numbers) c.last.result)) c.self.invariant.left (last_is (set_of v 0) (option_map (place_in v.numbers) c.last.result) c.last.ensures.last)))
