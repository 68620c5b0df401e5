use Rattle.std.specs.String.{string_bytes}
use Rattle.saved_steps.proofs.Earliest.{kept_quiet}
use Rattle.saved_steps.proofs.executions.Executions.make_place.Goals as goal

pub invariant_of-self : goal.invariant_of-self
invariant_of-self c =
    let name = string_bytes c.self.inside.quiet.name in
    let awake = string_bytes c.self.inside.quiet.awake in
    kept_quiet c.self.inside.places.trees c.make_place.new.trees name awake name awake c.self.invariant (λ e named l. (l, c.make_place.ensures.trees e))
