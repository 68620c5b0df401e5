use Rattle.std.proofs.Common.{◌≡◌, ℕ, false, List, subst}
use Rattle.std.specs.Str.{bytes_eq}
use Rattle.std.specs.String.{string_bytes}
use Rattle.saved_steps.proofs.Earliest.{kept_quiet}
use Rattle.saved_steps.proofs.executions.Executions.give.Goals as goal

pub invariant_of-self : goal.invariant_of-self
invariant_of-self c =
    let name = string_bytes c.wake.new.quiet.name in
    let awake = string_bytes c.wake.new.quiet.awake in
    kept_quiet c.self.inside.places.trees c.give.new.trees name awake name awake c.wake.ensures.quiet
    (λ e named l. (l, c.give.ensures.others e (subst (λ (x : List ℕ). bytes_eq x e ≡ false) c.exec.ensures.exec (c.wake.ensures.wakes e named l))))
