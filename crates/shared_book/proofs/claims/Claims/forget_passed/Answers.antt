use Rattle.std.proofs.Common.{subst, sym, List}
use Rattle.step_names.specs.Thread.{Thread}
use Rattle.shared_book.specs.Away.{AreOutside}
use Rattle.shared_book.proofs.Passing.{outside_alone}
use Rattle.shared_book.proofs.claims.Claims.forget_passed.Goals as goal

pub invariant_of-self : goal.invariant_of-self
invariant_of-self c =
    let claimed = c.self.inside.claimed.keys in
    subst (λ (l : List Thread). AreOutside (record { claimed = claimed; outside = l })) (sym c.keep_claimed.ensures)
    (outside_alone (record { claimed = claimed; outside = c.self.inside.outside.keys }) c.self.invariant)
