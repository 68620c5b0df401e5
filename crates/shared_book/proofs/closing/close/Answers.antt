use Rattle.std.proofs.Common.{◌≡◌, refl, subst, ℕ, List}
use Rattle.shared_book.specs.Closed.{IsUnsettled}
use Rattle.shared_book.specs.Views.{PassView}
use Rattle.shared_book.proofs.closing.close.Goals as goal

pub returns-in-Err-clause-refused : goal.returns-in-Err-clause-refused
returns-in-Err-clause-refused g c =
    let desk = c.into_inner-desk.result in
    let passes : List PassView = c.args.passes.items in
    let same : passes ≡ passes = refl in
    let settled = rw c.as_slice.ensures.value at c.in-Err.ensures.settled in
    (same, (desk.log, c.in-Err.ensures.goes, c.in-Err.ensures.legal, subst (λ (first : ℕ). IsUnsettled first desk.log.entries passes c.in-Err.reason) c.in-Err.ensures.first settled))
