use Rattle.std.proofs.Common.{sym, subst}
use Rattle.std.specs.Prelude.{IfSome}
use Rattle.step_index.specs.Held.{IsLeftAt}
use Rattle.step_index.specs.Walks.{IsFirstFrom, needed_by}
use Rattle.step_index.proofs.Needed.{earlier_is, first_of_both}
use Rattle.step_index.proofs.held.HeldSteps.first_needed.Goals as goal

pub returns-clause-first : goal.returns-clause-first
returns-clause-first c =
    let rs = c.args.records.now.items in
    let h = c.args.self.now in
    let later = c.args.fact.now in
    subst (λ r. IsFirstFrom (IsLeftAt h) (needed_by later) rs 0 r) (sym c.earlier.ensures)
    (first_of_both rs h c.requires later c.first_by_name.result c.first_accessing.result c.first_by_name.ensures.first c.first_accessing.ensures.first)

pub returns-clause-left : goal.returns-clause-left
returns-clause-left c =
    let h = c.args.self.now in
    subst (λ r. IfSome r (IsLeftAt h)) (sym c.earlier.ensures) (earlier_is (IsLeftAt h) c.first_by_name.result c.first_accessing.result c.first_by_name.ensures.left c.first_accessing.ensures.left)
