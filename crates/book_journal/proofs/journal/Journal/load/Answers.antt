use Rattle.std.proofs.Common.{◌≡◌, ◌∙◌, Err, map, string_bytes, inl, inr, refl, sym, subst, rules}
use Rattle.std.proofs.lemmas.Result.{IfOk-weaker}
use Rattle.sqlite.specs.Held.{state}
use Rattle.sqlite.specs.declared.error.ErrorCode.TheVariants.{Closed}
use Rattle.sqlite.specs.declared.error.Error.{Error}
use Rattle.sqlite.specs.declared.error.Error.TheVariants.{SqliteFailure}
use Rattle.book_journal.specs.Faults.{journal_fault_of, HasReadCause}
use Rattle.book_journal.specs.declared.fault.JournalFault.TheVariants.{Store}
use Rattle.book_journal.proofs.Refusals.{told_as_cause, unreadable_entries}
use Rattle.book_journal.proofs.Keeping.{read_lines, read_gap}
use Rattle.book_journal.proofs.journal.Journal.load.Goals as goal

pub returns-then-not-is_journal-clause-named : goal.returns-then-not-is_journal-clause-named
returns-then-not-is_journal-clause-named g c = inr (SqliteFailure Closed, refl)

pub returns-clause-ok : goal.returns-clause-ok
returns-clause-ok g c clean =
    let old = state g.S.Store c.args.self.now in
    let rows = c.in_ok-rows.rows.items in
    let order = rw c.self.view_is at c.in_ok-rows.ensures.ok clean in
    IfOk-weaker c.lines_of.result _ _ (λ lines is. read_lines old.now.trees rows (map string_bytes lines.items) order is) (rw c.as_slice.ensures.value at c.lines_of.ensures.ok)

pub returns-clause-gap : goal.returns-clause-gap
returns-clause-gap g c clean n failed =
    let old = state g.S.Store c.args.self.now in
    let rows = c.in_ok-rows.rows.items in
    let order = rw c.self.view_is at c.in_ok-rows.ensures.ok clean in
    read_gap old.now.trees rows n order (rw c.as_slice.ensures.value at c.lines_of.ensures.gap n failed)

pub returns-in_err-rows-clause-cause : goal.returns-in_err-rows-clause-cause
returns-in_err-rows-clause-cause g c clean cause is =
    let e : Error = c.in_err-rows.field-0.0 in
    let told : c.from_residual.result ≡ Err (journal_fault_of e) = search rules in
    let same : journal_fault_of e ≡ Store cause = (let f = sym told ∙ is in cc) in
    let why = c.in_err-rows.ensures.cause clean in
    inl (subst (HasReadCause (state g.S.Store c.args.self.now) (state g.S.Store c.all_rows.new.conn)) (told_as_cause e cause same) (rw c.self.view_is at why))

pub returns-clause-cause : goal.returns-clause-cause
returns-clause-cause g c clean cause is =
    let old = state g.S.Store c.args.self.now in
    let rows = c.in_ok-rows.rows.items in
    let order = rw c.self.view_is at c.in_ok-rows.ensures.ok clean in
    inr (unreadable_entries old.now.trees rows order (rw c.as_slice.ensures.value at c.lines_of.ensures.unreadable cause is))
