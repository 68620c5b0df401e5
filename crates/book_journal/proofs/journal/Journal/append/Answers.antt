use Rattle.std.proofs.Common.{◌≡◌, ℤ, Option, arith, rules, refl, sym, subst}
use Rattle.sqlite.specs.Held.{state}
use Rattle.sqlite.specs.declared.error.ErrorCode.TheVariants.{Closed}
use Rattle.sqlite.specs.declared.error.Error.TheVariants.{SqliteFailure}
use Rattle.book_journal.specs.Table.{journal_schema}
use Rattle.book_journal.specs.Entries.{texts, last_after}
use Rattle.book_journal.specs.Kept.{lines_in, IsKept}
use Rattle.book_journal.proofs.Keeping.{appended_kept, appended_adds, lines_added, may_add}
use Rattle.book_journal.proofs.journal.Journal.append.Goals as goal

pub returns-then-not-is_journal-clause-named : goal.returns-then-not-is_journal-clause-named
returns-then-not-is_journal-clause-named g c = (SqliteFailure Closed, refl)

pub invariant_of-self-2 : goal.invariant_of-self-2
invariant_of-self-2 g c =
    let old = state g.S.Store c.self.inside.conn in
    let new = state g.S.Store c.append_all.new.conn in
    let done = c.in_ok-self-inside.ensures in
    let schema : old.now.schema ≡ journal_schema = search rules in
    let last : c.in_ok-self-inside.field-0 ≡ last_after c.self.inside.last (texts c.args.lines.now) = search rules in
    subst (λ (l : Option ℤ). IsKept new l) (sym last)
    (appended_kept old new c.self.inside.last (texts c.args.lines.now) c.self.invariant (λ clean. omega (arith, done.survives.clean, clean)) done.mode (λ clean. done.ok clean schema))

pub returns-clause-lines : goal.returns-clause-lines
returns-clause-lines g c clean before held =
    let old = state g.S.Store c.self.inside.conn in
    let new = state g.S.Store c.append_all.new.conn in
    let done = c.in_ok-self-inside.ensures in
    let schema : old.now.schema ≡ journal_schema = search rules in
    lines_added (lines_in old) (lines_in new) before (texts c.args.lines.now) (rw c.self.view_is held)
    (appended_adds old new c.self.inside.last (texts c.args.lines.now) c.self.invariant (λ now. omega (arith, done.survives.clean, now)) clean (done.ok clean schema))

pub returns-in_err-self-inside-clause-survives : goal.returns-in_err-self-inside-clause-survives
returns-in_err-self-inside-clause-survives g c =
    rw c.self.view_is at (may_add (state g.S.Store c.self.inside.conn) (state g.S.Store c.append_all.new.conn) c.self.inside.last (texts c.args.lines.now) c.self.invariant c.append_all.ensures.survives)
