use Rattle.std.proofs.Common.{◌≡◌, take}
use Rattle.sqlite.specs.Held.{state}
use Rattle.sqlite.specs.State.{HasCleanDisk, KeepsCommit, Survives}
use Rattle.book_journal.specs.Change.{IsJournalReady, Inserts}
use Rattle.book_journal.specs.Entries.{texts, numbered, number_after, last_after}
use Rattle.book_journal.proofs.insert.insert_all.Given as goal

abbrev pub invariant-loop-line : goal.invariant-loop-line
invariant-loop-line g l =
    let old = state g.S.Store l.fn.tx.conn.now in
    let now = state g.S.Store l.tx.conn.now in
    let done = take l.line-index (texts l.lines) in
    (l.tx.conn.ghost_name ≡ l.fn.tx.conn.ghost_name)
    × (HasCleanDisk now → IsJournalReady old → Inserts old now (numbered (number_after l.fn.last) done) × KeepsCommit old now)
    × (l.last ≡ last_after l.fn.last done)
    × Survives old now (λ _. ⊥)
