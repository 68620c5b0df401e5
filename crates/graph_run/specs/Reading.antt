-- Which lines a journal gives that is read once. `show` is what a connection shows that is held so.
use Rattle.std.specs.Prelude.{◌≡◌, ◌⊎◌, ℕ, List, Result, Ok, Err}
use Rattle.sqlite.specs.State.{State, HasCleanDisk, Survives}
use Rattle.sqlite.specs.declared.error.Error.{Error}
use Rattle.book_journal.specs.Entries.{HoldLines}
use Rattle.book_journal.specs.Faults.{journal_fault_of}
use Rattle.book_journal.specs.Kept.{lines_in, IsOpened, IsSame}
use Rattle.book_journal.specs.declared.fault.JournalFault.{JournalFault}
use Rattle.rollback_run.specs.Faults.{of_journal}
use Rattle.rollback_run.specs.declared.fault.ExitFault.{ExitFault}

module _ {Held : Type 0} (show : Held → State) where
  -- The connection's journal was opened, these are its lines, and they stay as they were. Of a disk that failed nothing is said.
  pub record GivesLines (connection : Held) (lines : List (List ℕ)) : Type 0 where
    pub journal : Held
    pub loaded : Held
    pub is_opened : HasCleanDisk (show journal) → IsOpened (show connection) (show journal)
    pub gives : HasCleanDisk (show loaded) → HoldLines (lines_in (show journal)) lines
    pub same : HasCleanDisk (show loaded) → IsSame (show journal) (show loaded)
    pub survives : Survives (show journal) (show loaded) (λ _. ⊥)

  -- the journal isn't opened, or its lines aren't given, for a fault of the journal
  abbrev pub GivesNoLines : Held → ExitFault → Type 0
  GivesNoLines connection cause = (fault : JournalFault) × (cause ≡ of_journal fault)

  abbrev pub Reads : Result Held Error → List (List ℕ) → Type 0
  Reads (Ok connection) lines = GivesLines connection lines
  Reads (Err error) lines = ⊥

  abbrev pub ReadsNone : Result Held Error → ExitFault → Type 0
  ReadsNone (Ok connection) cause = GivesNoLines connection cause
  ReadsNone (Err error) cause = cause ≡ of_journal (journal_fault_of error)
