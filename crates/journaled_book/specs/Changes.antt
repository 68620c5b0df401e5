-- What the commands of a journaled book do to its journal, and why they are refused.
use Rattle.std.specs.Prelude.{◌≡◌, ◌⊎◌, ℕ, List, [], ◌∷◌, ◌++◌, Option, None, Some, Result, Err, IsTrue, IsOk, OnOk, OnErr}
use Rattle.attr_values.specs.declared.fault.ItemFault.TheVariants as item
use Rattle.sqlite.specs.State.{State, HasCleanDisk, Survives}
use Rattle.sqlite.specs.declared.error.Error.{Error}
use Rattle.book_log.specs.Beginning.{begun_table}
use Rattle.book_log.specs.declared.begin.Begin.{Begin}
use Rattle.book_journal.specs.Entries.{AddLines, HoldLines}
use Rattle.book_journal.specs.Faults.{journal_fault_of}
use Rattle.book_journal.specs.Kept.{lines_in, IsAtRest, IsSame, LeavesAllOrNone, MayAdd}
use Rattle.book_journal.specs.declared.fault.JournalFault.{JournalFault}
use Rattle.journaled_book.specs.declared.fault.BeginRefusal.{BeginRefusal}
use Rattle.journaled_book.specs.declared.fault.BeginRefusal.TheVariants as begin_refusal

-- ---- the journal

-- the lines stand after those from before; the connection was open, and is
pub record HasLines (old new : State) (more : List (List ℕ)) : Type 0 where
  pub was_open : IsTrue old.is_open
  pub is_open : IsTrue new.is_open
  pub added : AddLines (lines_in old) more (lines_in new)
  pub lines : (before : List (List ℕ)) → HoldLines (lines_in old) before → HoldLines (lines_in new) (before ++ more)

-- The lines are appended, all of them, or the journal is as it was. A crash leaves the lines from before, with these or without; once
-- the call has returned, those that the journal has.
pub record AppendsAll {T E : Type 0} (old new : State) (more : List (List ℕ)) (result : Result T E) : Type 0 where
  pub ok : HasCleanDisk new → OnOk result (HasLines old new more)
  pub err : HasCleanDisk new → OnErr result (IsSame old new)
  pub crash : LeavesAllOrNone old more new
  pub survives : Survives old new (MayAdd old more)
  pub at_rest : IsAtRest new

-- one line is
abbrev pub Appends : {T E : Type 0} → State → State → List ℕ → Result T E → Type 0
Appends old new line result = AppendsAll old new (line ∷ []) result

-- the journal is as it was, and nothing was written
pub record IsRead (old new : State) : Type 0 where
  pub same : HasCleanDisk new → IsSame old new
  pub survives : Survives old new (λ _. ⊥)
  pub at_rest : IsAtRest new

-- an error of the database, as it is told
abbrev pub IsStoreFault : JournalFault → Type 0
IsStoreFault fault = (cause : Error) × (fault ≡ journal_fault_of cause)

-- ---- the book

-- everything is made for this command, and the book is as it was left when this was made
abbrev pub IsMadeReady : {B M : Type 0} → (B → M → Type 0) → Option B → M → Type 0
IsMadeReady can_enter None m = ⊥
IsMadeReady can_enter (Some b) m = can_enter b m

-- an item is none, or memory was refused, or the journal refused the line
abbrev pub RefusesBegin : Begin → BeginRefusal → Type 0
RefusesBegin begin (begin_refusal.Item fault) = (fault ≡ item.Memory) ⊎ (begun_table begin ≡ Err fault)
RefusesBegin begin (begin_refusal.Journal fault) = IsOk (begun_table begin) × IsStoreFault fault
