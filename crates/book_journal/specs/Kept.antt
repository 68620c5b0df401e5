-- What a journal keeps true of its connection, and what its calls do to the store.
use Rattle.std.specs.Prelude.{◌≡◌, ◌⊎◌, ℤ, ℕ, false, [], List, Option, IsTrue}
use Rattle.sqlite.specs.Order.{Row}
use Rattle.sqlite.specs.Tree.{Trees}
use Rattle.sqlite.specs.State.{State, HasCleanDisk}
use Rattle.book_journal.specs.Table.{journal_schema, no_schema}
use Rattle.book_journal.specs.Entries.{entries, IsLastNumber, AddLines}

abbrev pub lines_in : State → List Row
lines_in s = entries s.now.trees

-- no transaction is open, and while the store is, it has the journal's table, and the number is its last
pub record IsKept (s : State) (last : Option ℤ) : Type 0 where
  pub mode : s.in_transaction ≡ false
  pub kept : HasCleanDisk s → IsTrue s.is_open → (s.now.schema ≡ journal_schema) × (s.committed ≡ s.now) × IsLastNumber (lines_in s) last

-- while the store is open, a crash leaves what it has and nothing else
abbrev pub IsAtRest : State → Type 0
IsAtRest s = HasCleanDisk s → IsTrue s.is_open → (trees : Trees) → s.may_leave trees → trees ≡ s.now.trees

-- the journal's table was there, and is as it was, or there was no table, and it is there with no entry
pub record IsOpened (old new : State) : Type 0 where
  pub was_open : IsTrue old.is_open
  pub is_open : IsTrue new.is_open
  pub schema : new.now.schema ≡ journal_schema
  pub rows : ((old.now.schema ≡ journal_schema) × (lines_in new ≡ lines_in old)) ⊎ ((old.now.schema ≡ no_schema) × (lines_in new ≡ []))

-- where the connection is open still, it shows what it showed
abbrev pub IsSame : State → State → Type 0
IsSame old new = IsTrue new.is_open → IsTrue old.is_open × (new.now ≡ old.now)

-- what a crash may leave: the entries from before, or those with all of the lines
abbrev pub LeavesAllOrNone : State → List (List ℕ) → State → Type 0
LeavesAllOrNone old lines new = HasCleanDisk new → IsTrue old.is_open → (trees : Trees) → new.may_leave trees → (entries trees ≡ lines_in old) ⊎ AddLines (lines_in old) lines (entries trees)

-- what an append may commit, where the connection was open
abbrev pub MayAdd : State → List (List ℕ) → Trees → Type 0
MayAdd old lines trees = HasCleanDisk old → IsTrue old.is_open → AddLines (lines_in old) lines (entries trees)
