-- What a transaction of the journal does to a connection.
use Rattle.std.specs.Prelude.{◌≡◌, [], ◌++◌, List, IsTrue, IsPermutation}
use Rattle.sqlite.specs.Order.{Row}
use Rattle.sqlite.specs.Tree.{Trees}
use Rattle.sqlite.specs.State.{State}
use Rattle.book_journal.specs.Table.{journal_schema, no_schema}
use Rattle.book_journal.specs.Entries.{entries}

-- a transaction is open over the journal's table
pub record IsJournalReady (s : State) : Type 0 where
  pub mode : IsTrue s.in_transaction
  pub schema : s.now.schema ≡ journal_schema

-- the transaction has these entries too, and the last commit stands
pub record Inserts (old new : State) (added : List Row) : Type 0 where
  pub ready : IsJournalReady new
  pub committed : new.committed ≡ old.committed
  pub rows : IsPermutation (entries old.now.trees ++ added) (entries new.now.trees)

-- a transaction is open over a database with no table
pub record IsBlank (s : State) : Type 0 where
  pub mode : IsTrue s.in_transaction
  pub schema : s.now.schema ≡ no_schema

-- the transaction has the journal's table, with no entry, and the last commit stands
pub record Creates (old new : State) : Type 0 where
  pub ready : IsJournalReady new
  pub committed : new.committed ≡ old.committed
  pub none : entries new.now.trees ≡ []

-- the entries, as they are and as the last commit left them, are those from before and these
pub record IsAppended (old new : State) (added : List Row) : Type 0 where
  pub was_open : IsTrue old.is_open
  pub is_open : IsTrue new.is_open
  pub schema : new.now.schema ≡ journal_schema
  pub committed : new.committed ≡ new.now
  pub rows : IsPermutation (entries old.now.trees ++ added) (entries new.now.trees)

-- where the connection is open still, it is as the last commit from before left it
abbrev pub IsBack : State → State → Type 0
IsBack old new = IsTrue new.is_open → IsTrue old.is_open × (new.now ≡ old.committed) × (new.committed ≡ old.committed)

-- what a crash may leave, where the database has the journal's table: the entries from before, and these
abbrev pub HasAppended : State → List Row → Trees → Type 0
HasAppended old added trees = old.now.schema ≡ journal_schema → IsPermutation (entries old.now.trees ++ added) (entries trees)

-- the journal's table was made, with no entry
pub record IsMade (old new : State) : Type 0 where
  pub was_open : IsTrue old.is_open
  pub is_open : IsTrue new.is_open
  pub schema : new.now.schema ≡ journal_schema
  pub committed : new.committed ≡ new.now
  pub none : entries new.now.trees ≡ []

-- what a crash may leave, where the database had no table: one with no entry
abbrev pub HasTable : State → Trees → Type 0
HasTable old trees = old.now.schema ≡ no_schema → entries trees ≡ []
