-- A book and its journal as their contracts see them.
use Rattle.std.specs.Prelude.{◌≡◌, ℕ, List, ◌++◌, Option, None, Some, option_map, Result, Ok, Err, IsTrue, refl}
use Rattle.std.specs.Coded.{Coded, code_by, coded×}
use Rattle.sqlite.specs.Held.{Held, held_code}
use Rattle.sqlite.specs.State.{State, HasCleanDisk}
use Rattle.book_log.specs.Log.{Log, appended}
use Rattle.book_log.specs.declared.entry.Entry.{Entry}
use Rattle.book_journal.specs.Entries.{HoldLines}
use Rattle.book_journal.specs.Kept.{lines_in, IsAtRest}
use Rattle.journaled_book.specs.Lines.{AreEntryLines, AreLinesOf}

-- the book, none before its table is given, and what the journal's connection holds
pub record Journaled (B S : Type 0) : Type 0 where
  pub book : Option B
  pub journal : Held S

abbrev pub journaled_code : {B S : Type 0} → Coded (Option B) → Coded S → Coded (Journaled B S)
journaled_code {B} {S} book store =
    code_by (Option B × Held S) (coded× book (held_code store)) (λ j. (j.book, j.journal)) (λ p. record { book = p.0; journal = p.1 }) (λ _. refl)

-- the log of a book
abbrev pub log_of : {B : Type 0} → (B → Log) → Option B → Option Log
log_of log book = option_map log book

abbrev pub with_entry : Option Log → Entry → Option Log
with_entry log entry = option_map (λ s. appended s entry) log

-- the journal of a book that went on, or of one that is away
abbrev pub journal_of : {B S : Type 0} → Result (Journaled B S) (Journaled B S) → Held S
journal_of (Ok book) = book.journal
journal_of (Err away) = away.journal

-- the log went on by entries that these lines say
abbrev pub GoesOnBy : List (List ℕ) → Option Log → Log → Type 0
GoesOnBy lines None after = ⊥
GoesOnBy lines (Some before) after = (more : List Entry) × (after ≡ record { begin = before.begin; entries = before.entries ++ more }) × AreEntryLines lines more

-- the journal holds lines of this log
abbrev pub HasLinesOf : State → Option Log → Type 0
HasLinesOf s log = (lines : List (List ℕ)) × HoldLines (lines_in s) lines × AreLinesOf lines log

-- While the store is open, the journal's lines are those of the book, and a crash leaves them and nothing else.
pub record IsJournalOf (s : State) (log : Option Log) : Type 0 where
  pub lines : HasCleanDisk s → IsTrue s.is_open → HasLinesOf s log
  pub rest : IsAtRest s
