-- Which book the lines of a journal give, and why they give none.
use Rattle.std.specs.Prelude.{◌≡◌, ℕ, List, ◌∷◌, ◌++◌, length, Option, None, Some}
use Rattle.sqlite.specs.Order.{Row}
use Rattle.sqlite.specs.State.{State}
use Rattle.book_log.specs.Legal.{IsLegal}
use Rattle.book_log.specs.Log.{Log}
use Rattle.book_journal.specs.Entries.{HoldLines, HaveGap}
use Rattle.book_journal.specs.Faults.{RefusesRows}
use Rattle.book_journal.specs.Kept.{lines_in}
use Rattle.book_journal.specs.declared.fault.JournalFault.{JournalFault}
use Rattle.book_journal.specs.declared.fault.JournalFault.TheVariants as journal_fault
use Rattle.journaled_book.specs.Lines.{AreLinesOf, IsDamaged}
use Rattle.journaled_book.specs.declared.fault.OpenFault.{OpenFault}
use Rattle.journaled_book.specs.declared.fault.OpenFault.TheVariants.{Damaged, Journal, Memory}

-- each entry of the log was accepted at its place
abbrev pub IsLegalBook : Option Log → Type 0
IsLegalBook None = Unit {0}
IsLegalBook (Some log) = IsLegal log

-- these lines give this book
pub record Give (lines : List (List ℕ)) (log : Option Log) : Type 0 where
  pub are_lines : AreLinesOf lines log
  pub is_legal : IsLegalBook log

-- the line at this place is damaged, and those before it give a book
pub record HasDamageAt (lines : List (List ℕ)) (place : ℕ) : Type 0 where
  pub front : List (List ℕ)
  pub line : List ℕ
  pub later : List (List ℕ)
  pub parts : lines ≡ front ++ line ∷ later
  pub place_is : place ≡ length front
  pub log : Option Log
  pub given : Give front log
  pub is_damaged : IsDamaged log line

-- the entries of the journal are these lines' and ..
abbrev pub OpensTo : List Row → Option Log → Type 0
OpensTo rows log = (lines : List (List ℕ)) × HoldLines rows lines × Give lines log

-- why the lines of a journal can't be had: a gap stands among its entries; or the database shows them not, for this cause
abbrev pub RefusesJournal : State → State → JournalFault → Type 0
RefusesJournal old new (journal_fault.Gap position) = HaveGap (lines_in old) position
RefusesJournal old new (journal_fault.Store cause) = RefusesRows old new (lines_in old) cause
RefusesJournal old new journal_fault.Memory = ⊥

-- why a journal isn't opened; want of memory says nothing of its entries
abbrev pub RefusesOpen : State → State → OpenFault → Type 0
RefusesOpen old new (Damaged place) = (lines : List (List ℕ)) × HoldLines (lines_in old) lines × HasDamageAt lines place
RefusesOpen old new (Journal fault) = RefusesJournal old new fault
RefusesOpen old new Memory = Unit {0}
