-- What is read of a line, and what comes of its command.
use Rattle.std.specs.Prelude.{◌≡◌, ℕ, List, Option, Some}
use Rattle.book_log.specs.Log.{Log}
use Rattle.book_log.specs.declared.refusal.Refusal.{Refusal}
use Rattle.book_log.specs.declared.refusal.Refusal.TheVariants as refusal
use Rattle.book_journal.specs.declared.fault.JournalFault.{JournalFault}
use Rattle.book_journal.specs.declared.fault.JournalFault.TheVariants as journal_fault
use Rattle.command_lines.specs.Grammar.{CommandView, command_of}
use Rattle.journaled_book.specs.Lines.{Adds, Begins, IsDamaged}
use Rattle.journaled_book.specs.declared.fault.LineFault.{LineFault}
use Rattle.journaled_book.specs.declared.fault.LineFault.TheVariants as line_fault
use Rattle.journaled_book.specs.declared.fault.OpenFault.{OpenFault}
use Rattle.journaled_book.specs.declared.fault.OpenFault.TheVariants as open_fault

-- how a fault of the journal is told by an open
abbrev pub open_fault_of : JournalFault → OpenFault
open_fault_of journal_fault.Memory = open_fault.Memory
open_fault_of fault = open_fault.Journal fault

-- how a fault of the line at a place is told by an open
abbrev pub fault_at : ℕ → LineFault → OpenFault
fault_at place line_fault.Damaged = open_fault.Damaged place
fault_at place line_fault.Memory = open_fault.Memory

-- how a book's refusal is told of a line
abbrev pub refused_line : Refusal → LineFault
refused_line refusal.Memory = line_fault.Memory
refused_line e = line_fault.Damaged

-- a line of this command begins this log
abbrev pub BeginsBy : CommandView → Log → Type 0
BeginsBy command log = (line : List ℕ) → command_of line ≡ Some command → Begins line log

-- a line of this command adds its entry
abbrev pub AddsBy : Log → CommandView → Log → Type 0
AddsBy before command after = (line : List ℕ) → command_of line ≡ Some command → Adds before line after

-- a line of this command is damaged
abbrev pub IsDamagedBy : Option Log → CommandView → Type 0
IsDamagedBy before command = (line : List ℕ) → command_of line ≡ Some command → IsDamaged before line
