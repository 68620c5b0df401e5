-- How an error of the database is told, and when it comes.
use Rattle.std.specs.Prelude.{◌≡◌, ◌⊎◌, ℕ, false, List, Contains, IsTrue, IsSome, IsUtf8}
use Rattle.sqlite.specs.Disk.{MoreFaults}
use Rattle.sqlite.specs.declared.error.ErrorCode.TheVariants.{OutOfMemory, Closed, OperationInterrupted}
use Rattle.sqlite.specs.declared.types.Value.{Value}
use Rattle.sqlite.specs.declared.types.Value.TheVariants.{Text}
use Rattle.sqlite.specs.Order.{Row, column}
use Rattle.sqlite.specs.State.{State, is_disk_error}
use Rattle.sqlite.specs.Values.{IsInt}
use Rattle.sqlite.specs.declared.error.Error.{Error}
use Rattle.sqlite.specs.declared.error.Error.TheVariants.{SqliteFailure}
use Rattle.book_journal.specs.declared.fault.JournalFault.{JournalFault}
use Rattle.book_journal.specs.declared.fault.JournalFault.TheVariants.{Store, Gap, Memory}

-- want of memory by its own name, and every other error as the cause
abbrev pub journal_fault_of : Error → JournalFault
journal_fault_of (SqliteFailure OutOfMemory) = Memory
journal_fault_of cause = Store cause

-- a gap, or an error of the database as it is told
abbrev pub IsNamed : JournalFault → Type 0
IsNamed fault = ((position : ℕ) × (fault ≡ Gap position)) ⊎ ((cause : Error) × (fault ≡ journal_fault_of cause))

-- why the rows of a table can't be had: want of memory, a fault of the disk, a connection that is shut, or its own limit on steps
abbrev pub HasReadCause : State → State → Error → Type 0
HasReadCause old new cause =
    (cause ≡ SqliteFailure OutOfMemory)
    ⊎ ((IsTrue (is_disk_error cause) × MoreFaults old.faults new.faults)
    ⊎ (((cause ≡ SqliteFailure Closed) × (old.is_open ≡ false))
    ⊎ ((cause ≡ SqliteFailure OperationInterrupted) × IsSome old.step_limit)))

abbrev pub IsText : Value → Type 0
IsText value = (text : List ℕ) × (value ≡ Text text) × IsUtf8 text

-- the row is no entry: its number is no integer, or its line no text
abbrev pub IsUnreadable : Row → Type 0
IsUnreadable row = (¬ IsInt (column row 0)) ⊎ (¬ IsText (column row 1))

abbrev pub HaveUnreadable : List Row → Type 0
HaveUnreadable rows = (row : Row) × Contains rows row × IsUnreadable row

-- why a database with these entries refuses to show them, or to tell the last
abbrev pub RefusesRows : State → State → List Row → Error → Type 0
RefusesRows old new rows cause = HasReadCause old new cause ⊎ HaveUnreadable rows

-- the fault tells why a journal with these entries wasn't opened
abbrev pub TellsRefusal : State → State → List Row → JournalFault → Type 0
TellsRefusal old new rows fault = (cause : Error) × (fault ≡ journal_fault_of cause) × RefusesRows old new rows cause
