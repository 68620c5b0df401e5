-- What a run over a connection comes to: its status, and what it writes.
use Rattle.std.specs.Prelude.{◌≡◌, ◌⊎◌, ℕ, ◌+◌, Bool, true, false, List, [], ◌∷◌, ◌++◌, length, Option, None, Some, Result, Ok, Err, IfSome, MatchOption, codes, string_bytes}
use Rattle.std.specs.Fmt.{decimal}
use Rattle.std.specs.Io.KnownBytes.{Appends, Keeps}
use Rattle.sqlite.specs.State.{State, HasCleanDisk}
use Rattle.sqlite.specs.declared.error.Error.{Error}
use Rattle.operator_line.specs.Log.{Log, remaining}
use Rattle.book_journal.specs.Faults.{journal_fault_of}
use Rattle.book_journal.specs.Kept.{lines_in, IsOpened, IsSame}
use Rattle.journaled_book.specs.Changes.{IsRead}
use Rattle.journaled_book.specs.Journaled.{IsJournalOf}
use Rattle.operator_line.specs.Opening.{OpensTo, RefusesOpen}
use Rattle.operator_line.specs.OpenFault.{OpenFault}
use Rattle.operator_line.specs.Handing.{Hands}
use Rattle.operator_line.specs.Serving.{Serves}
use Rattle.operator_line.specs.Sessions.{KeepsOne}
use Rattle.operator_line.specs.Texts.{lines_of}
use Rattle.operator_line.specs.declared.serving.ServeFault.{ServeFault}
use Rattle.rollback_run.specs.Faults.{of_journal, of_open, outcome_status, served, usage_text, IsBegun, IsExitFaultSaid}
use Rattle.rollback_run.specs.declared.fault.ExitFault.{ExitFault}
use Rattle.rollback_run.specs.declared.fault.ExitFault.TheVariants as fault
use Rattle.rollback_run.specs.declared.fault.ExitFault.TheVariants.{Output}
use Rattle.rollback_run.specs.declared.mode.Mode.{Mode}
use Rattle.rollback_run.specs.declared.mode.Mode.TheVariants.{InMemory, Journal, Check}
use Rattle.rollback_run.specs.declared.mode.ModeRefusal.{ModeRefusal}
use Rattle.rollback_run.specs.declared.mode.ModeRefusal.TheVariants.{Shown, Usage, Memory}

-- ---- what a check prints

-- how many lines the journal of a book has, and how many steps remain
abbrev pub sizes_of : Option Log → ℕ × ℕ
sizes_of None = (0, 0)
sizes_of (Some log) = (length log.entries + 1, length (remaining log))

abbrev pub sizes_text : ℕ × ℕ → List ℕ
sizes_text sizes = codes "ok " ++ (decimal sizes.0 ++ 32 ∷ (decimal sizes.1 ++ 10 ∷ []))

-- ---- what a connection gives: `show` is what one shows that is held so

module _ {Held : Type 0} (show : Held → State) where
  -- The connection's journal was opened and read, which left it as it was, and its lines give this book. Of a disk that failed nothing is said.
  pub record GivesJournal (connection loaded : Held) (book : Option Log) : Type 0 where
    pub journal : Held
    pub is_opened : HasCleanDisk (show journal) → IsOpened (show connection) (show journal)
    pub is_read : IsRead (show journal) (show loaded)
    pub gives : HasCleanDisk (show loaded) → OpensTo (lines_in (show journal)) book

  -- the connection's journal was opened and read, which left it as it was, and gives no book for this reason
  pub record RefusesOpening (connection left : Held) (reason : OpenFault) : Type 0 where
    pub journal : Held
    pub is_opened : HasCleanDisk (show journal) → IsOpened (show connection) (show journal)
    pub is_read : IsRead (show journal) (show left)
    pub refuses : HasCleanDisk (show left) → RefusesOpen (show journal) (show left) reason

  -- the database refuses to open a journal, for this cause
  pub record ExitsForJournal (connection left : Held) (fault : ExitFault) : Type 0 where
    pub cause : Error
    pub told : fault ≡ of_journal (journal_fault_of cause)
    pub same : HasCleanDisk (show left) → IsSame (show connection) (show left)

  -- the database refuses to open a journal, or the journal gives no book
  abbrev pub GivesNoJournal : Held → Held → ExitFault → Type 0
  GivesNoJournal connection left fault =
      ExitsForJournal connection left fault ⊎ ((reason : OpenFault) × (fault ≡ of_open reason) × RefusesOpening connection left reason)

  abbrev pub OpensJournal : Result Held Error → Held → Option Log → Type 0
  OpensJournal (Ok connection) loaded book = GivesJournal connection loaded book
  OpensJournal (Err cause) loaded book = ⊥

  -- a connection that gives no book is handed out too
  abbrev pub OpensNoJournal : Result Held Error → Option Held → ExitFault → Type 0
  OpensNoJournal (Ok connection) left fault = MatchOption left ⊥ (λ held. GivesNoJournal connection held fault)
  OpensNoJournal (Err cause) left fault = (left ≡ None) × (fault ≡ of_journal (journal_fault_of cause))

-- ---- what is done with the book

-- What was written answers the input from this book on, as far as the end says that it was served, and this is the book then.
pub record IsServed (outcome : Result Unit ExitFault) (book after : Option Log) (input old new : Option (List ℕ)) : Type 0 where
  pub end : Result Unit ServeFault
  pub answers : IfSome input (λ text. Serves end text book after old new)
  pub told : outcome ≡ served end

-- The sizes are printed, or can't be: then a beginning of them is.
abbrev pub IsPrinted : Result Unit ExitFault → List ℕ → Option (List ℕ) → Option (List ℕ) → Type 0
IsPrinted (Ok done) text old new = Appends old new text
IsPrinted (Err why) text old new = (why ≡ Output) × IsBegun text old new

-- nothing is read for a check, and the book is as it was
pub record IsChecked (outcome : Result Unit ExitFault) (book after : Option Log) (input left old new : Option (List ℕ)) : Type 0 where
  pub printed : IsPrinted outcome (sizes_text (sizes_of book)) old new
  pub unread : left ≡ input
  pub same : after ≡ book

abbrev pub IsDone : Mode → Result Unit ExitFault → Option Log → Option Log → Option (List ℕ) → Option (List ℕ) → Option (List ℕ) → Option (List ℕ) → Type 0
IsDone InMemory outcome book after input left old new = IsServed outcome book after input old new
IsDone (Journal file) outcome book after input left old new = IsServed outcome book after input old new
IsDone (Check file) outcome book after input left old new = IsChecked outcome book after input left old new

abbrev pub is_check : Mode → Bool
is_check InMemory = false
is_check (Journal file) = false
is_check (Check file) = true

-- the connection has to be closed if the input was served to its end on a file's journal
abbrev pub has_to_close : Mode → Result Unit ExitFault → Bool
has_to_close (Journal file) (Ok done) = true
has_to_close mode outcome = false

module _ {Held : Type 0} (show : Held → State) where
  -- The journal was handed the lines of the input and no others: all of them if serving ended well, else the first ones. A check changes
  -- nothing. Either way the journal's lines are those of the book then.
  pub record LeavesJournal (mode : Mode) (outcome : Result Unit ExitFault) (input : Option (List ℕ)) (after : Option Log) (loaded left : Held) : Type 0 where
    pub handed : is_check mode ≡ false → IfSome input (λ text. Hands (KeepsOne show) outcome (lines_of text) loaded left)
    pub unchanged : is_check mode ≡ true → left ≡ loaded
    pub holds : IsJournalOf (show left) after

  -- the mode is done of this book and of its journal
  pub record IsProgramRun (mode : Mode) (outcome : Result Unit ExitFault) (book : Option Log) (loaded left : Held) (input rest old new : Option (List ℕ)) : Type 0 where
    pub after : Option Log
    pub is_done : IsDone mode outcome book after input rest old new
    pub leaves : LeavesJournal mode outcome input after loaded left

  -- ---- the whole run

  -- there is a book, and the mode is done of it
  pub record HasBook (mode : Mode) (connection : Result Held Error) (outcome : Result Unit ExitFault) (left : Held) (input rest old new : Option (List ℕ)) : Type 0 where
    pub book : Option Log
    pub loaded : Held
    pub opens : OpensJournal show connection loaded book
    pub is_run : IsProgramRun mode outcome book loaded left input rest old new

  -- there is none for this fault, and nothing is read or written
  pub record HasNone (connection : Result Held Error) (outcome : Result Unit ExitFault) (left : Option Held) (input rest old new : Option (List ℕ)) : Type 0 where
    pub fault : ExitFault
    pub is_fault : outcome ≡ Err fault
    pub opens_none : OpensNoJournal show connection left fault
    pub unread : rest ≡ input
    pub unwritten : Keeps old new

  abbrev pub HasOutcome : Mode → Result Held Error → Result Unit ExitFault → Option Held → Option (List ℕ) → Option (List ℕ) → Option (List ℕ) → Option (List ℕ) → Type 0
  HasOutcome mode connection outcome left input rest old new =
      MatchOption left ⊥ (λ held. HasBook mode connection outcome held input rest old new) ⊎ HasNone connection outcome left input rest old new

-- where all went well, what comes of closing the file
abbrev pub after_closing : Result Unit ExitFault → Result Unit Error → Result Unit ExitFault
after_closing (Err fault) closed = Err fault
after_closing (Ok done) (Ok closed) = Ok done
after_closing (Ok done) (Err cause) = Err (of_journal (journal_fault_of cause))

-- the status and the words on standard error tell how a run ended, and how its file was closed
pub record IsStatus (outcome : Result Unit ExitFault) (closed : Result Unit Error) (status : ℕ) (quiet said : Option (List ℕ)) : Type 0 where
  pub status_is : status ≡ outcome_status (after_closing outcome closed)
  pub told : IsExitFaultSaid (after_closing outcome closed) quiet said

-- ---- words that name no mode

-- a beginning of a text is shown, and then it is told that the output can't be written
pub record IsCutShort (text : List ℕ) (old new quiet said : Option (List ℕ)) : Type 0 where
  pub begun : IsBegun text old new
  pub told : IsExitFaultSaid (Err Output) quiet said

abbrev pub IsTextShown : ℕ → List ℕ → Option (List ℕ) → Option (List ℕ) → Option (List ℕ) → Option (List ℕ) → Type 0
IsTextShown status text old new quiet said = ((status ≡ 0) × Appends old new text × Keeps quiet said) ⊎ ((status ≡ 4) × IsCutShort text old new quiet said)

abbrev pub IsModeRefusal : ModeRefusal → ℕ → Option (List ℕ) → Option (List ℕ) → Option (List ℕ) → Option (List ℕ) → Type 0
IsModeRefusal (Shown text) status old new quiet said = IsTextShown status (string_bytes text) old new quiet said
IsModeRefusal Usage status old new quiet said = (status ≡ 2) × Keeps old new × IsBegun usage_text quiet said
IsModeRefusal Memory status old new quiet said = (status ≡ 4) × Keeps old new × IsExitFaultSaid (Err fault.Memory) quiet said
