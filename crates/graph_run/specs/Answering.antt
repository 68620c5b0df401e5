-- What the answering of a question comes to: which book the journal gives, and what is written.
use Rattle.std.specs.Prelude.{◌≡◌, ◌⊎◌, ℕ, List, Bool, Option, Result, Ok, Err, codes, string_bytes}
use Rattle.std.specs.Io.KnownBytes.{Appends, Keeps}
use Rattle.std.specs.declared.alloc.AllocError.{AllocError}
use Rattle.sqlite.specs.State.{State, HasCleanDisk}
use Rattle.sqlite.specs.declared.error.Error.{Error}
use Rattle.book_journal.specs.Faults.{journal_fault_of}
use Rattle.book_journal.specs.Kept.{lines_in, IsOpened}
use Rattle.rollback_run.specs.Log.{Log}
use Rattle.rollback_run.specs.Opening.{OpensTo, RefusesOpen}
use Rattle.rollback_run.specs.OpenFault.{OpenFault}
use Rattle.journaled_book.specs.Changes.{IsRead}
use Rattle.graph_text.specs.declared.asking.Answer.{Answer}
use Rattle.graph_text.specs.Writing.{text_on}
use Rattle.rollback_run.specs.Faults.{of_journal, of_open, IsBegun, IsExitFaultSaid}
use Rattle.rollback_run.specs.Status.{IsTextShown}
use Rattle.rollback_run.specs.declared.fault.ExitFault.{ExitFault}
use Rattle.rollback_run.specs.declared.fault.ExitFault.TheVariants as fault
use Rattle.graph_run.specs.declared.asked.AskRefusal.{AskRefusal}
use Rattle.graph_run.specs.declared.asked.AskRefusal.TheVariants.{Shown, Usage, Memory}

-- ---- what a connection gives: `show` is what one shows that is held so

module _ {Held : Type 0} (show : Held → State) where
  -- The connection's journal was opened, its lines give this book, and they stay as they were. Of a disk that failed nothing is said.
  pub record GivesFile (connection : Held) (book : Option Log) : Type 0 where
    pub journal : Held
    pub loaded : Held
    pub is_opened : HasCleanDisk (show journal) → IsOpened (show connection) (show journal)
    pub gives : HasCleanDisk (show loaded) → OpensTo (lines_in (show journal)) book
    pub is_read : IsRead (show journal) (show loaded)

  -- the connection's journal was opened, and gives no book for this reason; its lines stay as they were
  pub record RefusesFile (connection : Held) (reason : OpenFault) : Type 0 where
    pub journal : Held
    pub left : Held
    pub is_opened : HasCleanDisk (show journal) → IsOpened (show connection) (show journal)
    pub refuses : HasCleanDisk (show left) → RefusesOpen (show journal) (show left) reason
    pub is_read : IsRead (show journal) (show left)

  -- the database refuses to open a journal, or the journal gives no book
  abbrev pub GivesNoFile : Held → ExitFault → Type 0
  GivesNoFile connection cause =
      ((error : Error) × (cause ≡ of_journal (journal_fault_of error))) ⊎ ((reason : OpenFault) × (cause ≡ of_open reason) × RefusesFile connection reason)

  abbrev pub OpensFile : Result Held Error → Option Log → Type 0
  OpensFile (Ok connection) book = GivesFile connection book
  OpensFile (Err error) book = ⊥

  abbrev pub OpensNoFile : Result Held Error → ExitFault → Type 0
  OpensNoFile (Ok connection) cause = GivesNoFile connection cause
  OpensNoFile (Err error) cause = cause ≡ of_journal (journal_fault_of error)

-- ---- what is written

-- an answer's text is written, or a beginning of it where the output can't be written
abbrev pub IsAnswerWritten : Answer → Result Bool ExitFault → Option (List ℕ) → Option (List ℕ) → Type 0
IsAnswerWritten answer (Ok found) old new = (found ≡ answer.is_found) × Appends old new (text_on answer.page)
IsAnswerWritten answer (Err cause) old new = (cause ≡ fault.Output) × IsBegun (text_on answer.page) old new

-- nothing is where memory for it is refused
abbrev pub IsQuestionAnswered : Result Answer AllocError → Result Bool ExitFault → Option (List ℕ) → Option (List ℕ) → Type 0
IsQuestionAnswered (Ok answer) result old new = IsAnswerWritten answer result old new
IsQuestionAnswered (Err error) result old new = (result ≡ Err fault.Memory) × Keeps old new

-- some answer is
abbrev pub AnswersQuestion : Result Bool ExitFault → Option (List ℕ) → Option (List ℕ) → Type 0
AnswersQuestion result old new = (answered : Result Answer AllocError) × IsQuestionAnswered answered result old new

-- There is a book, of which an answer is written; or there is none for this cause, and then nothing is written.
module _ {Held : Type 0} (show : Held → State) where
  abbrev pub HasAnswer : Result Held Error → Result Bool ExitFault → Option (List ℕ) → Option (List ℕ) → Type 0
  HasAnswer connection result old new =
      ((book : Option Log) × OpensFile show connection book × AnswersQuestion result old new)
      ⊎ ((cause : ExitFault) × (result ≡ Err cause) × OpensNoFile show connection cause × Keeps old new)

-- ---- words that ask for nothing

abbrev pub graph_usage_text : List ℕ
graph_usage_text = codes "usage: rollback_graph FILE QUESTION [--json], or rollback_graph [FILE] --serve; rollback_graph --help lists the questions\n"

-- the status, what is shown, and what is told on standard error
abbrev pub IsAskRefusal : AskRefusal → ℕ → Option (List ℕ) → Option (List ℕ) → Option (List ℕ) → Option (List ℕ) → Type 0
IsAskRefusal (Shown text) status old new quiet said = IsTextShown status (string_bytes text) old new quiet said
IsAskRefusal Usage status old new quiet said = (status ≡ 2) × Keeps old new × IsBegun graph_usage_text quiet said
IsAskRefusal Memory status old new quiet said = (status ≡ 4) × Keeps old new × IsExitFaultSaid (Err fault.Memory) quiet said
