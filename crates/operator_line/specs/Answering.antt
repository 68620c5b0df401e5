-- What comes of a line, and of a round of workers, in the program's own words.
use Rattle.std.specs.Prelude.{◌≡◌, ◌⊎◌, ℕ, Bool, true, false, List, [], ◌∷◌, drop, length, Option, Some, Result, Ok, Err, IsSome, string_bytes}
use Rattle.std.specs.declared.alloc.AllocError.{AllocError}
use Rattle.step_names.specs.declared.step.StepName.{StepName}
use Rattle.book_log.specs.Log.{Log}
use Rattle.book_log.specs.declared.entry.Entry.{Entry}
use Rattle.book_log.specs.declared.entry.Entry.TheVariants.{Define, Start, Step as Stepped, Undo, Rollback, Settle, Hold}
use Rattle.book_rounds.specs.Rounds.{AreSteps, with_entries}
use Rattle.command_lines.specs.Grammar as command_view
use Rattle.command_lines.specs.Grammar.{CommandView}
use Rattle.reply_lines.specs.Replies.{names_reply}
use Rattle.operator_line.specs.Answers.{AnswersLine, AnswersView, AnswersCommand, HasNoRoom}
use Rattle.operator_line.specs.Serving.{IsWork}
use Rattle.operator_line.specs.declared.session.Answered.{Answered}
use Rattle.operator_line.specs.declared.session.Answered.TheVariants.{Told, Lost}
use Rattle.operator_line.specs.declared.working.Worked.{Worked}
use Rattle.operator_line.specs.declared.working.Worked.TheVariants as worked

-- the session has failed
abbrev pub is_lost : Result Answered AllocError → Bool
is_lost (Ok Told) = false
is_lost (Ok Lost) = true
is_lost (Err e) = false

abbrev pub is_work : CommandView → Bool
is_work (command_view.work workers moves) = true
is_work _ = false

-- the line is answered, or was a round's on a book that is lost
abbrev pub AnswersBy : Answered → Option Log → Option (List ℕ) → List ℕ → Option Log → Type 0
AnswersBy Told before line reply after = AnswersLine before line reply after
AnswersBy Lost before line reply after = IsWork line × IsSome before × (after ≡ before)

-- the same of what the line says
abbrev pub SaysWork : Option CommandView → Type 0
SaysWork said = (workers : ℕ) × (moves : ℕ) × (said ≡ Some (command_view.work workers moves))

abbrev pub AnswersTextBy : Answered → Option Log → Option CommandView → List ℕ → Option Log → Type 0
AnswersTextBy Told before said reply after = AnswersView before said reply after
AnswersTextBy Lost before said reply after = SaysWork said × IsSome before × (after ≡ before)

-- ---- a round

-- the names of steps, by their entries
abbrev pub stepped_names : List Entry → List StepName
stepped_names [] = []
stepped_names (Stepped name kind ∷ es) = name ∷ stepped_names es
stepped_names (Define name machine ∷ es) = stepped_names es
stepped_names (Start exec machine input ∷ es) = stepped_names es
stepped_names (Undo name ∷ es) = stepped_names es
stepped_names (Rollback name undone ∷ es) = stepped_names es
stepped_names (Settle ∷ es) = stepped_names es
stepped_names (Hold name count ∷ es) = stepped_names es

-- the entries after the first so many
abbrev pub since : ℕ → Log → List Entry
since begun log = drop begun log.entries

-- the log goes on from one of so many entries, by steps alone
pub record GoesOnFrom (begun : ℕ) (before : Option Log) (after : Log) : Type 0 where
  pub was : Log
  pub before_is : before ≡ Some was
  pub begun_is : begun ≡ length was.entries
  pub after_is : after ≡ with_entries was (since begun after)
  pub steps : AreSteps (since begun after)

-- a round is answered, or nothing has changed; a book that was there may be lost
abbrev pub WorksBy : Worked → Option Log → ℕ → ℕ → Option Log → Type 0
WorksBy (worked.Told reply) before workers moves after = AnswersCommand before (command_view.work workers moves) (string_bytes reply.text) after
WorksBy worked.NoMemory before workers moves after = after ≡ before
WorksBy worked.Lost before workers moves after = IsSome before × (after ≡ before)

-- this is answered, or memory was refused
abbrev pub IsToldOr : List ℕ → Worked → Type 0
IsToldOr text (worked.Told reply) = string_bytes reply.text ≡ text
IsToldOr text worked.NoMemory = Unit {0}
IsToldOr text worked.Lost = ⊥

-- the steps since then are listed, or the session has failed
abbrev pub SettlesWork : Worked → ℕ → Option Log → Log → Option Log → Type 0
SettlesWork (worked.Told reply) begun before now after = (string_bytes reply.text ≡ names_reply (stepped_names (since begun now))) × (after ≡ Some now)
SettlesWork worked.NoMemory begun before now after = ⊥
SettlesWork worked.Lost begun before now after = after ≡ before

-- the answer is that no step was taken, or that there is no room for one
abbrev pub TellsNone : Log → List ℕ → Type 0
TellsNone log text = (text ≡ names_reply []) ⊎ HasNoRoom log text (Some log)

-- no step was taken, which is answered, or memory was refused
abbrev pub Stays : Worked → Log → Type 0
Stays (worked.Told reply) log = TellsNone log (string_bytes reply.text)
Stays worked.NoMemory log = Unit {0}
Stays worked.Lost log = ⊥

abbrev pub is_gone : Worked → Bool
is_gone worked.Lost = true
is_gone _ = false
