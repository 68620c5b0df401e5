-- What a round of workers makes of a book.
use Rattle.std.specs.Prelude.{◌≡◌, ℕ, ◌≤◌, ◌||◌, Bool, true, false, List, [], ◌∷◌, ◌++◌, length, Option}
use Rattle.std.specs.List.{list_any}
use Rattle.std.specs.Option.{is_some}
use Rattle.book_log.specs.Legal.{GoesOnLegally}
use Rattle.book_log.specs.Log.{Log}
use Rattle.book_log.specs.declared.entry.Entry.{Entry}
use Rattle.shared_book.specs.Views.{PassView}
use Rattle.shared_book.specs.declared.refusal.SharedRefusal.{SharedRefusal}
use Rattle.step_workers.specs.Work.{IsStepEntry}
use Rattle.step_workers.specs.declared.outcome.Stopped.{Stopped}
use Rattle.step_workers.specs.declared.outcome.Stopped.TheVariants.{Refused}
use Rattle.book_rounds.specs.declared.rounds.RoundFault.{RoundFault}
use Rattle.book_rounds.specs.declared.rounds.RoundFault.TheVariants.{NotBegun, Lost}

-- each entry is that of a step
abbrev pub AreSteps : List Entry → Type 0
AreSteps [] = Unit {0}
AreSteps (e ∷ es) = IsStepEntry e × AreSteps es

-- the log with these entries more
abbrev pub with_entries : Log → List Entry → Log
with_entries log es = record { begin = log.begin; entries = log.entries ++ es }

-- The log goes on by steps alone, at most so many, each a move where it stands.
pub record IsRound (moves : ℕ) (before after : Log) : Type 0 where
  pub more : List Entry
  pub after_is : after ≡ with_entries before more
  pub steps : AreSteps more
  pub few : length more ≤ moves
  pub legal : GoesOnLegally before more

-- a book that comes back has the log from before
abbrev pub IsLeftBook : {B : Type 0} → (B → Log) → Log → RoundFault B → Type 0
IsLeftBook log_in log (NotBegun book) = log_in book ≡ log
IsLeftBook log_in log Lost = Unit {0}

-- none of the passes has a receipt
abbrev pub AreFresh : List PassView → Type 0
AreFresh [] = Unit {0}
AreFresh (p ∷ ps) = (p.receipts ≡ []) × AreFresh ps

-- a worker was refused a call, or couldn't be started
abbrev pub is_refused_stop : Stopped → Bool
is_refused_stop (Refused e) = true
is_refused_stop _ = false

-- so it is with one of the workers, or something was refused to the one who handed out tickets
abbrev pub is_refused : Option SharedRefusal → List Stopped → Bool
is_refused refused stopped = is_some refused || list_any is_refused_stop stopped
