-- A session, as its contracts see it: a book whose commands stand in a journal; or, where the book was lost, that journal, and the
-- book that its lines are of.
use Rattle.std.specs.Prelude.{◌≡◌, ◌⊎◌, ℕ, List, [], ◌∷◌, Bool, true, false, Option, None, Some, refl}
use Rattle.std.specs.Coded.{Coded, code_by, coded×, coded_bool}
use Rattle.sqlite.specs.Held.{Held}
use Rattle.sqlite.specs.State.{State, HasCleanDisk}
use Rattle.book_journal.specs.Kept.{IsSame}
use Rattle.book_log.specs.Log.{Log}
use Rattle.command_lines.specs.Grammar as command_view
use Rattle.command_lines.specs.Grammar.{CommandView, command_of}
use Rattle.journaled_book.specs.Changes.{HasLines}
use Rattle.journaled_book.specs.Journaled.{Journaled, log_of}
use Rattle.operator_line.specs.declared.session.Hand.{Hand}
use Rattle.operator_line.specs.declared.session.Hand.TheVariants.{Open, Failed}

pub record Sitting (B S : Type 0) : Type 0 where
  pub is_failed : Bool
  pub book : Option B
  pub journal : Held S

abbrev pub sitting : {B S : Type 0} → Bool → Journaled B S → Sitting B S
sitting is_failed held = record { is_failed = is_failed; book = held.book; journal = held.journal }

abbrev pub sitting_code : {B S : Type 0} → Coded (Journaled B S) → Coded (Sitting B S)
sitting_code {B} {S} held =
    code_by (Bool × Journaled B S) (coded× coded_bool held) (λ s. (s.is_failed, record { book = s.book; journal = s.journal })) (λ p. sitting p.0 p.1) (λ _. refl)

abbrev pub sitting_of : {B S M : Type 0} → Hand B S M → Sitting B S
sitting_of (Open held) = sitting false held
sitting_of (Failed held) = sitting true held

-- the log of the journal's lines, none before a table is given
abbrev pub session_log : {B S : Type 0} → (B → Log) → Sitting B S → Option Log
session_log log session = log_of log session.book

-- the same of a session that hasn't failed
abbrev pub log_in : {B S : Type 0} → (B → Log) → Journaled B S → Option Log
log_in log held = log_of log held.book

-- ---- the line of a command

-- each step of the command has a line of its own, which the session writes
abbrev pub has_own_lines : Option CommandView → Bool
has_own_lines (Some (command_view.drive count)) = true
has_own_lines (Some (command_view.work workers moves)) = true
has_own_lines _ = false

-- a disk that is clean was so before
abbrev pub WasClean : {S : Type 0} → (S → State) → S → S → Type 0
WasClean shown old new = HasCleanDisk (shown new) → HasCleanDisk (shown old)

-- While the disk is clean, the journal's lines are those from before, or those and this line behind them.
pub record KeepsLine {S : Type 0} (shown : S → State) (line : List ℕ) (old new : S) : Type 0 where
  pub lines : HasCleanDisk (shown new) → HasLines (shown old) (shown new) (line ∷ []) ⊎ IsSame (shown old) (shown new)
  pub clean : WasClean shown old new

-- what was read of a line that is no such command's; of one that is too long nothing is kept
abbrev pub KeepsRead : {S : Type 0} → (S → State) → Option (List ℕ) → S → S → Type 0
KeepsRead shown None old new = HasCleanDisk (shown new) → IsSame (shown old) (shown new)
KeepsRead shown (Some line) old new = has_own_lines (command_of line) ≡ false → KeepsLine shown line old new

-- the same of each line that is read, and the disk of one line's journal that is clean was so before it
pub record KeepsOne {S : Type 0} (shown : S → State) (line : Option (List ℕ)) (old new : S) : Type 0 where
  pub read : KeepsRead shown line old new
  pub clean : WasClean shown old new
