-- What a function that takes steps does to a book, to the threads that are passed by and to the lines of a reply.
use Rattle.std.specs.Prelude.{IfSome, ◌≡◌, ◌+◌, ◌<◌, ◌^◌, ◌||◌, ◌⊎◌, ℕ, List, [], ◌∷◌, ◌++◌, map, Bool, false, Option, None, Some, Result, Ok, Err}
use Rattle.std.specs.BTreeSet.{BTreeSet, btree_set_len, contains}
use Rattle.std.specs.Ordering.{eq_by_cmp}
use Rattle.step_names.specs.Order.{thread_cmp}
use Rattle.step_names.specs.Thread.{Thread}
use Rattle.step_names.specs.Written.{step_text}
use Rattle.step_names.specs.declared.step.StepName.{StepName}
use Rattle.book_log.specs.Answers.{step_answer}
use Rattle.book_log.specs.Log.{Log, appended, world_of}
use Rattle.book_log.specs.declared.entry.Entry.TheVariants.{Step as Stepped}
use Rattle.book_log.specs.declared.moved.Moved.{Moved}
use Rattle.book_log.specs.declared.refusal.Refusal.TheVariants.{Held, Memory}
use Rattle.journaled_book.specs.Cursor.{Cursor}
use Rattle.journaled_book.specs.Cursors.{LeavesNoneOut, cursor_place}
use Rattle.journaled_book.specs.First.{IsFirstReady}
use Rattle.journaled_book.specs.declared.fault.EntryFault.{EntryFault}
use Rattle.journaled_book.specs.declared.fault.EntryFault.TheVariants as by
use Rattle.reply_lines.specs.Replying.{AreLines}
use Rattle.reply_lines.specs.declared.lines.Lines.{Lines}
use Rattle.operator_line.specs.Answers.{DrivesAtMost, IsLeastEnabled, NeedsHeld, NoneMoves, StopsDrive, Turn, is_held_refusal, turn_steps}
use Rattle.operator_line.specs.declared.driving.Tried.{Tried}
use Rattle.operator_line.specs.declared.driving.Tried.TheVariants.{Taken as StepTaken, PassedBy, NoMove}

-- these lines are of the steps that were taken, at most so many
pub record Taken (count : ℕ) (before after : Log) (lines : Lines) (stop : Option EntryFault) : Type 0 where
  pub turns : List Turn
  pub drives : DrivesAtMost count [] before turns stop after
  pub lines_are : AreLines lines (map step_text (turn_steps turns))

-- the lines are the same
abbrev pub KeepsLines : Lines → Lines → Type 0
KeepsLines old new = (new.count ≡ old.count) × ((texts : List (List ℕ)) → AreLines old texts → AreLines new texts)

-- ---- the threads that are passed by

-- which they are
abbrev pub passed_in : BTreeSet Thread → Thread → Bool
passed_in passed = contains thread_cmp passed

-- one more
pub record AddsThread (t : Thread) (old new : BTreeSet Thread) : Type 0 where
  pub has : (u : Thread) → passed_in new u ≡ (eq_by_cmp thread_cmp t u || passed_in old u)
  pub small : btree_set_len old < 2 ^ 63
  pub more : btree_set_len new ≡ btree_set_len old + 1

abbrev pub is_for_hold : EntryFault → Bool
is_for_hold (by.Book refusal) = is_held_refusal refusal
is_for_hold (by.Journal fault) = false

-- a refusal of a step that needs what is held has its thread passed by; each other is answered, and so is refused memory
abbrev pub PassesBy : Thread → EntryFault → BTreeSet Thread → BTreeSet Thread → Result Tried EntryFault → Type 0
PassesBy t fault old new (Ok StepTaken) = ⊥
PassesBy t fault old new (Ok PassedBy) = (needed : StepName) × (fault ≡ by.Book (Held needed)) × AddsThread t old new
PassesBy t fault old new (Ok NoMove) = ⊥
PassesBy t fault old new (Err told) = (told ≡ by.Book Memory) ⊎ ((told ≡ fault) × (is_for_hold fault ≡ false))

-- ---- from where on a thread is looked for

-- no thread before it has a move but those that are passed by
abbrev pub LooksAtAll : Option Log → BTreeSet Thread → Cursor → Type 0
LooksAtAll log passed from = IfSome log (λ s. LeavesNoneOut s (passed_in passed) (cursor_place from))

-- the first thread that has a move and isn't passed by, as the frames of threads say it
abbrev pub IsFound : (Thread → Bool) → Log → Option Thread → Type 0
IsFound passed log = IsFirstReady (world_of log).frames passed

-- ---- one turn

-- one step is taken, or a thread is passed by, or there is none to try, or it is refused
abbrev pub TakesOne : Log → Log → BTreeSet Thread → BTreeSet Thread → Lines → Lines → Result Tried EntryFault → Type 0
TakesOne before after passed more old new (Ok StepTaken) =
    (m : Moved) × IsLeastEnabled (passed_in passed) before m.name.thread × (step_answer before m.name.thread ≡ Ok m) × (after ≡ appended before (Stepped m.name m.kind))
    × (new.count ≡ old.count + 1) × ((texts : List (List ℕ)) → AreLines old texts → AreLines new (texts ++ step_text m.name ∷ [])) × (more ≡ passed)
TakesOne before after passed more old new (Ok PassedBy) =
    (t : Thread) × IsLeastEnabled (passed_in passed) before t × NeedsHeld before t × (after ≡ before) × KeepsLines old new × AddsThread t passed more
TakesOne before after passed more old new (Ok NoMove) = NoneMoves (passed_in passed) before × (after ≡ before) × KeepsLines old new
TakesOne before after passed more old new (Err fault) = StopsDrive (passed_in passed) before fault × (after ≡ before) × KeepsLines old new

-- the threads that are passed by are the same, or one more
abbrev pub GrowsPassedBy : BTreeSet Thread → BTreeSet Thread → Result Tried EntryFault → Type 0
GrowsPassedBy old new (Ok StepTaken) = new ≡ old
GrowsPassedBy old new (Ok PassedBy) = (btree_set_len old < 2 ^ 63) × (btree_set_len new ≡ btree_set_len old + 1)
GrowsPassedBy old new (Ok NoMove) = Unit {0}
GrowsPassedBy old new (Err fault) = Unit {0}

-- ---- of a session with a book

abbrev pub TakesOneOf : Option Log → Option Log → BTreeSet Thread → BTreeSet Thread → Lines → Lines → Result Tried EntryFault → Type 0
TakesOneOf old new passed more lines longer result = (before : Log) → old ≡ Some before → (after : Log) × (new ≡ Some after) × TakesOne before after passed more lines longer result

abbrev pub TakenOf : ℕ → Option Log → Option Log → Lines → Option EntryFault → Type 0
TakenOf count old new lines stop = (before : Log) → old ≡ Some before → (after : Log) × (new ≡ Some after) × Taken count before after lines stop

-- the least thread that has a move and isn't passed by, if there is one
abbrev pub IsFirstMoving : (Thread → Bool) → Log → Option Thread → Type 0
IsFirstMoving passed log None = NoneMoves passed log
IsFirstMoving passed log (Some t) = IsLeastEnabled passed log t
