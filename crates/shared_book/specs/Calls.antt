-- What a call promises to its caller. Between two calls of a pass others may add entries, so a call speaks of some legal log that goes
-- on from that of the book that was shared (`begun`) and that the pass can have seen.
use Rattle.std.specs.Prelude.{◌≡◌, ℕ, ◌+◌, ◌⊎◌, Bool, false, if◌then◌else◌, List, [], ◌∷◌, ◌++◌, length, Option, None, Some, Result, Ok, Err}
use Rattle.step_names.specs.Thread.{Thread}
use Rattle.step_names.specs.declared.step.StepName.{StepName}
use Rattle.book_events.specs.Frame.{Frame}
use Rattle.book_log.specs.Legal.{IsLegal}
use Rattle.book_events.specs.Calls.{IsLatestLeft}
use Rattle.book_events.specs.Commits.{tells_hold}
use Rattle.book_log.specs.Log.{Log, appended, step_on_hold, left_of, world_of}
use Rattle.book_log.specs.declared.entry.Entry.{Entry}
use Rattle.book_log.specs.declared.entry.Entry.TheVariants.{Step as Stepped, Undo, Rollback, Hold}
use Rattle.book_log.specs.declared.refusal.Refusal.{Refusal}
use Rattle.book_log.specs.declared.refusal.Refusal.TheVariants.{Memory, NoStep, NoThread}
use Rattle.shared_book.specs.Numbers.{IsForeign, IsKnown, last_of}
use Rattle.shared_book.specs.Away.{passed_by}
use Rattle.shared_book.specs.Views.{DeskView, PassView, ExtendsLog, with_claims}
use Rattle.shared_book.specs.declared.receipt.Receipt.{Receipt}
use Rattle.shared_book.specs.declared.refusal.SharedRefusal.{SharedRefusal}
use Rattle.shared_book.specs.declared.refusal.SharedRefusal.TheVariants.{Refused, ForeignPass}

-- The log with the receipt's entry is legal, and the receipt has its number. The pass has then seen so far, and holds this receipt
-- after those that it held.
pub record GivesReceipt (begun : Log) (had has : PassView) (r : Receipt) : Type 0 where
  pub before : Log
  pub goes : ExtendsLog begun before
  pub legal : IsLegal (appended before r.entry)
  pub known : IsKnown before.entries had.seen (last_of had.receipts)
  pub number : r.number ≡ length before.entries + 1
  pub now : has ≡ record { seen = r.number; receipts = had.receipts ++ r ∷ []; parts = had.parts }

-- so, and the log before the receipt's entry is this one
abbrev pub GivesAfter : Log → Log → PassView → PassView → Receipt → Type 0
GivesAfter begun at had has r = (given : GivesReceipt begun had has r) × (given.before ≡ at)

-- a legal log that the pass can have seen
pub record MaySee (begun : Log) (had : PassView) (at : Log) : Type 0 where
  pub goes : ExtendsLog begun at
  pub legal : IsLegal at
  pub known : IsKnown at.entries had.seen (last_of had.receipts)

-- it has seen all of it now
pub record Sees (begun : Log) (had has : PassView) (at : Log) : Type 0 where
  pub may : MaySee begun had at
  pub now : has ≡ record { seen = length at.entries; receipts = had.receipts; parts = had.parts }

-- the pass has seen a log now of which this holds
abbrev pub IsShown : Log → PassView → PassView → (Log → Type 0) → Type 0
IsShown begun had has P = (at : Log) × Sees begun had has at × P at

-- ---- refusals

-- the log is none that the pass can have seen
abbrev pub IsForeignTo : Log → PassView → ℕ → Option Entry → Type 0
IsForeignTo begun had number there = (at : Log) × ExtendsLog begun at × IsLegal at × IsForeign at.entries had.seen (last_of had.receipts) number there

-- refused as foreign, or by the book for a cause of which this holds
abbrev pub IsRefusedFor : Log → PassView → (Refusal → Type 0) → SharedRefusal → Type 0
IsRefusedFor begun had Cause (Refused e) = Cause e
IsRefusedFor begun had Cause (ForeignPass number there) = IsForeignTo begun had number there

-- for memory, or as the call is answered at a log that the pass can have seen
abbrev pub IsCause : {T : Type 0} → Log → (Log → Result T Refusal) → PassView → Refusal → Type 0
IsCause begun answer had e = (e ≡ Memory) ⊎ ((at : Log) × MaySee begun had at × (answer at ≡ Err e))

abbrev pub IsRefused : {T : Type 0} → Log → (Log → Result T Refusal) → PassView → SharedRefusal → Type 0
IsRefused begun answer had = IsRefusedFor begun had (IsCause begun answer had)

-- refused as foreign to this log, or by the book for a cause of which this holds
abbrev pub IsRefusedAt : Log → PassView → (Refusal → Type 0) → SharedRefusal → Type 0
IsRefusedAt at had Cause (Refused e) = Cause e
IsRefusedAt at had Cause (ForeignPass number there) = IsForeign at.entries had.seen (last_of had.receipts) number there

-- for memory, or as the call is answered
abbrev pub IsCauseAt : {T : Type 0} → Result T Refusal → Refusal → Type 0
IsCauseAt answer e = (e ≡ Memory) ⊎ (answer ≡ Err e)

-- refused as foreign for what stands at this number, or for memory
abbrev pub IsTurnedAway : ℕ → Option Entry → SharedRefusal → Type 0
IsTurnedAway n entry (Refused e) = e ≡ Memory
IsTurnedAway n entry (ForeignPass number there) = (number ≡ n) × (there ≡ entry)

-- at this log a pass isn't let in, as foreign or for memory
abbrev pub IsNotAdmitted : List Entry → ℕ → Option Receipt → SharedRefusal → Type 0
IsNotAdmitted entries seen last (Refused e) = e ≡ Memory
IsNotAdmitted entries seen last (ForeignPass number there) = IsForeign entries seen last number there

-- ---- held back

-- refused since the step would depend on what a hold has left
abbrev pub is_held : SharedRefusal → Bool
is_held (Refused e) = tells_hold e
is_held (ForeignPass number there) = false

-- a thread that is so refused is passed by, where it was claimed
abbrev pub after_refusal : DeskView → Thread → SharedRefusal → DeskView
after_refusal d t e = if is_held e then with_claims d (passed_by d.claims t) else d

-- ---- which entry

abbrev pub IsStepOf : Thread → Entry → Type 0
IsStepOf thread (Stepped name kind) = name.thread ≡ thread
IsStepOf thread _ = ⊥

abbrev pub IsHoldEntryOf : StepName → Entry → Type 0
IsHoldEntryOf step (Hold name count) = name ≡ step
IsHoldEntryOf step _ = ⊥

abbrev pub IsRollbackOf : StepName → Entry → Type 0
IsRollbackOf step (Rollback name undone) = name ≡ step
IsRollbackOf step _ = ⊥

-- ---- what is left of a hold

-- the undoing of the latest step that is left
abbrev pub IsLatestUndone : Log → Entry → Type 0
IsLatestUndone at (Undo name) = IsLatestLeft at (Some name)
IsLatestUndone at _ = ⊥

-- a receipt as of every call, whose entry takes back the latest step that was left before it
abbrev pub GivesLatest : Log → PassView → PassView → Receipt → Type 0
GivesLatest begun had has r = (given : GivesReceipt begun had has r) × IsLatestUndone given.before r.entry

-- so, and the log before it is this one
abbrev pub GivesLatestAt : Log → Log → PassView → PassView → Receipt → Type 0
GivesLatestAt begun at had has r = (latest : GivesLatest begun had has r) × (latest.0.before ≡ at)

-- for memory, or since nothing is held at this log
abbrev pub IsLatestCauseAt : Log → Refusal → Type 0
IsLatestCauseAt at e = (e ≡ Memory) ⊎ ((e ≡ NoStep) × (step_on_hold at ≡ None))

-- for memory, or since nothing is left at a log that the pass can have seen
abbrev pub IsLatestCause : Log → PassView → Refusal → Type 0
IsLatestCause begun had e = (e ≡ Memory) ⊎ ((e ≡ NoStep) × ((at : Log) × MaySee begun had at × (left_of at ≡ [])))

-- ---- frames

abbrev pub or_no_thread : Option Frame → Result Frame Refusal
or_no_thread (Some f) = Ok f
or_no_thread None = Err NoThread

abbrev pub frame_answer : Log → Thread → Result Frame Refusal
frame_answer log thread = or_no_thread ((world_of log).frames thread)
