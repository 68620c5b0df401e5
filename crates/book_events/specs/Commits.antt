-- Turns that were prepared apart from the book, and are taken where nothing has changed that they were prepared of.
use Rattle.std.specs.Prelude.{◌≡◌, ◌⊎◌, Bool, true, false, Option, Some, None, Result, Ok, Err}
use Rattle.branch_tree.specs.First as first
use Rattle.step_history.specs.Frame.{Frame}
use Rattle.step_history.specs.Phase.{Phase}
use Rattle.step_history.specs.Phase.TheVariants.{Ready}
use Rattle.step_history.specs.Prepared.{Prepared}
use Rattle.step_names.specs.Thread.{Thread}
use Rattle.book_log.specs.Answers.{step_answer}
use Rattle.book_log.specs.Log.{Log, appended, machine_of, world_of}
use Rattle.book_log.specs.declared.entry.Entry.TheVariants.{Step as Stepped}
use Rattle.book_log.specs.declared.moved.Moved.{Moved}
use Rattle.book_log.specs.declared.refusal.Refusal.{Refusal}
use Rattle.book_log.specs.declared.refusal.Refusal.TheVariants as refusal
use Rattle.book_events.specs.Planned.{IsMoveRefusal}
use Rattle.book_events.specs.Tickets.{log_readiness}
use Rattle.book_events.specs.declared.commits.CommitRefusal.{CommitRefusal}
use Rattle.book_events.specs.declared.commits.CommitRefusal.TheVariants.{Stale, Held, Refused}
use Rattle.book_events.specs.declared.commits.Staleness.{Staleness}
use Rattle.book_events.specs.declared.commits.Staleness.TheVariants as stale

abbrev pub is_phase_ready : Phase → Bool
is_phase_ready Ready = true
is_phase_ready _ = false

-- the book's machine of this frame's level is the one of which the turn was prepared, and so is the frame
abbrev pub IsSource : Log → Prepared → Frame → Type 0
IsSource log p f = (f ≡ p.frame) × (machine_of log f.level.machine ≡ Some p.machine)

-- the thread has the frame, and the book the machine, of which the turn was prepared, and the thread may begin
pub record IsFresh (log : Log) (t : Thread) (p : Prepared) : Type 0 where
  pub begins : first.is_free_to_move (log_readiness log t) ≡ true
  pub frame : (world_of log).frames t ≡ Some p.frame
  pub machine : machine_of log p.frame.level.machine ≡ Some p.machine

-- Why a turn is stale: the thread is gone; it isn't ready, or it is as it was prepared of and is a branch that may not begin now; it
-- has made another number of moves; or as many, and its frame or the machine is another.
abbrev pub IsStale : Log → Thread → Prepared → Staleness → Type 0
IsStale log t p stale.Gone = (world_of log).frames t ≡ None
IsStale log t p (stale.NotReady readiness) =
    (f : Frame) × ((world_of log).frames t ≡ Some f) × ((is_phase_ready f.phase ≡ false) ⊎ (IsSource log p f × (first.is_free_to_move (log_readiness log t) ≡ false))) × (readiness ≡ log_readiness log t)
IsStale log t p (stale.Moved count) = (f : Frame) × ((world_of log).frames t ≡ Some f) × (is_phase_ready f.phase ≡ true) × (count ≡ f.count) × (f.count ≡ p.frame.count → ⊥)
IsStale log t p stale.Other = (f : Frame) × ((world_of log).frames t ≡ Some f) × (is_phase_ready f.phase ≡ true) × (f.count ≡ p.frame.count) × (IsSource log p f → ⊥)

abbrev pub IsStaleness : Log → Thread → Prepared → Option Staleness → Type 0
IsStaleness log t p None = IsFresh log t p
IsStaleness log t p (Some why) = IsStale log t p why

-- refused since the step would depend on what a hold has left
abbrev pub tells_hold : Refusal → Bool
tells_hold (refusal.Held step) = true
tells_hold _ = false

-- A turn that is fresh is the thread's step, and is refused as that is; one that isn't is handed back, with the reason, and so is one
-- that is held back.
abbrev pub AnswersCommit : Log → Thread → Prepared → Result Moved CommitRefusal → Type 0
AnswersCommit log t p (Ok moved) = IsFresh log t p × (step_answer log t ≡ Ok moved)
AnswersCommit log t p (Err (Stale why prepared)) = IsStale log t p why × (prepared ≡ p)
AnswersCommit log t p (Err (Held step prepared)) = IsFresh log t p × IsMoveRefusal log t (refusal.Held step) × (prepared ≡ p)
AnswersCommit log t p (Err (Refused e)) = IsFresh log t p × IsMoveRefusal log t e × (tells_hold e ≡ false)

-- how a fresh turn is refused
abbrev pub turn_refused : Refusal → Prepared → CommitRefusal
turn_refused (refusal.Held step) p = Held step p
turn_refused e p = Refused e

-- the log has the step more, or is the same where it is refused
abbrev pub Commits : Log → Result Moved CommitRefusal → Log → Type 0
Commits before (Ok moved) after = after ≡ appended before (Stepped moved.name moved.kind)
Commits before (Err e) after = after ≡ before
