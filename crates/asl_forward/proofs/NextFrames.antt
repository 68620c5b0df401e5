-- What turns give: each frame counts one move more, stays at its level, and stands before a state that is there.
use Rattle.std.proofs.Common.{◌≡◌, ℕ, ◌+◌, List, length, Option, Some, None, Result, Ok, Err, refl}
use Rattle.json_tree.specs.Data.{Data}
use Rattle.json_tree.specs.View.{data_of}
use Rattle.item_store.specs.Calls.{call_of}
use Rattle.item_store.specs.Faults.{validation}
use Rattle.item_store.specs.declared.call.Call.{Call}
use Rattle.asl_frames.specs.Complete.{IsStateName, StaysInside}
use Rattle.asl_frames.specs.Definition.{Definition}
use Rattle.asl_frames.specs.State.{State}
use Rattle.asl_frames.specs.State.TheVariants as state
use Rattle.asl_forward.specs.Forks.{parallel_frames, map_frames}
use Rattle.asl_forward.specs.Outcomes.{action_of, outcome_of_call, task_turn, parks, forks, fork_of, turn, turn_of}
use Rattle.asl_forward.specs.Results.{handled, errors_of, call_fault}
use Rattle.asl_processing.specs.Processing.{effective}
use Rattle.asl_frames.specs.Turn.{Location, next_frame, own_fault}
use Rattle.asl_frames.specs.declared.frame.Fault.{Fault}
use Rattle.asl_frames.specs.declared.frame.Frame.{Frame}
use Rattle.asl_forward.specs.declared.prepared.Outcome.{Outcome}
use Rattle.asl_forward.specs.declared.prepared.Outcome.TheVariants as outcome
use Rattle.asl_frames.proofs.Turns.{next_frame-count, next_frame-level, next_frame-state}
use Rattle.asl_forward.proofs.ResultFrames.{handled-count, handled-level, handled-state, catchers_stay}

-- P of the thread's next frame, where the turn gives one
abbrev pub OnFrame : (Frame → Type 0) → Outcome → Type 0
OnFrame P (outcome.Next g) = P g
OnFrame P (outcome.Call c) = Unit {0}
OnFrame P (outcome.Fork g fs) = P g

turn_frame : (P : Frame → Type 0) (level : Definition) (s : State) (f : Frame) → ((fault : Fault) → P (handled level (errors_of s) f fault)) → ((branches bound : ℕ) → P (parks f branches bound))
    → P (next_frame level s f) → OnFrame P (turn_of level s f)
turn_frame P level (state.Pass s) f err park next = next
turn_frame P level (state.Choice s) f err park next = next
turn_frame P level (state.Wait s) f err park next = next
turn_frame P level (state.Succeed s) f err park next = next
turn_frame P level (state.Fail s) f err park next = next
turn_frame P level (state.Task s) f err park next = on_input (effective s.processing (data_of f.raw))
  where
    on_call : (o : Option Call) → OnFrame P (outcome_of_call level s f o)
    on_call (Some c) = tt
    on_call None = err (call_fault validation)

    on_input : (o : Result Data (List ℕ)) → OnFrame P (task_turn level s f o)
    on_input (Ok input) = on_call (call_of (action_of s.resource) input)
    on_input (Err error) = err (own_fault error)
turn_frame P level (state.Parallel s) f err park next = on_frames (fork_of (parallel_frames s) f (effective s.processing (data_of f.raw)))
  where
    on_frames : (o : Result (List Frame) (List ℕ)) → OnFrame P (forks level s.errors f 0 o)
    on_frames (Ok fs) = park (length fs) 0
    on_frames (Err error) = err (own_fault error)
turn_frame P level (state.Map s) f err park next = on_frames (fork_of (map_frames s) f (effective s.processing (data_of f.raw)))
  where
    on_frames : (o : Result (List Frame) (List ℕ)) → OnFrame P (forks level s.errors f s.max_concurrency o)
    on_frames (Ok fs) = park (length fs) s.max_concurrency
    on_frames (Err error) = err (own_fault error)

pub turn-count : (at : Location) (f : Frame) → OnFrame (λ g. g.count ≡ f.count + 1) (turn at f)
turn-count at f = turn_frame (λ g. g.count ≡ f.count + 1) at.0 at.1 f (handled-count at.0 (errors_of at.1) f) (λ n m. refl) (next_frame-count at.0 at.1 f)

pub turn-level : (at : Location) (f : Frame) → OnFrame (λ g. g.level ≡ f.level) (turn at f)
turn-level at f = turn_frame (λ g. g.level ≡ f.level) at.0 at.1 f (handled-level at.0 (errors_of at.1) f) (λ n m. refl) (next_frame-level at.0 at.1 f)

pub turn-state : (at : Location) (f : Frame) → StaysInside at.0.states at.1 → IsStateName at.0.states f.state → OnFrame (λ g. IsStateName at.0.states g.state) (turn at f)
turn-state at f stays here =
    turn_frame (λ g. IsStateName at.0.states g.state) at.0 at.1 f (λ fault. handled-state at.0 (errors_of at.1) f fault (catchers_stay at.0.states at.1 stays) here) (λ n m. here)
    (next_frame-state at.0 at.1 f stays here)
