-- What a turn comes to, for every state: a Task asks the table, a Parallel and a Map fork, and the others move on by
-- themselves (Amazon States Language: "Task State", "Parallel State", "Map State").
use Rattle.std.specs.Prelude.{ℕ, ◌+◌, List, length, Option, None, Some, Result, Ok, Err}
use Rattle.json_tree.specs.Data.{Data}
use Rattle.json_tree.specs.View.{data_of}
use Rattle.item_store.specs.Calls.{call_of}
use Rattle.item_store.specs.Faults.{validation}
use Rattle.item_store.specs.declared.call.Action.{Action}
use Rattle.item_store.specs.declared.call.Action.TheVariants as action
use Rattle.item_store.specs.declared.call.Call as call
use Rattle.asl_processing.specs.ErrorHandling.{ErrorHandling}
use Rattle.asl_frames.specs.Definition.{Definition}
use Rattle.asl_processing.specs.Resource.{Resource}
use Rattle.asl_processing.specs.Resource.TheVariants.{GetItem, PutItem, DeleteItem}
use Rattle.asl_frames.specs.State.{State}
use Rattle.asl_frames.specs.State.TheVariants as state
use Rattle.asl_processing.specs.Task.{Task}
use Rattle.asl_forward.specs.Forks.{parallel_frames, map_frames}
use Rattle.asl_forward.specs.Results.{handled, call_fault}
use Rattle.asl_processing.specs.Processing.{effective}
use Rattle.asl_frames.specs.Turn.{Location, next_frame, own_fault}
use Rattle.asl_frames.specs.declared.frame.Fault.{Fault}
use Rattle.asl_frames.specs.declared.frame.Frame.{Frame}
use Rattle.asl_frames.specs.declared.frame.Phase.TheVariants.{Parked}
use Rattle.asl_forward.specs.declared.prepared.Outcome.{Outcome}
use Rattle.asl_forward.specs.declared.prepared.Outcome.TheVariants as outcome

abbrev pub action_of : Resource → Action
action_of GetItem = action.GetItem
action_of PutItem = action.PutItem
action_of DeleteItem = action.DeleteItem

abbrev pub fails : Definition → ErrorHandling → Frame → Fault → Outcome
fails level errors f fault = outcome.Next (handled level errors f fault)

-- the effective input is the call; a malformed one is refused at once
abbrev pub outcome_of_call : Definition → Task → Frame → Option call.Call → Outcome
outcome_of_call level s f (Some c) = outcome.Call c
outcome_of_call level s f None = fails level s.errors f (call_fault validation)

abbrev pub task_turn : Definition → Task → Frame → Result Data (List ℕ) → Outcome
task_turn level s f (Ok input) = outcome_of_call level s f (call_of (action_of s.resource) input)
task_turn level s f (Err error) = fails level s.errors f (own_fault error)

-- the frame over so many branches, of which so many may run at a time; 0 is no bound
abbrev pub parks : Frame → ℕ → ℕ → Frame
parks f branches bound = record { level = f.level; state = f.state; raw = f.raw; retries = f.retries; count = f.count + 1; phase = Parked branches bound }

abbrev pub forks : Definition → ErrorHandling → Frame → ℕ → Result (List Frame) (List ℕ) → Outcome
forks level errors f bound (Ok frames) = outcome.Fork (parks f (length frames) bound) frames
forks level errors f bound (Err error) = fails level errors f (own_fault error)

abbrev pub fork_of : (Frame → Data → Result (List Frame) (List ℕ)) → Frame → Result Data (List ℕ) → Result (List Frame) (List ℕ)
fork_of begin f (Ok input) = begin f input
fork_of begin f (Err error) = Err error

abbrev pub turn_of : Definition → State → Frame → Outcome
turn_of level (state.Task s) f = task_turn level s f (effective s.processing (data_of f.raw))
turn_of level (state.Parallel s) f = forks level s.errors f 0 (fork_of (parallel_frames s) f (effective s.processing (data_of f.raw)))
turn_of level (state.Map s) f = forks level s.errors f s.max_concurrency (fork_of (map_frames s) f (effective s.processing (data_of f.raw)))
turn_of level s f = outcome.Next (next_frame level s f)

-- what the turn of a frame that is ready comes to
abbrev pub turn : Location → Frame → Outcome
turn at f = turn_of at.0 at.1 f
