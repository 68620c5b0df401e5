-- What a state makes of an error, and of the result of its work (Amazon States Language: "Errors", "Task State", "Parallel
-- State", "Map State").
use Rattle.std.specs.Prelude.{ℕ, ◌+◌, List, [], Option, None, Some, option_and_then, Result, Ok, Err}
use Rattle.json_tree.specs.Data.{Data, list, items_of}
use Rattle.json_tree.specs.View.{data_of}
use Rattle.item_store.specs.Deciding.{Reply, given, refused}
use Rattle.asl_frames.specs.Catcher.{Catcher}
use Rattle.asl_frames.specs.ErrorHandling.{ErrorHandling}
use Rattle.asl_frames.specs.Definition.{Definition}
use Rattle.asl_frames.specs.StateProcessing.{Processing}
use Rattle.asl_frames.specs.State.{State}
use Rattle.asl_frames.specs.State.TheVariants as state
use Rattle.asl_frames.specs.Transition.{Transition}
use Rattle.asl_frames.specs.Transition.TheVariants.{Next}
use Rattle.asl_forward.specs.Handling.{retried, catcher_for, error_object}
use Rattle.asl_frames.specs.Processing.{and_then, within_levels, passed_on, placed_in}
use Rattle.asl_frames.specs.Turn.{Location, located, ends, go_on, frame_failed_with, own_fault}
use Rattle.asl_frames.specs.declared.frame.Fault.{Fault}
use Rattle.asl_frames.specs.declared.frame.Frame.{Frame}
use Rattle.asl_frames.specs.declared.frame.Origin.TheVariants as origin
use Rattle.asl_frames.specs.declared.frame.Phase.TheVariants.{Ready}

-- ---- errors

-- the frame before the same state again, with these counters
abbrev pub tries_again : Frame → List ℕ → Frame
tries_again f counters = record { level = f.level; state = f.state; raw = f.raw; retries = counters; count = f.count + 1; phase = Ready }

abbrev pub on_catch : Definition → Frame → Fault → Option Catcher → Frame
on_catch level f fault None = frame_failed_with f fault
on_catch level f fault (Some c) = ends level (Next c.next) f (and_then within_levels (placed_in c.result_path (data_of f.raw) (error_object fault)))

abbrev pub on_retry : Definition → ErrorHandling → Frame → Fault → Option (List ℕ) → Frame
on_retry level errors f fault (Some counters) = tries_again f counters
on_retry level errors f fault None = on_catch level f fault (catcher_for errors.catchers fault)

-- the frame after an error: the state is tried again, or a catcher takes the error up, or the thread fails
abbrev pub handled : Definition → ErrorHandling → Frame → Fault → Frame
handled level errors f fault = on_retry level errors f fault (retried errors.retriers f.retries fault)

-- the retriers and catchers of a state; only a Task, a Parallel and a Map have some
abbrev pub errors_of : State → ErrorHandling
errors_of (state.Task s) = s.errors
errors_of (state.Parallel s) = s.errors
errors_of (state.Map s) = s.errors
errors_of _ = record { retriers = []; catchers = [] }

abbrev pub after_error : Location → Frame → Fault → Frame
after_error at f fault = handled at.0 (errors_of at.1) f fault

-- the error that a state takes from a branch of it
abbrev pub taken_by : State → Fault → Fault
taken_by (state.Parallel s) fault = record { error = fault.error; cause = fault.cause; origin = origin.Branch }
taken_by _ fault = record { error = fault.error; cause = fault.cause; origin = origin.Other }

abbrev pub after_branch : Location → Frame → Fault → Frame
after_branch at f fault = after_error at f (taken_by at.1 fault)

-- an error that the state's own call of the table answers
abbrev pub call_fault : List ℕ → Fault
call_fault error = record { error = error; cause = []; origin = origin.Call }

-- ---- results

-- what a state that does work has for its result
abbrev pub Work : Type 0
Work = Processing × ErrorHandling × Transition

abbrev pub state_work : State → Option Work
state_work (state.Task s) = Some (s.processing, s.errors, s.transition)
state_work (state.Parallel s) = Some (s.processing, s.errors, s.transition)
state_work (state.Map s) = Some (s.processing, s.errors, s.transition)
state_work _ = None

-- the work of the state before which a frame stands
abbrev pub work_at : Definition → Frame → Option Work
work_at d f = option_and_then (λ at. state_work at.1) (located d f)

abbrev pub comes_to : Definition → Work → Frame → Result Data (List ℕ) → Frame
comes_to level w f (Ok output) = go_on level w.2 f output
comes_to level w f (Err error) = handled level w.1 f (own_fault error)

-- the frame after the work gave a result
abbrev pub after_result : Definition → Work → Frame → Data → Frame
after_result level w f result = comes_to level w f (passed_on w.0 (data_of f.raw) result)

-- the frame after what the call answers
abbrev pub after_answer : Definition → Work → Frame → Reply → Frame
after_answer level w f (given result) = after_result level w f result
after_answer level w f (refused error) = handled level w.1 f (call_fault error)

-- the frame after all branches are done, with these outputs in their order
abbrev pub after_join : Definition → Work → Frame → List Data → Frame
after_join level w f outputs = after_result level w f (list (items_of outputs))
