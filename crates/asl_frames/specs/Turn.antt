-- What a state makes of a frame (Amazon States Language: "States", "Transitions", "Errors").
use Rattle.std.specs.Prelude.{ℕ, ◌+◌, List, [], Option, None, Some, Result, Ok, Err, length, replicate, option_map, option_and_then, codes}
use Rattle.json_tree.specs.Data.{Data}
use Rattle.json_tree.specs.View.{data_of}
use Rattle.json_tree.specs.declared.tree.Json.{Json}
use Rattle.asl_tree.specs.Complete.{state_of}
use Rattle.asl_tree.specs.Definition.{Definition}
use Rattle.asl_tree.specs.Find.{machine_at}
use Rattle.asl_processing.specs.Reading.{json_of}
use Rattle.asl_processing.specs.Retrier.{Retrier}
use Rattle.asl_processing.specs.Choice.{Choice}
use Rattle.asl_processing.specs.Fail.{Fail}
use Rattle.asl_processing.specs.Pass.{Pass}
use Rattle.asl_processing.specs.StateProcessing.{Processing}
use Rattle.asl_tree.specs.declared.state.State.{State}
use Rattle.asl_tree.specs.declared.state.State.TheVariants as state
use Rattle.asl_processing.specs.Transition.{Transition}
use Rattle.asl_processing.specs.Transition.TheVariants.{Next, End}
use Rattle.asl_processing.specs.Choosing.{chosen}
use Rattle.asl_processing.specs.Processing.{and_then, effective, passed_on}
use Rattle.asl_frames.specs.declared.frame.Fault.{Fault}
use Rattle.asl_frames.specs.declared.frame.Frame.{Frame}
use Rattle.asl_frames.specs.declared.frame.Origin.TheVariants.{Other}
use Rattle.asl_frames.specs.declared.frame.Phase.TheVariants.{Ready, Done, Failed}

-- ---- frames

-- the retriers of a state
abbrev pub retriers_of : State → List Retrier
retriers_of (state.Task s) = s.errors.retriers
retriers_of (state.Parallel s) = s.errors.retriers
retriers_of (state.Map s) = s.errors.retriers
retriers_of _ = []

abbrev pub counters_of : Option State → List ℕ
counters_of None = []
counters_of (Some s) = replicate (length (retriers_of s)) 0

-- a state is entered with a counter of 0 for each of its retriers
abbrev pub counters_at : Definition → List ℕ → List ℕ
counters_at level name = counters_of (state_of name level.states)

-- the frame before another state of the same level
abbrev pub enters : Definition → List ℕ → Frame → Data → Frame
enters level name f raw =
    record { level = f.level; state = name; raw = json_of raw; retries = counters_at level name; count = f.count + 1; phase = Ready }

-- the frame at the end of its level
abbrev pub frame_done_with : Frame → Data → Frame
frame_done_with f output = record { level = f.level; state = f.state; raw = f.raw; retries = f.retries; count = f.count + 1; phase = Done (json_of output) }

abbrev pub frame_failed_with : Frame → Fault → Frame
frame_failed_with f fault = record { level = f.level; state = f.state; raw = f.raw; retries = f.retries; count = f.count + 1; phase = Failed fault }

-- an error of the state itself; it has no cause
abbrev pub own_fault : List ℕ → Fault
own_fault error = record { error = error; cause = []; origin = Other }

-- where a frame goes with its state's output: to the next state, or to the end
abbrev pub go_on : Definition → Transition → Frame → Data → Frame
go_on level (Next name) f output = enters level name f output
go_on level End f output = frame_done_with f output

-- the frame after what its state passes on, or after an error that nothing takes up
abbrev pub ends : Definition → Transition → Frame → Result Data (List ℕ) → Frame
ends level transition f (Ok output) = go_on level transition f output
ends level transition f (Err error) = frame_failed_with f (own_fault error)

-- the frame with which an execution of a machine starts
abbrev pub first_frame : List ℕ → Definition → Json → Frame
first_frame machine d input =
    record { level = record { machine = machine; path = [] }; state = d.start; raw = input; retries = counters_at d d.start; count = 0; phase = Ready }

-- ---- turns

-- a Pass state's result, or its effective input where it has none
abbrev pub pass_result : Option Json → Data → Data
pass_result (Some result) input = data_of result
pass_result None input = input

abbrev pub pass_output : Pass → Data → Result Data (List ℕ)
pass_output s raw = and_then (λ input. passed_on s.processing raw (pass_result s.result input)) (effective s.processing raw)

-- what a state that does no work passes on: its effective input
abbrev pub idle_output : Processing → Data → Result Data (List ℕ)
idle_output p raw = and_then (λ input. passed_on p raw input) (effective p raw)

-- a Choice state goes where it chooses, with its effective input; the choice comes before the output path
abbrev pub goes_where : Definition → Processing → Frame → Data → Result (List ℕ) (List ℕ) → Frame
goes_where level p f input (Ok name) = ends level (Next name) f (passed_on p (data_of f.raw) input)
goes_where level p f input (Err error) = frame_failed_with f (own_fault error)

abbrev pub choice_frame : Definition → Choice → Frame → Result Data (List ℕ) → Frame
choice_frame level s f (Ok input) = goes_where level s.processing f input (chosen s.rules s.default input)
choice_frame level s f (Err error) = frame_failed_with f (own_fault error)

abbrev pub declared_fault : Fail → Fault
declared_fault s = record { error = s.error; cause = s.cause; origin = Other }

-- The next frame that a state of this level gives by itself. A Task, a Parallel and a Map give none so: they ask or fork
-- first, and fail here.
abbrev pub next_frame : Definition → State → Frame → Frame
next_frame level (state.Pass s) f = ends level s.transition f (pass_output s (data_of f.raw))
next_frame level (state.Choice s) f = choice_frame level s f (effective s.processing (data_of f.raw))
next_frame level (state.Wait s) f = ends level s.transition f (idle_output s.processing (data_of f.raw))
next_frame level (state.Succeed s) f = ends level End f (idle_output s.processing (data_of f.raw))
next_frame level (state.Fail s) f = frame_failed_with f (declared_fault s)
next_frame level _ f = frame_failed_with f (own_fault (codes "States.Runtime"))

-- where a frame stands: the machine that is its level, and its state there
abbrev pub Location : Type 0
Location = Definition × State

abbrev pub located : Definition → Frame → Option Location
located d f = option_and_then (λ level. option_map (λ s. (level, s)) (state_of f.state level.states)) (machine_at f.level.path d)

-- the frame after the state before which one stands
abbrev pub after_state : Location → Frame → Frame
after_state at f = next_frame at.0 at.1 f
