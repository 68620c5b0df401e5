-- The frames with which the branches of a Parallel or a Map state begin (Amazon States Language, "Parallel State", "Map State").
use Rattle.std.specs.Prelude.{ℕ, ◌+◌, nat_le, List, [], ◌∷◌, ◌++◌, length, Option, None, Some, Result, Ok, Err, ok_or, if◌then◌else◌, codes}
use Rattle.json_tree.specs.Data.{Data, list, null, boolean, whole, text, fields}
use Rattle.asl_frames.specs.Definition.{Definition}
use Rattle.asl_processing.specs.Reading.{json_of, item_list, most_branches}
use Rattle.asl_frames.specs.Level.{Level}
use Rattle.asl_frames.specs.Map.{Map}
use Rattle.asl_frames.specs.Parallel.{Parallel}
use Rattle.asl_processing.specs.Filling.{filled}
use Rattle.asl_processing.specs.Picking.{pick_at}
use Rattle.asl_processing.specs.Templates.{Payload}
use Rattle.asl_processing.specs.PathStep.{PathStep}
use Rattle.asl_processing.specs.Processing.{and_then, within_levels}
use Rattle.asl_frames.specs.Turn.{counters_at}
use Rattle.asl_frames.specs.declared.frame.Frame.{Frame}
use Rattle.asl_frames.specs.declared.frame.Phase.TheVariants.{Ready}

-- the `States` object of a state's branch; a Map's one processor is branch 0
abbrev pub inward : Level → List ℕ → ℕ → Level
inward level state branch = record { machine = level.machine; path = level.path ++ record { state = state; branch = branch } ∷ [] }

-- the frame of a branch of this definition, before its first state
abbrev pub branch_frame : Frame → Definition → ℕ → Data → Frame
branch_frame f d branch input =
    record { level = inward f.level f.state branch; state = d.start; raw = json_of input; retries = counters_at d d.start; count = 0; phase = Ready }

-- a frame and those after it, or the first error
abbrev pub with_others : Result (List Frame) (List ℕ) → Result Frame (List ℕ) → Result (List Frame) (List ℕ)
with_others others (Err error) = Err error
with_others (Err error) (Ok f) = Err error
with_others (Ok fs) (Ok f) = Ok (f ∷ fs)

abbrev pub begins_branch : Frame → Definition → ℕ → Result Data (List ℕ) → Result Frame (List ℕ)
begins_branch f d branch (Ok input) = Ok (branch_frame f d branch input)
begins_branch f d branch (Err error) = Err error

-- each branch of a Parallel state begins with its effective input
abbrev pub frames_from : Frame → ℕ → List Definition → Data → Result (List Frame) (List ℕ)
frames_from f branch [] input = Ok []
frames_from f branch (d ∷ ds) input = with_others (frames_from f (branch + 1) ds input) (begins_branch f d branch (within_levels input))

abbrev pub parallel_frames : Parallel → Frame → Data → Result (List Frame) (List ℕ)
parallel_frames s f input = frames_from f 0 s.branches input

-- ---- Map

abbrev pub elements_in : Option Data → Result (List Data) (List ℕ)
elements_in (Some (list ds)) = Ok (item_list ds)
elements_in (Some null) = Err (codes "States.Runtime")
elements_in (Some (boolean b)) = Err (codes "States.Runtime")
elements_in (Some (whole z)) = Err (codes "States.Runtime")
elements_in (Some (text s)) = Err (codes "States.Runtime")
elements_in (Some (fields ms)) = Err (codes "States.Runtime")
elements_in None = Err (codes "States.Runtime")

-- the list that the items path leads to
abbrev pub elements : List PathStep → Data → Result (List Data) (List ℕ)
elements path input = elements_in (pick_at path input)

-- what the branch of an element begins with: the element, or what the item selector makes of the effective input and of it
abbrev pub element_input : Option Payload → Data → ℕ → Data → Result Data (List ℕ)
element_input None input index element = within_levels element
element_input (Some selector) input index element = and_then within_levels (ok_or (filled input (Some (index, element)) selector) (codes "States.ParameterPathFailure"))

abbrev pub element_frames : Map → Frame → Data → ℕ → List Data → Result (List Frame) (List ℕ)
element_frames s f input index [] = Ok []
element_frames s f input index (x ∷ xs) =
    with_others (element_frames s f input (index + 1) xs) (begins_branch f s.processor 0 (element_input s.item_selector input index x))

-- a Map has at most 4,096 branches, which are counted before any of them begins
abbrev pub counted_frames : Map → Frame → Data → Result (List Data) (List ℕ) → Result (List Frame) (List ℕ)
counted_frames s f input (Ok xs) = if nat_le (length xs) most_branches then element_frames s f input 0 xs else Err (codes "States.Runtime")
counted_frames s f input (Err error) = Err error

abbrev pub map_frames : Map → Frame → Data → Result (List Frame) (List ℕ)
map_frames s f input = counted_frames s f input (elements s.items_path input)
