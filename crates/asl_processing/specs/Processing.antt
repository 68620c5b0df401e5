-- What a state makes of its input and its result (Amazon States Language, "Input and Output Processing"): the raw input,
-- InputPath, Parameters, the state's work, ResultSelector, ResultPath, OutputPath, one after another. The first of them that
-- fails gives the name of an error.
use Rattle.std.specs.Prelude.{ℕ, List, Option, Some, None, Result, Ok, Err, ok_or, nat_le, if◌then◌else◌, codes}
use Rattle.json_tree.specs.Data.{Data, fields, no_members, depth, most_levels}
use Rattle.asl_states.specs.Filling.{filled}
use Rattle.asl_states.specs.Picking.{pick_at}
use Rattle.asl_states.specs.Placing.{place_at}
use Rattle.asl_states.specs.Templates.{Payload}
use Rattle.asl_states.specs.PathStep.{PathStep}
use Rattle.asl_states.specs.declared.state.Processing.{Processing}

-- what follows, unless an error came before
abbrev pub and_then : (Data → Result Data (List ℕ)) → Result Data (List ℕ) → Result Data (List ℕ)
and_then next (Ok d) = next d
and_then next (Err error) = Err error

-- what a path picks; where `null` stands for it, an empty object
abbrev pub picked_by_path : Option (List PathStep) → Data → Result Data (List ℕ)
picked_by_path None d = Ok (fields no_members)
picked_by_path (Some path) d = ok_or (pick_at path d) (codes "States.Runtime")

-- what a template is filled to; where there is none, the value itself
abbrev pub filled_from : Option Payload → Data → Result Data (List ℕ)
filled_from None d = Ok d
filled_from (Some template) d = ok_or (filled d None template) (codes "States.ParameterPathFailure")

-- the raw input with the result placed in it; where `null` stands for the path, without it
abbrev pub placed_in : Option (List PathStep) → Data → Data → Result Data (List ℕ)
placed_in None raw result = Ok raw
placed_in (Some path) raw result = ok_or (place_at path result raw) (codes "States.ResultPathMatchFailure")

-- a frame holds values of at most 127 levels
abbrev pub within_levels : Data → Result Data (List ℕ)
within_levels d = if nat_le (depth d) most_levels then Ok d else Err (codes "States.Runtime")

-- what a state works on
abbrev pub effective : Processing → Data → Result Data (List ℕ)
effective p raw = and_then (filled_from p.parameters) (picked_by_path p.input_path raw)

-- what it passes on of its result
abbrev pub passed_on : Processing → Data → Data → Result Data (List ℕ)
passed_on p raw result = and_then within_levels (and_then (picked_by_path p.output_path) (and_then (placed_in p.result_path raw) (filled_from p.result_selector result)))
