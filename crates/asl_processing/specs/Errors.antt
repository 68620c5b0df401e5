-- Errors as the code holds them.
use Rattle.std.specs.Prelude.{◌≡◌, ℕ, List, Result, Err, codes}
use Rattle.asl_processing.specs.declared.error.OwnFault.{OwnFault}
use Rattle.asl_processing.specs.declared.error.OwnFault.TheVariants.{Runtime, ParameterPathFailure, ResultPathMatchFailure, NoChoiceMatched}
use Rattle.asl_processing.specs.declared.error.TurnFault.{TurnFault}
use Rattle.asl_processing.specs.declared.error.TurnFault.TheVariants.{Error, Memory}

abbrev pub error_name : OwnFault → List ℕ
error_name Runtime = codes "States.Runtime"
error_name ParameterPathFailure = codes "States.ParameterPathFailure"
error_name ResultPathMatchFailure = codes "States.ResultPathMatchFailure"
error_name NoChoiceMatched = codes "States.NoChoiceMatched"

-- a fault tells the error that stands; want of memory tells nothing of it
abbrev pub NamesError : {A : Type 0} → TurnFault → Result A (List ℕ) → Type 0
NamesError (Error error) worked = worked ≡ Err (error_name error)
NamesError Memory worked = Unit {0}
