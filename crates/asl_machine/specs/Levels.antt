-- Each machine that stands in a definition's machine is complete, and they nest 32 deep at most.
use Rattle.serde_json.specs.Data.{Data}
use Rattle.asl_tree.specs.Definition.{Definition}
use Rattle.asl_tree.specs.Levels.{IsWellFormedThroughout}
use Rattle.asl_machine.specs.Profile.{Defines}

abbrev pub DefinedAreWellFormedThroughout : Type 0
DefinedAreWellFormedThroughout = (source : Data) (d : Definition) → Defines source d → IsWellFormedThroughout d
