-- When a refusal to read a path stands.
use Rattle.std.specs.Prelude.{ℕ, List, ⊤}
use Rattle.ref_paths.specs.Grammar.{FailsAt}
use Rattle.ref_paths.specs.Scanner.{StopsAt}
use Rattle.ref_paths.specs.declared.reading.PathFault.{PathFault}
use Rattle.ref_paths.specs.declared.reading.PathFault.TheVariants.{BadPath, Memory}

-- of a whole text
abbrev pub FaultStands : List ℕ → PathFault → Type 0
FaultStands text (BadPath n) = FailsAt text n
FaultStands text Memory = ⊤

-- of the text of steps
abbrev pub StepFaultStands : List ℕ → PathFault → Type 0
StepFaultStands text (BadPath n) = StopsAt text n
StepFaultStands text Memory = ⊤
