-- Each machine that stands in a machine is complete, and they nest 32 deep at most.
use Rattle.std.specs.Prelude.{◌≤◌, List, length, IfSome}
use Rattle.asl_tree.specs.Complete.{IsWellFormed}
use Rattle.asl_tree.specs.Definition.{Definition}
use Rattle.asl_tree.specs.Find.{machine_at}
use Rattle.asl_tree.specs.declared.level.LevelStep.{LevelStep}

-- wherever a path leads, to the machine itself or inwards, a complete machine stands, at most 31 steps in
abbrev pub IsWellFormedThroughout : Definition → Type 0
IsWellFormedThroughout d = (path : List LevelStep) → IfSome (machine_at path d) (λ m. IsWellFormed m × (length path ≤ 31))
