-- Looking up a state by its name.
use Rattle.std.specs.Prelude.{ℕ, ◌==◌, List, [], ◌∷◌, Option, Some, None, option_and_then, if◌then◌else◌}
use Rattle.std.specs.Prelude.{slice_get}
use Rattle.asl_tree.specs.Complete.{state_of}
use Rattle.asl_tree.specs.Definition.{Definition}
use Rattle.asl_tree.specs.declared.level.LevelStep.{LevelStep}
use Rattle.asl_tree.specs.declared.state.State.{State}
use Rattle.asl_tree.specs.declared.state.State.TheVariants.{Pass, Task, Choice, Wait, Succeed, Fail, Parallel, Map}

-- the machine that is a state's branch with this number; a Map's one processor is branch 0
abbrev pub branch_of : ℕ → State → Option Definition
branch_of number (Pass s) = None
branch_of number (Task s) = None
branch_of number (Choice s) = None
branch_of number (Wait s) = None
branch_of number (Succeed s) = None
branch_of number (Fail s) = None
branch_of number (Parallel s) = slice_get s.branches number
branch_of number (Map s) = if number == 0 then Some s.processor else None

-- the machine that the path leads to
abbrev pub machine_at : List LevelStep → Definition → Option Definition
machine_at [] d = Some d
machine_at (step ∷ path) d = option_and_then (λ s. option_and_then (machine_at path) (branch_of step.branch s)) (state_of step.state d.states)

-- the state of this name in the `States` object that the path leads to
abbrev pub state_at : List LevelStep → List ℕ → Definition → Option State
state_at path name d = option_and_then (λ m. state_of name m.states) (machine_at path d)
