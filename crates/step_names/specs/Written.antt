-- The one spelling of a name.
use Rattle.std.specs.Prelude.{ℕ, List, ◌∷◌, ◌++◌}
use Rattle.std.specs.Fmt.{decimal}
use Rattle.std.specs.List.{flat_map}
use Rattle.step_names.specs.Thread.{Thread}
use Rattle.step_names.specs.declared.step.StepName.{StepName}

-- `/`, the fork's number, `.`, the branch's index
abbrev pub branch_text : ℕ × ℕ → List ℕ
branch_text branch = 47 ∷ (decimal branch.0 ++ 46 ∷ decimal branch.1)

-- the execution's name, and then each branch
abbrev pub thread_text : Thread → List ℕ
thread_text thread = thread.exec ++ flat_map branch_text thread.path

-- the thread, `#`, the number
abbrev pub step_text : StepName → List ℕ
step_text step = thread_text step.thread ++ 35 ∷ decimal step.no
