-- The forks above a thread: those under which it lies, outermost first, each with the index of the branch by which it does.
use Rattle.std.specs.Prelude.{◌≡◌, ◌≤◌, ℕ, Bool, true, false, ◌&&◌, List, [], ◌∷◌, ◌++◌, Option, None, Some}
use Rattle.std.specs.Ordering.{eq_by_cmp}
use Rattle.step_names.specs.Order.{step_cmp}
use Rattle.step_names.specs.Thread.{Thread}
use Rattle.step_names.specs.declared.step.StepName.{StepName}
use Rattle.depends.specs.declared.above.Above.{Above}

-- the fork of which this is a branch, over the thread at the end of these branches
abbrev pub fork_above : List ℕ → List (ℕ × ℕ) → ℕ × ℕ → Above
fork_above exec front b = record { fork = record { thread = record { exec = exec; path = front }; no = b.0 }; branch = b.1 }

abbrev pub forks_from : List ℕ → List (ℕ × ℕ) → List (ℕ × ℕ) → List Above
forks_from exec front [] = []
forks_from exec front (b ∷ path) = fork_above exec front b ∷ forks_from exec (front ++ b ∷ []) path

abbrev pub forks_above : Thread → List Above
forks_above t = forks_from t.exec [] t.path

-- it is this fork, and the branch's index passes a test
abbrev pub goes_by : StepName → (ℕ → Bool) → Above → Bool
goes_by s test x = eq_by_cmp step_cmp x.fork s && test x.branch

-- an index less than one that passes does too
abbrev pub IsDownward : (ℕ → Bool) → Type 0
IsDownward test = (i j : ℕ) → i ≤ j → test j ≡ true → test i ≡ true

abbrev pub passes : (ℕ → Bool) → Option ℕ → Bool
passes test None = false
passes test (Some i) = test i
