-- Which threads lie under a fork.
use Rattle.std.specs.Prelude.{◌≡◌, ℕ, Bool, false, ◌&&◌, List, [], ◌∷◌, ◌++◌, ◌==◌}
use lib.Pointwise.{pointwise}
use Rattle.step_names.specs.Thread.{Thread}

-- The name goes on from the thread that forked by a branch of that fork, and perhaps by more.
abbrev pub IsUnder : Thread → Thread → ℕ → Type 0
IsUnder thread above fork =
    (thread.exec ≡ above.exec) × ((branch : ℕ) × (rest : List (ℕ × ℕ)) × (thread.path ≡ above.path ++ (fork, branch) ∷ rest))

-- the same as a test: of the branches by which the path goes on from the one above, the first is of the fork
abbrev pub goes_on_by : List (ℕ × ℕ) → List (ℕ × ℕ) → ℕ → Bool
goes_on_by [] above fork = false
goes_on_by (b ∷ path) [] fork = b.0 == fork
goes_on_by (b ∷ path) (a ∷ above) fork = (b.0 == a.0 && b.1 == a.1) && goes_on_by path above fork

abbrev pub is_under : Thread → Thread → ℕ → Bool
is_under thread above fork = pointwise ◌==◌ thread.exec above.exec && goes_on_by thread.path above.path fork
