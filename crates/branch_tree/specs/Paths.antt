-- The paths of an execution's threads: pairs of the number of the step that forked and the branch's index, outermost first.
use Rattle.std.specs.Prelude.{ℕ, Bool, true, false, ◌&&◌, List, [], ◌∷◌, ◌==◌, if◌then◌else◌, Option, Some, None}

abbrev pub Path : Type 0
Path = List (ℕ × ℕ)

abbrev pub same_branch : ℕ × ℕ → ℕ × ℕ → Bool
same_branch a b = a.0 == b.0 && a.1 == b.1

abbrev pub same_path : Path → Path → Bool
same_path [] [] = true
same_path [] (c ∷ q) = false
same_path (b ∷ p) [] = false
same_path (b ∷ p) (c ∷ q) = same_branch b c && same_path p q

-- the branches by which the second path goes on from the first
abbrev pub rest_after : Path → Path → Option Path
rest_after [] q = Some q
rest_after (b ∷ p) [] = None
rest_after (b ∷ p) (c ∷ q) = if same_branch b c then rest_after p q else None
