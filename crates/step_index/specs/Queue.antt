-- Which places are in a queue, and which is taken from it.
use Rattle.std.specs.Prelude.{◌≡◌, ◌==◌, ◌≤◌, ℕ, Bool, true, false, List, Option, None, Some, if◌then◌else◌}
use Rattle.std.specs.List.{list_any}
use Rattle.std.specs.declared.cmp.Reverse.{Reverse}

abbrev pub has_place : List (Reverse ℕ) → ℕ → Bool
has_place places k = list_any (λ (x : Reverse ℕ). x.0 == k) places

-- a place was taken, and no other: it is the least, and is there no more
pub record IsLeastAt (old new : List (Reverse ℕ)) (place : ℕ) : Type 0 where
  pub there : has_place old place ≡ true
  pub least : (k : ℕ) → has_place old k ≡ true → place ≤ k
  pub taken : (k : ℕ) → has_place new k ≡ (if place == k then false else has_place old k)

abbrev pub IsLeastPlace : List (Reverse ℕ) → List (Reverse ℕ) → Option ℕ → Type 0
IsLeastPlace old new None = (k : ℕ) → has_place old k ≡ false
IsLeastPlace old new (Some place) = IsLeastAt old new place
