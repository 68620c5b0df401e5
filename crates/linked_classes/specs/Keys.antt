-- Keys: where the value of each number lies.
use Rattle.std.specs.Prelude.{◌≡◌, ◌≢◌, ◌≤◌, ℕ, List, Option, Some, length, map, option_map, slice_get, count_by, is_some}
use Rattle.linked_classes.specs.Cells.{key_at}
use Rattle.linked_classes.specs.declared.sparse.Numbered.{Numbered}

module _ {T : Type 0} where
  -- the value under a key
  abbrev pub value_of : List (Numbered T) → ℕ → Option T
  value_of values key = option_map (λ v. v.value) (slice_get values key)

  abbrev pub cells_of : List (Numbered T) → List ℕ → List (Option T)
  cells_of values keys = map (value_of values) keys

  -- each value has the number whose key leads to it, and the other keys are those of holes
  pub record AreKeys (values : List (Numbered T)) (key : ℕ → ℕ) : Type 0 where
    pub few : length values ≤ 4294967295
    pub numbered : (k : ℕ) (v : Numbered T) → slice_get values k ≡ Some v → key v.number ≡ k
    pub filled : (i : ℕ) → key i ≢ 4294967295 → (v : Numbered T) × (slice_get values (key i) ≡ Some v) × (v.number ≡ i)

  pub record AreCells (values : List (Numbered T)) (keys : List ℕ) : Type 0 where
    pub keyed : AreKeys values (key_at keys)
    pub counted : length values ≡ count_by is_some (cells_of values keys)
