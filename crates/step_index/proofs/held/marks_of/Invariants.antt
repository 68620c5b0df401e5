use Rattle.std.proofs.Common.{◌≡◌, ◌==◌, ℕ, Bool, Some, length, take}
use Rattle.std.specs.Prelude.{slice_get}
use Rattle.std.specs.List.{list_any}
use Rattle.step_index.proofs.held.marks_of.Given as goal

-- the places that were passed are marked, and no other
abbrev pub invariant-loop-place : goal.invariant-loop-place
invariant-loop-place l = record {
  len : length l.marks.items ≡ l.count;
  marked : (k : ℕ) (m : Bool) → slice_get l.marks.items k ≡ Some m → m ≡ list_any (λ (p : ℕ). p == k) (take l.place-index l.places);
}
