-- Cells that are written, as functions: for crates that keep values beside classes.
use Rattle.std.proofs.Common.{◌≡◌, ◌<◌, ◌≤◌, arith, ℕ, List, Option, None, length, ap, sym, ◌∙◌, inl, inr}
use Rattle.std.specs.Prelude.{slice_set}
use Rattle.std.proofs.lemmas.Bool.{cases_lt}
use Rattle.std.proofs.lemmas.List.{get_or-set_same, get_or-set_other, length-set}
use Rattle.std.proofs.Math.ListN.{get_or-eq_default}
use Rattle.std.proofs.Math.Path.{fun_ext}
use Rattle.linked_classes.specs.Cells.{cell_at}
use Rattle.linked_classes.specs.Linked.{updated}
use Rattle.linked_classes.proofs.Gets.{one_or_other}
use Rattle.linked_classes.proofs.Updates.{updated_here, updated_elsewhere}

-- what is made of each value changes where the value does
pub updated_through : {A B : Type 0} (make : A → B) (f : ℕ → A) (i : ℕ) (x : A) → (λ k. make (updated i f x k)) ≡ updated i (λ k. make (f k)) (make x)
updated_through make f i x = fun_ext (λ k. elim (one_or_other k i) [
  | inl w ↦ ap make (updated_here f i x k w) ∙ sym (updated_here (λ j. make (f j)) i (make x) k w)
  | inr w ↦ ap make (updated_elsewhere f i x k w) ∙ sym (updated_elsewhere (λ j. make (f j)) i (make x) k w)
])

pub cell_beyond : {A : Type 0} (cells : List (Option A)) (i : ℕ) → length cells ≤ i → cell_at cells i ≡ None
cell_beyond cells i beyond = get_or-eq_default cells None beyond

pub written : {A : Type 0} (cells : List (Option A)) (i : ℕ) (x : Option A) → i < length cells → cell_at (slice_set cells i x) ≡ updated i (cell_at cells) x
written cells i x within = fun_ext (λ k. elim (one_or_other k i) [
  | inl w ↦ ap (cell_at (slice_set cells i x)) w ∙ get_or-set_same cells i x None within ∙ sym (updated_here (cell_at cells) i x k w)
  | inr w ↦ get_or-set_other cells i k x None w ∙ sym (updated_elsewhere (cell_at cells) i x k w)
])

-- beyond the end a hole stays one
pub emptied : {A : Type 0} (cells : List (Option A)) (i : ℕ) → cell_at (slice_set cells i None) ≡ updated i (cell_at cells) None
emptied cells i = elim (cases_lt i (length cells)) [
  | inl w ↦ written cells i None w
  | inr w ↦ fun_ext (λ k. elim (one_or_other k i) [
    | inl e ↦ ap (cell_at (slice_set cells i None)) e ∙ get_or-eq_default (slice_set cells i None) None (omega (arith, w, length-set cells i None)) ∙ sym (updated_here (cell_at cells) i None k e)
    | inr e ↦ get_or-set_other cells i k None None e ∙ sym (updated_elsewhere (cell_at cells) i None k e)
  ])
]
