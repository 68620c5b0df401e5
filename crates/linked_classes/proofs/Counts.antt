-- How many cells have a value.
use Rattle.std.proofs.Common.{◌≡◌, ◌≢◌, ◌<◌, ◌+◌, ◌-◌, arith, ℕ, suc, List, [], ◌∷◌, Option, None, Some, length, cond, refl, ap, sym, subst, ◌∙◌, length-append}
use Rattle.std.specs.Prelude.{count_by, is_some, option_map, slice_get, slice_set}
use Rattle.std.proofs.lemmas.List.{length-map, length-set}
use Rattle.std.proofs.lemmas.List.Sums.{sum_by-cons, sum_by-set}
use Rattle.std.proofs.lemmas.Option.{slice_get_past}
use Rattle.linked_classes.specs.Cells.{cell_at, key_at}
use Rattle.linked_classes.specs.Keys.{value_of, cells_of, AreKeys, AreCells}
use Rattle.linked_classes.specs.declared.sparse.Numbered.{Numbered}
use Rattle.linked_classes.proofs.Keys.{cell_is, key_within, leads, along_keys, put_value, put_values, put_key, put_cells, put_keys, replaced_values, replaced_cells, replaced_keys, left, left_length, rekeyed, taken_cells, taken_keys}

module _ {T : Type 0} where
  one : Option T → ℕ
  one x = cond (is_some x) 1 0

  pub count_put : (cells : List (Option T)) (i : ℕ) (x : T) → i < length cells → cell_at cells i ≡ None → count_by is_some (slice_set cells i (Some x)) ≡ count_by is_some cells + 1
  unfolding one
  count_put cells i x within none = let e = sum_by-set one cells i (Some x) None within in omega (arith, rw none at e)

  pub count_replaced : (cells : List (Option T)) (i : ℕ) (x y : T) → i < length cells → cell_at cells i ≡ Some x → count_by is_some (slice_set cells i (Some y)) ≡ count_by is_some cells
  unfolding one
  count_replaced cells i x y within is = let e = sum_by-set one cells i (Some y) None within in omega (arith, rw is at e)

  pub count_taken : (cells : List (Option T)) (i : ℕ) (x : T) → i < length cells → cell_at cells i ≡ Some x → count_by is_some (slice_set cells i None) + 1 ≡ count_by is_some cells
  unfolding one
  count_taken cells i x within is = let e = sum_by-set one cells i None None within in omega (arith, rw is at e)

  no_values : (cells : List (Option T)) → ((k : ℕ) → cell_at cells k ≡ None) → count_by is_some cells ≡ 0
  no_values [] none = refl
  no_values (None ∷ cells) none = no_values cells (λ k. none (suc k))
  no_values (Some x ∷ cells) none = let e : Some x ≡ None = none 0 in cc

  agree : (xs ys : List (Option T)) → ((k : ℕ) → cell_at xs k ≡ cell_at ys k) → count_by is_some xs ≡ count_by is_some ys
  agree [] ys same = sym (no_values ys (λ k. sym (same k)))
  agree (x ∷ xs) [] same = no_values (x ∷ xs) same
  agree (x ∷ xs) (y ∷ ys) same =
      let first : x ≡ y = same 0 in
      let rest = agree xs ys (λ k. same (suc k)) in
      sum_by-cons (λ x. cond (is_some x) 1 0) x xs ∙ ap (λ n. cond (is_some x) 1 0 + n) rest ∙ ap (λ z. cond (is_some z) 1 0 + count_by is_some ys) first ∙ sym (sum_by-cons (λ x. cond (is_some x) 1 0) y ys)

  pub count_along : (xs ys : List (Option T)) → cell_at xs ≡ cell_at ys → count_by is_some xs ≡ count_by is_some ys
  count_along xs ys same = agree xs ys (λ k. ap (λ f. f k) same)

  -- ---- the values are counted all along

  pub put_whole : (values : List (Numbered T)) (keys : List ℕ) (h : AreCells values keys) (i : ℕ) (x : T) (within : i < length keys) (hole : key_at keys i ≡ 4294967295) (more : length values < 4294967295)
      → AreCells (put_values values keys h.keyed i x within hole more) (put_key values keys h.keyed i x within hole more)
  put_whole values keys h i x within hole more =
      let none : cell_at (cells_of values keys) i ≡ None = cell_is values keys h.keyed.few i ∙ ap (value_of values) hole ∙ ap (option_map (λ v. v.value)) (slice_get_past values 4294967295 h.keyed.few) in
      let cells = ap (count_by is_some) (put_cells values keys h.keyed i x within hole more) in
      let count = count_put (cells_of values keys) i x (omega (arith, within, length-map keys (value_of values))) none in
      let long = length-append values (put_value values keys h.keyed i x within hole more ∷ []) in
      record { keyed = put_keys values keys h.keyed i x within hole more; counted = omega (arith, long, cells, count, h.counted) }

  pub replaced_whole : (values : List (Numbered T)) (keys : List ℕ) (h : AreCells values keys) (i : ℕ) (x : T) (full : key_at keys i ≢ 4294967295) → AreCells (replaced_values values keys h.keyed i x full) keys
  replaced_whole values keys h i x full =
      let a = leads values (key_at keys) h.keyed i full in
      let some : cell_at (cells_of values keys) i ≡ Some a.entry.value = cell_is values keys h.keyed.few i ∙ ap (option_map (λ v. v.value)) a.is in
      let cells = ap (count_by is_some) (replaced_cells values keys h.keyed i x full) in
      let count = count_replaced (cells_of values keys) i a.entry.value x (omega (arith, key_within keys i full, length-map keys (value_of values))) some in
      record { keyed = replaced_keys values keys h.keyed i x full; counted = omega (arith, length-set values (key_at keys i) (record { number = i; value = x }), cells, count, h.counted) }

  pub taken_whole : (values : List (Numbered T)) (keys : List ℕ) (h : AreCells values keys) (i : ℕ) (full : key_at keys i ≢ 4294967295) (last d : Numbered T) (is_last : slice_get values (length values - 1) ≡ Some last)
      → AreCells (left values keys h.keyed i full last d is_last) (rekeyed values keys h.keyed i full last d is_last)
  taken_whole values keys h i full last d is_last =
      let a = leads values (key_at keys) h.keyed i full in
      let some : cell_at (cells_of values keys) i ≡ Some a.entry.value = cell_is values keys h.keyed.few i ∙ ap (option_map (λ v. v.value)) a.is in
      let cells = ap (count_by is_some) (taken_cells values keys h.keyed i full last d is_last) in
      let count = count_taken (cells_of values keys) i a.entry.value (omega (arith, key_within keys i full, length-map keys (value_of values))) some in
      record { keyed = taken_keys values keys h.keyed i full last d is_last; counted = omega (arith, left_length values keys h.keyed i full last d is_last, cells, count, h.counted) }

  pub along_whole : (values : List (Numbered T)) (keys keys' : List ℕ) → AreCells values keys → key_at keys' ≡ key_at keys → AreCells values keys'
  along_whole values keys keys' h same = record {
    keyed = subst (AreKeys values) (sym same) h.keyed;
    counted = h.counted ∙ sym (count_along (cells_of values keys') (cells_of values keys) (along_keys values keys keys' h.keyed.few same));
  }
