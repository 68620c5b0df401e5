-- Rows that are put in order, and rows that a query put in order.
use Rattle.std.proofs.Common.{◌≡◌, ◌⊎◌, inl, inr, List, [], ◌∷◌, ◌++◌, false, refl, Ordering, Less, Equal, Greater}
use Rattle.std.specs.List.Sorted.{IsPermutation}
use Rattle.std.proofs.lemmas.List.Sorted.{IsPermutation-refl, IsPermutation-sym, IsPermutation-trans, IsPermutation-cons, IsPermutation-middle, IsPermutation-to_front}
use Rattle.sqlite.specs.Order.{Row, value_cmp}
use Rattle.sqlite.specs.Tree.{rowid, put_row}
use Rattle.sqlite.specs.Edit.{is_taken}

-- the result of a comparison, beside its name
ordering_cases : (o : Ordering) → (o ≡ Less) ⊎ ((o ≡ Equal) ⊎ (o ≡ Greater))
ordering_cases Less = inl refl
ordering_cases Equal = inr (inl refl)
ordering_cases Greater = inr (inr refl)

-- a row whose rowid is new is put among the others
put_fresh : (new : Row) (rows : List Row) → is_taken rows new ≡ false → IsPermutation (new ∷ rows) (put_row new rows)
put_fresh new [] fresh = IsPermutation-refl _
put_fresh new (r ∷ rows) fresh = elim (ordering_cases (value_cmp (rowid r) (rowid new))) [
  | inl below ↦ rw (below) (IsPermutation-trans _ _ _ (IsPermutation-sym _ _ (IsPermutation-middle (r ∷ []) new rows)) (IsPermutation-cons r _ _ (put_fresh new rows (rw below at fresh))))
  | inr (inl same) ↦ absurd (let e = rw same at fresh in cc)
  | inr (inr above) ↦ rw above (IsPermutation-refl _)
]

pub put_last : (new : Row) (rows : List Row) → is_taken rows new ≡ false → IsPermutation (rows ++ new ∷ []) (put_row new rows)
put_last new rows fresh = IsPermutation-trans _ _ _ (IsPermutation-to_front rows new) (put_fresh new rows fresh)
