-- Sets as lists in order, into which values are put one by one.
use Rattle.std.proofs.Common.{◌≡◌, List, [], ◌∷◌, ◌++◌, false, Ordering, Less, Equal, Greater, refl, ap, ◌∙◌}
use Rattle.std.specs.BTreeMap.{is_at}
use Rattle.std.specs.BTreeSet.{insert_key}
use Rattle.std.specs.Cmp.{IsTotalOrder}
use Rattle.std.specs.List.{AllByRecursion, list_any}
use Rattle.std.specs.List.Sorted.{IsStrictlySortedBy}
use Rattle.std.specs.Ordering.{match_ordering, ordering_reverse}

module _ {K : Type 0} {R : K → K → Ordering} (o : IsTotalOrder R) where
  greater_from_less : (x y : K) → R x y ≡ Less → R y x ≡ Greater
  greater_from_less x y h = o.antisymm y x ∙ ap ordering_reverse h

  less_from_greater : (x y : K) → R x y ≡ Greater → R y x ≡ Less
  less_from_greater x y h = o.antisymm y x ∙ ap ordering_reverse h

  all_insert_at : (P : K → Type 0) (k x : K) (xs : List K) (c : Ordering) → P k → P x → AllByRecursion P xs → AllByRecursion P (insert_key R xs k) → AllByRecursion P (match_ordering c (k ∷ x ∷ xs) (x ∷ xs) (x ∷ insert_key R xs k))
  all_insert_at P k x xs Less p q all more = (p, (q, all))
  all_insert_at P k x xs Equal p q all more = (q, all)
  all_insert_at P k x xs Greater p q all more = (q, more)

  pub all_insert : (P : K → Type 0) (k : K) (xs : List K) → P k → AllByRecursion P xs → AllByRecursion P (insert_key R xs k)
  all_insert P k [] p all = (p, tt)
  all_insert P k (x ∷ xs) p all = all_insert_at P k x xs (R k x) p all.0 all.1 (all_insert P k xs p all.1)

  above_head : (k x : K) (xs : List K) → R k x ≡ Less → AllByRecursion (λ y. R x y ≡ Less) xs → AllByRecursion (λ y. R k y ≡ Less) xs
  above_head k x [] h all = tt
  above_head k x (y ∷ xs) h all = (o.trans k x y h all.0, above_head k x xs h all.1)

  sorted_insert_at : (k x : K) (xs : List K) (c : Ordering) → R k x ≡ c → AllByRecursion (λ y. R x y ≡ Less) xs → IsStrictlySortedBy R xs → IsStrictlySortedBy R (insert_key R xs k)
      → IsStrictlySortedBy R (match_ordering c (k ∷ x ∷ xs) (x ∷ xs) (x ∷ insert_key R xs k))
  unfolding IsStrictlySortedBy
  sorted_insert_at k x xs Less e all s more = ((e, above_head k x xs e all), (all, s))
  sorted_insert_at k x xs Equal e all s more = (all, s)
  sorted_insert_at k x xs Greater e all s more = (all_insert (λ y. R x y ≡ Less) k xs (less_from_greater k x e) all, more)

  -- a set stays in order
  pub sorted_insert : (k : K) (xs : List K) → IsStrictlySortedBy R xs → IsStrictlySortedBy R (insert_key R xs k)
  unfolding IsStrictlySortedBy
  sorted_insert k [] s = (tt, tt)
  sorted_insert k (x ∷ xs) s = sorted_insert_at k x xs (R k x) refl s.0 s.1 (sorted_insert k xs s.1)

  below_next : (x : K) (done : List K) (k : K) (later : List K) → AllByRecursion (λ y. R x y ≡ Less) (done ++ k ∷ later) → R x k ≡ Less
  below_next x [] k later h = h.0
  below_next x (y ∷ done) k later h = below_next x done k later h.1

  -- a value above those before it is new, and goes last
  pub next_is_new : (done : List K) (k : K) (later : List K) → IsStrictlySortedBy R (done ++ k ∷ later) → list_any (is_at (R k)) done ≡ false
  unfolding IsStrictlySortedBy
  next_is_new [] k later s = refl
  next_is_new (x ∷ done) k later s = rw (greater_from_less x k (below_next x done k later s.0)) (next_is_new done k later s.1)

  pub next_goes_last : (done : List K) (k : K) (later : List K) → IsStrictlySortedBy R (done ++ k ∷ later) → insert_key R done k ≡ done ++ k ∷ []
  unfolding IsStrictlySortedBy
  next_goes_last [] k later s = refl
  next_goes_last (x ∷ done) k later s = rw (greater_from_less x k (below_next x done k later s.0)) (ap (λ ks. x ∷ ks) (next_goes_last done k later s.1))
