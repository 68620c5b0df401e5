-- Attributes in the order of their names' bytes, and the search among them.
use Rattle.std.proofs.Common.{◌≡◌, ℕ, zero, suc, ◌<◌, ◌≤◌, List, [], ◌∷◌, ◌++◌, length, get_or, Some, None, Result, Ok, Err, IfOk, OnErr, Ordering, Less, Equal, Greater, is_lt, false, refl, sym, ap, ◌∙◌, subst, arith, add-one}
use Rattle.std.proofs.lemmas.Cmp.{nat_list_cmp_total}
use Rattle.std.proofs.lemmas.List.Sorted.{searchable_from_sorted}
use Rattle.std.specs.Cmp.{tied_itself}
use Rattle.std.specs.List.{AllByRecursion}
use Rattle.std.specs.List.Sorted.{IsStrictlySortedBy, IsSortedBy, IsSearchInRange, IsBinarySearchResult}
use Rattle.std.specs.Map.{keys_of}
use Rattle.std.specs.Ordering.{ordering_reverse}
use Rattle.json_tree.proofs.Same.{text_same}
use Rattle.json_tree.specs.Fields.{text_cmp}
use Rattle.attr_values.specs.Item.{get_attribute, IsItemInNameOrder}
use Rattle.attr_values.specs.View.{datum_of, entries_of}
use Rattle.attr_values.specs.declared.value.Attribute.{Attribute}

pub keys_of-append : {A : Type 0} (ms : List (List ℕ × A)) (m : List ℕ × A) → keys_of (ms ++ m ∷ []) ≡ keys_of ms ++ m.0 ∷ []
keys_of-append [] m = refl
keys_of-append (n ∷ ms) m = ap (λ ks. n.0 ∷ ks) (keys_of-append ms m)

-- the same comparison from the other side
flip : (k l : List ℕ) (o : Ordering) → text_cmp k l ≡ o → text_cmp l k ≡ ordering_reverse o
flip k l o is = nat_list_cmp_total.antisymm l k ∙ ap ordering_reverse is

sorted_tail : (a : Attribute) (xs : List Attribute) → IsItemInNameOrder (entries_of (a ∷ xs)) → IsItemInNameOrder (entries_of xs)
unfolding IsStrictlySortedBy
sorted_tail a xs h = h.1

sorted_head : (a : Attribute) (xs : List Attribute) → IsItemInNameOrder (entries_of (a ∷ xs)) → AllByRecursion (λ y. text_cmp a.name y ≡ Less) (keys_of (entries_of xs))
unfolding IsStrictlySortedBy
sorted_head a xs h = h.0

below_at : (k : List ℕ) (xs : List Attribute) (i : ℕ) (d : Attribute) → AllByRecursion (λ y. text_cmp k y ≡ Less) (keys_of (entries_of xs)) → i < length xs → text_cmp k (get_or xs i d).name ≡ Less
below_at k [] i d h within = absurd (omega arith)
below_at k (a ∷ xs) zero d h within = h.0
below_at k (a ∷ xs) (suc i) d h within = below_at k xs i d h.1 (omega arith)

-- what stands at the name's place is the name's value
pub value_at : (name : List ℕ) (xs : List Attribute) (i : ℕ) (d : Attribute) → IsItemInNameOrder (entries_of xs) → i < length xs → (get_or xs i d).name ≡ name
    → get_attribute name (entries_of xs) ≡ Some (datum_of (get_or xs i d).value)
value_at name [] i d sorted within is = absurd (omega arith)
value_at name (a ∷ xs) zero d sorted within is =
    let same : text_cmp name a.name ≡ Equal = subst (λ n. text_cmp n a.name ≡ Equal) is (tied_itself nat_list_cmp_total a.name) in
    rw same refl
value_at name (a ∷ xs) (suc i) d sorted within is =
    let below : text_cmp a.name name ≡ Less = subst (λ n. text_cmp a.name n ≡ Less) is (below_at a.name xs i d (sorted_head a xs sorted) (omega arith)) in
    let greater : text_cmp name a.name ≡ Greater = flip a.name name Less below in
    rw greater (value_at name xs i d (sorted_tail a xs sorted) (omega arith) is)

-- between names below and names above there is none
no_value : (name : List ℕ) (xs : List Attribute) (i : ℕ) → i ≤ length xs → ((j : ℕ) (d : Attribute) → j < i → text_cmp (get_or xs j d).name name ≡ Less)
    → ((j : ℕ) (d : Attribute) → i ≤ j → j < length xs → text_cmp (get_or xs j d).name name ≡ Greater) → get_attribute name (entries_of xs) ≡ None
no_value name [] i le below above = refl
no_value name (a ∷ xs) zero le below above =
    let less : text_cmp name a.name ≡ Less = flip a.name name Greater (above 0 a (omega arith) (omega arith)) in
    rw less (no_value name xs 0 (omega arith) (λ j d lt. absurd (omega (arith, lt))) (λ j d low lt. above (suc j) d (omega arith) (omega (arith, lt))))
no_value name (a ∷ xs) (suc i) le below above =
    let greater : text_cmp name a.name ≡ Greater = flip a.name name Less (below 0 a (omega arith)) in
    rw greater (no_value name xs i (omega arith) (λ j d lt. below (suc j) d (omega (arith, lt))) (λ j d low lt. above (suc j) d (omega (arith, low)) (omega (arith, lt))))

rises : (xs : List Attribute) (k : ℕ) (d : Attribute) → IsItemInNameOrder (entries_of xs) → suc k < length xs → is_lt (text_cmp (get_or xs (suc k) d).name (get_or xs k d).name) ≡ false
rises [] k d sorted within = absurd (omega arith)
rises (a ∷ xs) zero d sorted within = ap is_lt (flip a.name (get_or xs 0 d).name Less (below_at a.name xs 0 d (sorted_head a xs sorted) (omega arith)))
rises (a ∷ xs) (suc k) d sorted within = rises xs k d (sorted_tail a xs sorted) (omega arith)

is_sorted : (xs : List Attribute) → IsItemInNameOrder (entries_of xs) → IsSortedBy (λ a b. is_lt (text_cmp a.name b.name)) xs
is_sorted xs sorted k d low high = subst (λ j. is_lt (text_cmp (get_or xs j d).name (get_or xs k d).name) ≡ false) (sym (add-one k)) (rises xs k d sorted (omega (arith, high)))

-- a binary search by name ends at the name's value, or where there is none
pub searched : (name : List ℕ) (xs : List Attribute) (r : Result ℕ ℕ) → IsItemInNameOrder (entries_of xs) → IsSearchInRange r (length xs) → IsBinarySearchResult (λ a. text_cmp a.name name) xs r
    → IfOk r (λ i. (d : Attribute) → get_attribute name (entries_of xs) ≡ Some (datum_of (get_or xs i d).value)) × OnErr r (get_attribute name (entries_of xs) ≡ None)
searched name xs (Ok i) sorted range found = ((λ d. value_at name xs i d sorted range (text_same _ _ (found d))), tt)
searched name xs (Err i) sorted range parted =
    let at = parted (searchable_from_sorted nat_list_cmp_total (λ a. a.name) xs name (is_sorted xs sorted)) in
    (tt, no_value name xs i range (λ j d lt. at.0 j d (omega arith) lt) (λ j d low lt. at.1 j d low lt))
