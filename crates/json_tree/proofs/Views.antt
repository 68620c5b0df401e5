-- Fields in the order of their names: where a name stands among them, and what a change there makes of them.
use Rattle.std.proofs.Common.{◌≡◌, ℕ, zero, suc, ◌<◌, ◌≤◌, List, [], ◌∷◌, ◌++◌, length, get_or, set, Option, Some, None, IsSome, Result, Ok, Err, IfOk, IfErr, OnOk, OnErr, Ordering, Less, Equal, Greater, is_lt, cond, Bool, true, false, is_eq, refl, sym, ap, ◌∙◌, subst, arith, add-one}
use Rattle.std.proofs.lemmas.Cmp.{nat_list_cmp_total}
use Rattle.std.proofs.lemmas.List.Sorted.{searchable_from_sorted}
use Rattle.std.proofs.lemmas.Map.{lookup-none}
use Rattle.std.proofs.lemmas.Map.Entries.{none_below_head}
use Rattle.std.specs.BTreeMap.{is_at}
use Rattle.std.specs.List.{AllByRecursion, insert, remove}
use Rattle.std.specs.List.Sorted.{IsStrictlySortedBy, IsSortedBy, IsSearchInRange, IsBinarySearchResult}
use Rattle.std.specs.Map.{keys_of}
use Rattle.std.specs.Ordering.{match_ordering, ordering_reverse}
use Rattle.json_tree.specs.Data.{Data, members_of}
use Rattle.json_tree.specs.Fields.{text_cmp, IsInNameOrder, get_field, with_field, without_field}
use Rattle.json_tree.specs.Places.{IsAt, IsGapFor}
use Rattle.json_tree.specs.Proper.{names}
use Rattle.json_tree.specs.View.{data_of, field_of, fields_of}
use Rattle.json_tree.specs.declared.tree.Field.{Field}
use Rattle.json_tree.specs.declared.tree.Json.{Json}

-- the same comparison from the other side
pub text_flip : (k l : List ℕ) → text_cmp k l ≡ ordering_reverse (text_cmp l k)
text_flip k l = nat_list_cmp_total.antisymm k l

abbrev Pairs : Type 0
Pairs = List (List ℕ × Data)

sorted_tail : (m : List ℕ × Data) (ms : Pairs) → IsInNameOrder (m ∷ ms) → IsInNameOrder ms
unfolding IsStrictlySortedBy
sorted_tail m ms h = h.1

sorted_head : (m : List ℕ × Data) (ms : Pairs) → IsInNameOrder (m ∷ ms) → AllByRecursion (λ y. text_cmp m.0 y ≡ Less) (keys_of ms)
unfolding IsStrictlySortedBy
sorted_head m ms h = h.0

-- ---- what stands at a place

pub within : (name : List ℕ) (fs : List Field) (i : ℕ) → IsAt name fs i → i < length fs
within name [] i h = absurd h
within name (f ∷ fs) zero h = omega arith
within name (f ∷ fs) (suc i) h = omega (arith, within name fs i h.1)

pub gap_within : (name : List ℕ) (fs : List Field) (i : ℕ) → IsGapFor name fs i → i ≤ length fs
gap_within name [] zero h = omega arith
gap_within name [] (suc i) h = absurd h
gap_within name (f ∷ fs) zero h = omega arith
gap_within name (f ∷ fs) (suc i) h = omega (arith, gap_within name fs i h.1)

pub field_at : (name : List ℕ) (fs : List Field) (i : ℕ) (d : Field) → IsAt name fs i → get_field name (fields_of fs) ≡ Some (data_of (get_or fs i d).value)
field_at name [] i d h = absurd h
field_at name (f ∷ fs) zero d h = rw h
field_at name (f ∷ fs) (suc i) d h = rw h.0 (field_at name fs i d h.1)

pub no_field : (name : List ℕ) (fs : List Field) (i : ℕ) → IsInNameOrder (fields_of fs) → IsGapFor name fs i → get_field name (fields_of fs) ≡ None
no_field name [] i sorted h = refl
no_field name (f ∷ fs) zero sorted h = lookup-none (is_at (text_cmp name)) (fields_of (f ∷ fs)) (none_below_head nat_list_cmp_total name (field_of f) (fields_of fs) sorted h)
no_field name (f ∷ fs) (suc i) sorted h = rw h.0 (no_field name fs i (sorted_tail (field_of f) (fields_of fs) sorted) h.1)

pub some_field : (name : List ℕ) (fs : List Field) (i : ℕ) → IsAt name fs i → IsSome (get_field name (fields_of fs))
some_field name [] i h = absurd h
some_field name (f ∷ fs) zero h = rw h refl
some_field name (f ∷ fs) (suc i) h = rw h.0 (some_field name fs i h.1)

stays_at : (b : Bool) (m : List ℕ × Data) (ms : Pairs) (o : Option Data) (rest : Pairs) → cond b (Some m.1) o ≡ None → (o ≡ None → rest ≡ ms) → cond b ms (m ∷ rest) ≡ m ∷ ms
stays_at true m ms o rest h is = cc h
stays_at false m ms o rest h is = ap (λ xs. m ∷ xs) (is h)

-- what has no field of a name stays without it
pub stays_without : (name : List ℕ) (ms : Pairs) → get_field name ms ≡ None → without_field name ms ≡ ms
stays_without name [] h = refl
stays_without name (m ∷ ms) h = stays_at (is_eq (text_cmp name m.0)) m ms (get_field name ms) (without_field name ms) h (stays_without name ms)

-- ---- what a change there makes

pub set_there : (name : List ℕ) (fs : List Field) (i : ℕ) (f : Field) (w : Json) → f ≡ get_or fs i f → IsAt name fs i
    → fields_of (set fs i (record { name = f.name; value = w })) ≡ with_field name (data_of w) (fields_of fs)
set_there name [] i f w is h = absurd h
set_there name (g ∷ fs) zero f w is h = rw (h, is)
set_there name (g ∷ fs) (suc i) f w is h = rw h.0 (ap (λ ms. field_of g ∷ ms) (set_there name fs i f w is h.1))

pub insert_there : (name : List ℕ) (fs : List Field) (i : ℕ) (w : Json) → IsGapFor name fs i → fields_of (insert fs i (record { name = name; value = w })) ≡ with_field name (data_of w) (fields_of fs)
insert_there name [] zero w h = refl
insert_there name [] (suc i) w h = absurd h
insert_there name (g ∷ fs) zero w h = rw h
insert_there name (g ∷ fs) (suc i) w h = rw h.0 (ap (λ ms. field_of g ∷ ms) (insert_there name fs i w h.1))

pub remove_there : (name : List ℕ) (fs : List Field) (i : ℕ) → IsAt name fs i → fields_of (remove fs i) ≡ without_field name (fields_of fs)
remove_there name [] i h = absurd h
remove_there name (g ∷ fs) zero h = rw h
remove_there name (g ∷ fs) (suc i) h = rw h.0 (ap (λ ms. field_of g ∷ ms) (remove_there name fs i h.1))

-- ---- the order stays

pub one_in_order : (name : List ℕ) (d : Data) (ms : Pairs) → ms ≡ (name, d) ∷ [] → IsInNameOrder ms
unfolding IsStrictlySortedBy
one_in_order name d ms is = rw is (tt, tt)

below_all : (k l : List ℕ) (ks : List (List ℕ)) → text_cmp k l ≡ Less → AllByRecursion (λ y. text_cmp l y ≡ Less) ks → AllByRecursion (λ y. text_cmp k y ≡ Less) ks
below_all k l [] lt h = tt
below_all k l (x ∷ ks) lt h = (nat_list_cmp_total.trans k l x lt h.0, below_all k l ks lt h.1)

below_with_at : (o : Ordering) (k name : List ℕ) (d : Data) (m : List ℕ × Data) (ms rest : Pairs) → AllByRecursion (λ y. text_cmp k y ≡ Less) (keys_of (m ∷ ms)) → text_cmp k name ≡ Less
    → AllByRecursion (λ y. text_cmp k y ≡ Less) (keys_of rest) → AllByRecursion (λ y. text_cmp k y ≡ Less) (keys_of (match_ordering o ((name, d) ∷ m ∷ ms) ((m.0, d) ∷ ms) (m ∷ rest)))
below_with_at Less k name d m ms rest h lt later = (lt, h)
below_with_at Equal k name d m ms rest h lt later = h
below_with_at Greater k name d m ms rest h lt later = (h.0, later)

below_with : (k name : List ℕ) (d : Data) (ms : Pairs) → AllByRecursion (λ y. text_cmp k y ≡ Less) (keys_of ms) → text_cmp k name ≡ Less → AllByRecursion (λ y. text_cmp k y ≡ Less) (keys_of (with_field name d ms))
below_with k name d [] h lt = (lt, tt)
below_with k name d (m ∷ ms) h lt = below_with_at (text_cmp name m.0) k name d m ms (with_field name d ms) h lt (below_with k name d ms h.1 lt)

order_with_at : (o : Ordering) (name : List ℕ) (d : Data) (m : List ℕ × Data) (ms : Pairs) → text_cmp name m.0 ≡ o → IsInNameOrder (m ∷ ms) → IsInNameOrder (with_field name d ms)
    → IsInNameOrder (match_ordering o ((name, d) ∷ m ∷ ms) ((m.0, d) ∷ ms) (m ∷ with_field name d ms))
unfolding IsStrictlySortedBy
order_with_at Less name d m ms is sorted later = ((is, below_all name m.0 (keys_of ms) is sorted.0), sorted)
order_with_at Equal name d m ms is sorted later = sorted
order_with_at Greater name d m ms is sorted later = (below_with m.0 name d ms sorted.0 (text_flip m.0 name ∙ ap ordering_reverse is), later)

pub order_with : (name : List ℕ) (d : Data) (ms : Pairs) → IsInNameOrder ms → IsInNameOrder (with_field name d ms)
unfolding IsStrictlySortedBy
order_with name d [] sorted = (tt, tt)
order_with name d (m ∷ ms) sorted = order_with_at (text_cmp name m.0) name d m ms refl sorted (order_with name d ms sorted.1)

below_without_at : (b : Bool) (k : List ℕ) (m : List ℕ × Data) (ms rest : Pairs) → AllByRecursion (λ y. text_cmp k y ≡ Less) (keys_of (m ∷ ms)) → AllByRecursion (λ y. text_cmp k y ≡ Less) (keys_of rest)
    → AllByRecursion (λ y. text_cmp k y ≡ Less) (keys_of (cond b ms (m ∷ rest)))
below_without_at true k m ms rest h later = h.1
below_without_at false k m ms rest h later = (h.0, later)

below_without : (k name : List ℕ) (ms : Pairs) → AllByRecursion (λ y. text_cmp k y ≡ Less) (keys_of ms) → AllByRecursion (λ y. text_cmp k y ≡ Less) (keys_of (without_field name ms))
below_without k name [] h = tt
below_without k name (m ∷ ms) h = below_without_at (is_eq (text_cmp name m.0)) k m ms (without_field name ms) h (below_without k name ms h.1)

order_without_at : (b : Bool) (name : List ℕ) (m : List ℕ × Data) (ms : Pairs) → IsInNameOrder (m ∷ ms) → IsInNameOrder (without_field name ms) → IsInNameOrder (cond b ms (m ∷ without_field name ms))
unfolding IsStrictlySortedBy
order_without_at true name m ms sorted later = sorted.1
order_without_at false name m ms sorted later = (below_without m.0 name ms sorted.0, later)

pub order_without : (name : List ℕ) (ms : Pairs) → IsInNameOrder ms → IsInNameOrder (without_field name ms)
order_without name [] sorted = sorted
order_without name (m ∷ ms) sorted = order_without_at (is_eq (text_cmp name m.0)) name m ms sorted (order_without name ms (sorted_tail m ms sorted))

-- ---- a binary search by name ends at the name's place, or at the gap for it

above_head : (name : List ℕ) (fs : List Field) (i : ℕ) (k : List ℕ) → AllByRecursion (λ y. text_cmp k y ≡ Less) (keys_of (fields_of fs)) → IsAt name fs i → text_cmp name k ≡ Greater
above_head name [] i k h at = absurd at
above_head name (f ∷ fs) zero k h at =
    let flipped : text_cmp k name ≡ ordering_reverse (text_cmp name k) = text_flip k name in
    let less : text_cmp k name ≡ Less = same_right k f.name name at ∙ h.0 in
    text_flip name k ∙ ap ordering_reverse less
  where
    same_right : (k l m : List ℕ) → text_cmp m l ≡ Equal → text_cmp k m ≡ text_cmp k l
    same_right k l m e = text_flip k m ∙ ap ordering_reverse (nat_list_cmp_total.congr m l k e) ∙ sym (text_flip k l)
above_head name (f ∷ fs) (suc i) k h at = above_head name fs i k h.1 at.1

at_place : (name : List ℕ) (fs : List Field) (i : ℕ) (d : Field) → IsInNameOrder (fields_of fs) → i < length fs → text_cmp (get_or fs i d).name name ≡ Equal → IsAt name fs i
at_place name [] i d sorted lt is = absurd (omega arith)
at_place name (f ∷ fs) zero d sorted lt is = text_flip name f.name ∙ ap ordering_reverse is
at_place name (f ∷ fs) (suc i) d sorted lt is =
    let later = at_place name fs i d (sorted_tail (field_of f) (fields_of fs) sorted) (omega arith) is in
    (above_head name fs i f.name (sorted_head (field_of f) (fields_of fs) sorted) later, later)

in_gap : (name : List ℕ) (fs : List Field) (i : ℕ) → i ≤ length fs → ((j : ℕ) (d : Field) → j < i → text_cmp (get_or fs j d).name name ≡ Less)
    → ((j : ℕ) (d : Field) → i ≤ j → j < length fs → text_cmp (get_or fs j d).name name ≡ Greater) → IsGapFor name fs i
in_gap name [] zero le below above = tt
in_gap name [] (suc i) le below above = absurd (omega arith)
in_gap name (f ∷ fs) zero le below above = text_flip name f.name ∙ ap ordering_reverse (above 0 f (omega arith) (omega arith))
in_gap name (f ∷ fs) (suc i) le below above =
    (text_flip name f.name ∙ ap ordering_reverse (below 0 f (omega arith)), in_gap name fs i (omega arith) (λ j d lt. below (suc j) d (omega (arith, lt))) (λ j d low lt. above (suc j) d (omega (arith, low)) (omega (arith, lt))))

rises : (fs : List Field) (k : ℕ) (d : Field) → IsInNameOrder (fields_of fs) → suc k < length fs → is_lt (text_cmp (get_or fs (suc k) d).name (get_or fs k d).name) ≡ false
rises [] k d sorted lt = absurd (omega arith)
rises (f ∷ []) k d sorted lt = absurd (omega arith)
rises (f ∷ g ∷ fs) zero d sorted lt = ap is_lt (text_flip g.name f.name ∙ ap ordering_reverse (sorted_head (field_of f) (fields_of (g ∷ fs)) sorted).0)
rises (f ∷ g ∷ fs) (suc k) d sorted lt = rises (g ∷ fs) k d (sorted_tail (field_of f) (fields_of (g ∷ fs)) sorted) (omega arith)

is_sorted : (fs : List Field) → IsInNameOrder (fields_of fs) → IsSortedBy (λ a b. is_lt (text_cmp a.name b.name)) fs
is_sorted fs sorted k d low high = subst (λ j. is_lt (text_cmp (get_or fs j d).name (get_or fs k d).name) ≡ false) (sym (add-one k)) (rises fs k d sorted (omega (arith, high)))

pub searched : (name : List ℕ) (fs : List Field) (r : Result ℕ ℕ) → IsInNameOrder (fields_of fs) → IsSearchInRange r (length fs) → IsBinarySearchResult (λ f. text_cmp f.name name) fs r
    → IfOk r (IsAt name fs) × IfErr r (IsGapFor name fs)
searched name [] (Ok i) sorted range found = absurd (omega (arith, range))
searched name (f ∷ fs) (Ok i) sorted range found = (at_place name (f ∷ fs) i f sorted range (found f), tt)
searched name fs (Err i) sorted range parted =
    let at = parted (searchable_from_sorted nat_list_cmp_total (λ f. f.name) fs name (is_sorted fs sorted)) in
    (tt, in_gap name fs i range (λ j d lt. at.0 j d (omega arith) lt) (λ j d low lt. at.1 j d low lt))

-- ---- fields and their names

pub keys_of-append : (ms ns : Pairs) → keys_of (ms ++ ns) ≡ keys_of ms ++ keys_of ns
keys_of-append [] ns = refl
keys_of-append (m ∷ ms) ns = ap (λ ks. m.0 ∷ ks) (keys_of-append ms ns)

pub names-members_of : (ms : Pairs) → names (members_of ms) ≡ keys_of ms
names-members_of [] = refl
names-members_of (m ∷ ms) = ap (λ ks. m.0 ∷ ks) (names-members_of ms)

-- ---- places that were found in a lent list, by a lent name

pub at_named : (n name : List ℕ) (gs fs : List Field) (i : ℕ) → n ≡ name → gs ≡ fs → IsAt n gs i → IsAt name fs i
at_named n name gs fs i same_name same_fields h = subst (λ m. IsAt m fs i) same_name (subst (λ hs. IsAt n hs i) same_fields h)

pub gap_named : (n name : List ℕ) (gs fs : List Field) (i : ℕ) → n ≡ name → gs ≡ fs → IsGapFor n gs i → IsGapFor name fs i
gap_named n name gs fs i same_name same_fields h = subst (λ m. IsGapFor m fs i) same_name (subst (λ hs. IsGapFor n hs i) same_fields h)

-- a name stands at the same place among fields that are the same
pub same_place : (name : List ℕ) (gs fs : List Field) (i : ℕ) → fields_of gs ≡ fields_of fs → IsAt name gs i → IsAt name fs i
same_place name [] fs i same h = absurd h
same_place name (g ∷ gs) [] i same h = cc same
same_place name (g ∷ gs) (f ∷ fs) zero same h =
    let one : field_of g ≡ field_of f = cc same in
    subst (λ m. text_cmp name m ≡ Equal) (ap (λ m. m.0) one) h
same_place name (g ∷ gs) (f ∷ fs) (suc i) same h =
    let one : field_of g ≡ field_of f = cc same in
    let rest : fields_of gs ≡ fields_of fs = cc same in
    (subst (λ m. text_cmp name m ≡ Greater) (ap (λ m. m.0) one) h.0, same_place name gs fs i rest h.1)

pub found_some : (name : List ℕ) (fs : List Field) (r : Result ℕ ℕ) → IfOk r (IsAt name fs) → OnOk r (IsSome (get_field name (fields_of fs)))
found_some name fs (Ok i) h = some_field name fs i h
found_some name fs (Err i) h = tt

pub gap_none : (name : List ℕ) (fs : List Field) (r : Result ℕ ℕ) → IsInNameOrder (fields_of fs) → IfErr r (IsGapFor name fs) → OnErr r (get_field name (fields_of fs) ≡ None)
gap_none name fs (Ok i) sorted h = tt
gap_none name fs (Err i) sorted h = no_field name fs i sorted h

pub gap_stays : (name : List ℕ) (fs : List Field) (r : Result ℕ ℕ) → IsInNameOrder (fields_of fs) → IfErr r (IsGapFor name fs) → OnErr r (without_field name (fields_of fs) ≡ fields_of fs)
gap_stays name fs (Ok i) sorted h = tt
gap_stays name fs (Err i) sorted h = stays_without name (fields_of fs) (no_field name fs i sorted h)
