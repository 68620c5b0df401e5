-- Placing in the fields of an object and in a list.
use Rattle.std.proofs.Common.{◌≡◌, ◌<◌, ◌↔◌, ℕ, zero, suc, length, arith, true, false, List, [], ◌∷◌, Option, Some, None, IsSome, Bool, Ordering, Less, Equal, Greater, option_map, refl, sym, ap, ◌∙◌, unwrap_or, slice_get, slice_set, subst, OnSome}
use Rattle.std.proofs.lemmas.Cmp.{nat_list_cmp_total}
use Rattle.std.proofs.lemmas.List.{set-get_or}
use Rattle.std.proofs.lemmas.Option.{get_or_from_slice_get}
use Rattle.std.proofs.lemmas.Map.{lookup-none}
use Rattle.std.proofs.lemmas.Map.Entries.{none_below_head}
use Rattle.std.specs.BTreeMap.{is_at}
use Rattle.std.specs.List.{list_all}
use Rattle.std.specs.List.Sorted.{IsStrictlySortedBy}
use Rattle.std.specs.Option.{option_and_then}
use Rattle.json_tree.specs.Data.{Data, list, fields, no_members, items_of, members_of}
use Rattle.json_tree.specs.Fields.{text_cmp, get_field, with_field, IsInNameOrder}
use Rattle.ref_paths.specs.Nesting.{is_name_step, nested}
use Rattle.ref_paths.specs.Placing.{place_at}
use Rattle.ref_paths.specs.declared.path.PathStep.{PathStep}
use Rattle.ref_paths.specs.declared.path.PathStep.TheVariants.{Name, Index}
use Rattle.ref_paths.proofs.Shapes.{values_again, pairs_again}

pub place_field : (n : List ℕ) (p : List PathStep) (v : Data) (ms : List (List ℕ × Data))
    → place_at (Name n ∷ p) v (fields (members_of ms)) ≡ option_map (λ new. fields (members_of (with_field n new ms))) (place_at p v (unwrap_or (get_field n ms) (fields no_members)))
place_field n p v ms = rw (pairs_again ms)

pub place_item : (n : ℕ) (p : List PathStep) (v : Data) (ds : List Data)
    → place_at (Index n ∷ p) v (list (items_of ds)) ≡ option_and_then (λ child. option_map (λ new. list (items_of (slice_set ds n new))) (place_at p v child)) (slice_get ds n)
place_item n p v ds = rw (values_again ds)

pub map_none : {A B : Type 0} (f : A → B) (x : Option A) → (option_map f x ≡ None) ↔ (x ≡ None)
map_none f None = (λ h. refl, λ h. refl)
map_none f (Some a) = (λ h. cc, λ h. cc)

-- names alone are made as objects, and an index finds no list there
pub names_place : (p : List PathStep) (v : Data) → list_all is_name_step p ≡ true → place_at p v (fields no_members) ≡ Some (nested p v)
names_place [] v h = refl
names_place (Name n ∷ p) v h = rw (names_place p v h)
names_place (Index n ∷ p) v h = cc

pub no_names_place : (p : List PathStep) (v : Data) → list_all is_name_step p ≡ false → place_at p v (fields no_members) ≡ None
no_names_place [] v h = cc
no_names_place (Name n ∷ p) v h = rw (no_names_place p v h)
no_names_place (Index n ∷ p) v h = refl

-- at a name that is absent
pub place_absent : (n : List ℕ) (p : List PathStep) (v : Data) (ms : List (List ℕ × Data)) → get_field n ms ≡ None
    → place_at (Name n ∷ p) v (fields (members_of ms)) ≡ option_map (λ new. fields (members_of (with_field n new ms))) (place_at p v (fields no_members))
place_absent n p v ms h = place_field n p v ms ∙ rw h

-- at a name that is there
pub place_present : (n : List ℕ) (p : List PathStep) (v : Data) (ms : List (List ℕ × Data)) (d : Data) → get_field n ms ≡ Some d
    → place_at (Name n ∷ p) v (fields (members_of ms)) ≡ option_map (λ new. fields (members_of (with_field n new ms))) (place_at p v d)
place_present n p v ms d h = place_field n p v ms ∙ rw h

pub place_element : (n : ℕ) (p : List PathStep) (v : Data) (ds : List Data) (d : Data) → slice_get ds n ≡ Some d
    → place_at (Index n ∷ p) v (list (items_of ds)) ≡ option_map (λ new. list (items_of (slice_set ds n new))) (place_at p v d)
place_element n p v ds d h = place_item n p v ds ∙ rw h

pub place_beyond : (n : ℕ) (p : List PathStep) (v : Data) (ds : List Data) → slice_get ds n ≡ None → place_at (Index n ∷ p) v (list (items_of ds)) ≡ None
place_beyond n p v ds h = place_item n p v ds ∙ rw h

-- a field that takes the value that it has
put_same_at : (o : Ordering) (n : List ℕ) (m : List ℕ × Data) (ms : List (List ℕ × Data)) (d : Data) → text_cmp n m.0 ≡ o → IsInNameOrder (m ∷ ms)
    → get_field n (m ∷ ms) ≡ Some d → (get_field n ms ≡ Some d → with_field n d ms ≡ ms) → with_field n d (m ∷ ms) ≡ m ∷ ms
put_same_at Less n m ms d is sorted has rest =
    let none : get_field n (m ∷ ms) ≡ None = lookup-none (is_at (text_cmp n)) (m ∷ ms) (none_below_head nat_list_cmp_total n m ms sorted is) in
    let no : Some d ≡ None = sym has ∙ none in
    cc no
put_same_at Equal n m ms d is sorted has rest =
    let found : Some m.1 ≡ Some d = rw is at has in
    let one : m.1 ≡ d = cc found in
    rw is (rw (← one))
put_same_at Greater n m ms d is sorted has rest =
    let later : get_field n ms ≡ Some d = rw is at has in
    rw is (ap (λ xs. m ∷ xs) (rest later))

tail_order : (m : List ℕ × Data) (ms : List (List ℕ × Data)) → IsInNameOrder (m ∷ ms) → IsInNameOrder ms
unfolding IsStrictlySortedBy
tail_order m ms h = h.1

pub put_same : (n : List ℕ) (ms : List (List ℕ × Data)) (d : Data) → IsInNameOrder ms → get_field n ms ≡ Some d → with_field n d ms ≡ ms
put_same n [] d sorted has = cc
put_same n (m ∷ ms) d sorted has = put_same_at (text_cmp n m.0) n m ms d refl sorted has (put_same n ms d (tail_order m ms sorted))

-- what is answered of the child is answered of its parent
pub field_answers : (n : List ℕ) (p : List PathStep) (v : Data) (ms after : List (List ℕ × Data)) (d new : Data) → get_field n ms ≡ Some d
    → after ≡ with_field n new ms → place_at p v d ≡ Some new → place_at (Name n ∷ p) v (fields (members_of ms)) ≡ Some (fields (members_of after))
field_answers n p v ms after d new has put h = place_present n p v ms d has ∙ rw h (rw put)

pub element_answers : (n : ℕ) (p : List PathStep) (v : Data) (ds after : List Data) (d new : Data) → slice_get ds n ≡ Some d
    → after ≡ slice_set ds n new → place_at p v d ≡ Some new → place_at (Index n ∷ p) v (list (items_of ds)) ≡ Some (list (items_of after))
element_answers n p v ds after d new has put h = place_element n p v ds d has ∙ rw h (rw put)

pub field_refuses : (P : Type 0) (n : List ℕ) (p : List PathStep) (v : Data) (ms : List (List ℕ × Data)) (d : Data) → get_field n ms ≡ Some d
    → (P ↔ (place_at p v d ≡ None)) → P ↔ (place_at (Name n ∷ p) v (fields (members_of ms)) ≡ None)
field_refuses P n p v ms d has h =
    let e = place_present n p v ms d has in
    let m = map_none (λ new. fields (members_of (with_field n new ms))) (place_at p v d) in
    (λ q. e ∙ m.1 (h.0 q), λ k. h.1 (m.0 (sym e ∙ k)))

pub element_refuses : (P : Type 0) (n : ℕ) (p : List PathStep) (v : Data) (ds : List Data) (d : Data) → slice_get ds n ≡ Some d
    → (P ↔ (place_at p v d ≡ None)) → P ↔ (place_at (Index n ∷ p) v (list (items_of ds)) ≡ None)
element_refuses P n p v ds d has h =
    let e = place_element n p v ds d has in
    let m = map_none (λ new. list (items_of (slice_set ds n new))) (place_at p v d) in
    (λ q. e ∙ m.1 (h.0 q), λ k. h.1 (m.0 (sym e ∙ k)))

pub put_same_element : (n : ℕ) (ds : List Data) (d : Data) → slice_get ds n ≡ Some d → slice_set ds n d ≡ ds
put_same_element n ds d h = ap (slice_set ds n) (sym (get_or_from_slice_get ds n d d h)) ∙ set-get_or ds n d

pub element_within : (n : ℕ) (ds : List Data) (d : Data) → slice_get ds n ≡ Some d → n < length ds
element_within n [] d h = cc
element_within zero (x ∷ ds) d h = omega arith
element_within (suc n) (x ∷ ds) d h = omega (arith, element_within n ds d h)

pub some_holds : {T P : Type 0} (r : Option T) (x : T) → r ≡ Some x → OnSome r P → P
some_holds None x e h = cc
some_holds (Some y) x e h = h

-- ---- what a value that can be placed tells of the rest of the path

some_mapped : {A B : Type 0} (f : A → B) (o : Option A) → IsSome (option_map f o) → IsSome o
some_mapped f None h = h
some_mapped f (Some a) h = refl

not_none : {A : Type 0} (o : Option A) → o ≡ None → IsSome o → ⊥
not_none None none some = cc some
not_none (Some a) none some = cc none

names_at : (b : Bool) (n : List ℕ) (p : List PathStep) (v : Data) (ms : List (List ℕ × Data)) → get_field n ms ≡ None → list_all is_name_step p ≡ b → IsSome (place_at (Name n ∷ p) v (fields (members_of ms))) → b ≡ true
names_at true n p v ms none is some = refl
names_at false n p v ms none is some =
    absurd (not_none _ (place_absent n p v ms none ∙ ap (option_map (λ new. fields (members_of (with_field n new ms)))) (no_names_place p v is)) some)

pub placed_names : (n : List ℕ) (p : List PathStep) (v : Data) (ms : List (List ℕ × Data)) → get_field n ms ≡ None → IsSome (place_at (Name n ∷ p) v (fields (members_of ms))) → list_all is_name_step p ≡ true
placed_names n p v ms none some = names_at (list_all is_name_step p) n p v ms none refl some

pub placed_field : (n : List ℕ) (p : List PathStep) (v : Data) (ms : List (List ℕ × Data)) (d : Data) → get_field n ms ≡ Some d → IsSome (place_at (Name n ∷ p) v (fields (members_of ms))) → IsSome (place_at p v d)
placed_field n p v ms d has some = some_mapped _ (place_at p v d) (subst IsSome (place_present n p v ms d has) some)

pub placed_element : (n : ℕ) (p : List PathStep) (v : Data) (ds : List Data) (d : Data) → slice_get ds n ≡ Some d → IsSome (place_at (Index n ∷ p) v (list (items_of ds))) → IsSome (place_at p v d)
placed_element n p v ds d has some = some_mapped _ (place_at p v d) (subst IsSome (place_element n p v ds d has) some)
