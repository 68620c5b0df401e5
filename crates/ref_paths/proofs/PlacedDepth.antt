-- How deep a value nests with another placed in it.
use Rattle.std.proofs.Common.{◌≡◌, ◌↔◌, ℕ, zero, suc, ◌+◌, ◌-◌, ◌≤◌, List, [], ◌∷◌, length, Option, Some, None, Ordering, Less, Equal, Greater, option_map, unwrap_or, slice_get, slice_set, refl, sym, ap, ◌∙◌, subst, arith}
use Rattle.std.specs.Option.{option_and_then}
use Rattle.std.specs.Ordering.{match_ordering}
use Rattle.json_tree.specs.Data.{Data, null, boolean, whole, text, list, fields, Items, no_items, item, Members, no_members, member, items_of, members_of, depth, items_depth, members_depth, list_depth, fields_depth}
use Rattle.json_tree.specs.Fields.{text_cmp, get_field, with_field}
use Rattle.ref_paths.specs.Composition.{DepthIsTold}
use Rattle.ref_paths.specs.Picking.{values_of, pairs_of}
use Rattle.ref_paths.specs.Placing.{place_at}
use Rattle.ref_paths.specs.declared.path.PathStep.{PathStep}
use Rattle.ref_paths.specs.declared.path.PathStep.TheVariants.{Name, Index}
use Rattle.ref_paths.proofs.Shapes.{items_again, members_again}

abbrev Pairs : Type 0
Pairs = List (List ℕ × Data)

-- what is put beside others that nest no deeper decides
put_field_at : (o : Ordering) (n : List ℕ) (d : Data) (m : List ℕ × Data) (ms rest : Pairs) (b : ℕ) → fields_depth (m ∷ ms) ≤ b → (fields_depth rest ≤ b) ↔ (depth d ≤ b)
    → (fields_depth (match_ordering o ((n, d) ∷ m ∷ ms) ((m.0, d) ∷ ms) (m ∷ rest)) ≤ b) ↔ (depth d ≤ b)
put_field_at Less n d m ms rest b low h = (λ e. omega (arith, e), λ e. omega (arith, e, low))
put_field_at Equal n d m ms rest b low h = (λ e. omega (arith, e), λ e. omega (arith, e, low))
put_field_at Greater n d m ms rest b low h =
    (λ e. h.0 (omega (arith, e)), λ e. let later : fields_depth rest ≤ b = h.1 e in omega (arith, later, low))

put_field : (n : List ℕ) (d : Data) (ms : Pairs) (b : ℕ) → fields_depth ms ≤ b → (fields_depth (with_field n d ms) ≤ b) ↔ (depth d ≤ b)
put_field n d [] b low = (λ e. omega (arith, e), λ e. omega (arith, e))
put_field n d (m ∷ ms) b low = put_field_at (text_cmp n m.0) n d m ms (with_field n d ms) b low (put_field n d ms b (omega (arith, low)))

put_item : (n : ℕ) (d c : Data) (ds : List Data) (b : ℕ) → slice_get ds n ≡ Some c → list_depth ds ≤ b → (list_depth (slice_set ds n d) ≤ b) ↔ (depth d ≤ b)
put_item n d c [] b is low = cc is
put_item zero d c (x ∷ ds) b is low = (λ e. omega (arith, e), λ e. omega (arith, e, low))
put_item (suc n) d c (x ∷ ds) b is low =
    let rest = put_item n d c ds b is (omega (arith, low)) in
    (λ e. rest.0 (omega (arith, e)), λ e. let later : list_depth (slice_set ds n d) ≤ b = rest.1 e in omega (arith, later, low))

-- what is there nests no deeper
field_low_at : (o : Ordering) (n : List ℕ) (m : List ℕ × Data) (ms : Pairs) (c : Data) (b : ℕ) → text_cmp n m.0 ≡ o → fields_depth (m ∷ ms) ≤ b → get_field n (m ∷ ms) ≡ Some c → (get_field n ms ≡ Some c → depth c ≤ b) → depth c ≤ b
field_low_at Less n m ms c b is low has rest = let later : get_field n ms ≡ Some c = rw is at has in rest later
field_low_at Equal n m ms c b is low has rest =
    let found : Some m.1 ≡ Some c = rw is at has in
    let one : m.1 ≡ c = cc found in
    rw (← one) (omega (arith, low))
field_low_at Greater n m ms c b is low has rest = let later : get_field n ms ≡ Some c = rw is at has in rest later

pub field_low : (n : List ℕ) (ms : Pairs) (c : Data) (b : ℕ) → fields_depth ms ≤ b → get_field n ms ≡ Some c → depth c ≤ b
field_low n [] c b low has = cc has
field_low n (m ∷ ms) c b low has = field_low_at (text_cmp n m.0) n m ms c b refl low has (field_low n ms c b (omega (arith, low)))

pub item_low : (n : ℕ) (ds : List Data) (c : Data) (b : ℕ) → list_depth ds ≤ b → slice_get ds n ≡ Some c → depth c ≤ b
item_low n [] c b low has = cc has
item_low zero (d ∷ ds) c b low has =
    let one : d ≡ c = cc has in
    rw (← one) (omega (arith, low))
item_low (suc n) (d ∷ ds) c b low has = item_low n ds c b (omega (arith, low)) has

-- what is placed in an object that is made
made_at : (r : Option Data) (n : List ℕ) (p : List PathStep) (v after : Data) → ((new : Data) → r ≡ Some new → depth new ≡ length p + depth v)
    → option_map (λ new. fields (members_of (with_field n new []))) r ≡ Some after → depth after ≡ suc (length p + depth v)
made_at None n p v after h is = cc is
made_at (Some new) n p v after h is =
    let one : after ≡ fields (member n new no_members) = cc is in
    let deep : depth new ≡ length p + depth v = h new refl in
    rw one (omega (arith, deep))

made : (p : List PathStep) (v after : Data) → place_at p v (fields no_members) ≡ Some after → depth after ≡ length p + depth v
made [] v after is =
    let one : after ≡ v = cc is in
    rw one (omega arith)
made (Name n ∷ p) v after is =
    let deep : depth after ≡ suc (length p + depth v) = made_at (place_at p v (fields no_members)) n p v after (made p v) is in
    omega (arith, deep)
made (Index n ∷ p) v after is = cc is

-- the part of a law that the rest of the path answers
abbrev Told : List PathStep → Data → Data → ℕ → Type 0
Told p v child b = (new : Data) → place_at p v child ≡ Some new → (depth new ≤ b) ↔ (length p + depth v ≤ b)

made_told : (p : List PathStep) (v : Data) (b : ℕ) → Told p v (fields no_members) b
made_told p v b new is =
    let deep : depth new ≡ length p + depth v = made p v new is in
    (λ e. omega (arith, e, deep), λ e. omega (arith, e, deep))

child_told : (o : Option Data) (n : List ℕ) (ms : Pairs) (p : List PathStep) (v : Data) (b : ℕ) → get_field n ms ≡ o → fields_depth ms ≤ b → ((c : Data) → depth c ≤ b → Told p v c b) → Told p v (unwrap_or o (fields no_members)) b
child_told None n ms p v b is low rest = made_told p v b
child_told (Some c) n ms p v b is low rest = rest c (field_low n ms c b low is)

name_told : (r : Option Data) (n : List ℕ) (p : List PathStep) (v after : Data) (ms : Pairs) (b : ℕ) → fields_depth ms ≤ b → ((new : Data) → r ≡ Some new → (depth new ≤ b) ↔ (length p + depth v ≤ b))
    → option_map (λ new. fields (members_of (with_field n new ms))) r ≡ Some after → (depth after ≤ suc b) ↔ (suc (length p + depth v) ≤ suc b)
name_told None n p v after ms b low rest is = cc is
name_told (Some new) n p v after ms b low rest is =
    let one : after ≡ fields (members_of (with_field n new ms)) = cc is in
    let put = put_field n new ms b low in
    let told = rest new refl in
    rw one (λ e. let deep : length p + depth v ≤ b = told.0 (put.0 (omega (arith, e))) in omega (arith, deep), λ e. let deep : fields_depth (with_field n new ms) ≤ b = put.1 (told.1 (omega (arith, e))) in omega (arith, deep))

index_told : (r : Option Data) (n : ℕ) (c : Data) (p : List PathStep) (v after : Data) (ds : List Data) (b : ℕ) → slice_get ds n ≡ Some c → list_depth ds ≤ b → ((new : Data) → r ≡ Some new → (depth new ≤ b) ↔ (length p + depth v ≤ b))
    → option_map (λ new. list (items_of (slice_set ds n new))) r ≡ Some after → (depth after ≤ suc b) ↔ (suc (length p + depth v) ≤ suc b)
index_told None n c p v after ds b has low rest is = cc is
index_told (Some new) n c p v after ds b has low rest is =
    let one : after ≡ list (items_of (slice_set ds n new)) = cc is in
    let put = put_item n new c ds b has low in
    let told = rest new refl in
    rw one (λ e. let deep : length p + depth v ≤ b = told.0 (put.0 (omega (arith, e))) in omega (arith, deep), λ e. let deep : list_depth (slice_set ds n new) ≤ b = put.1 (told.1 (omega (arith, e))) in omega (arith, deep))

-- a step more on both sides
one_more : (P : Type 0) (m n b : ℕ) → (P ↔ (suc (m + n) ≤ b)) → P ↔ (suc m + n ≤ b)
one_more P m n b h = (λ e. let x : suc (m + n) ≤ b = h.0 e in omega (arith, x), λ e. h.1 (omega (arith, e)))

element_told : (o : Option Data) (n : ℕ) (p : List PathStep) (v after : Data) (ds : List Data) (b : ℕ) → slice_get ds n ≡ o → list_depth ds ≤ b → ((c : Data) → depth c ≤ b → Told p v c b)
    → option_and_then (λ child. option_map (λ new. list (items_of (slice_set ds n new))) (place_at p v child)) o ≡ Some after → (depth after ≤ suc b) ↔ (suc (length p + depth v) ≤ suc b)
element_told None n p v after ds b has low rest is = cc is
element_told (Some c) n p v after ds b has low rest is = index_told (place_at p v c) n c p v after ds b has low (rest c (item_low n ds c b low has)) is

pub told : DepthIsTold
told [] v root after b low is =
    let one : after ≡ v = cc is in
    rw one (λ e. omega (arith, e), λ e. omega (arith, e))
told (Name n ∷ p) v (fields ms) after zero low is = absurd (omega (arith, low))
told (Name n ∷ p) v (fields ms) after (suc b) low is =
    let below : fields_depth (pairs_of ms) ≤ b = subst (λ xs. members_depth xs ≤ b) (sym (members_again ms)) (omega (arith, low)) in
    one_more _ (length p) (depth v) (suc b)
    (name_told (place_at p v (unwrap_or (get_field n (pairs_of ms)) (fields no_members))) n p v after (pairs_of ms) b below
    (child_told (get_field n (pairs_of ms)) n (pairs_of ms) p v b refl below (λ c le new h. told p v c new b le h)) is)
told (Index n ∷ p) v (list ds) after zero low is = absurd (omega (arith, low))
told (Index n ∷ p) v (list ds) after (suc b) low is =
    let below : list_depth (values_of ds) ≤ b = subst (λ xs. items_depth xs ≤ b) (sym (items_again ds)) (omega (arith, low)) in
    one_more _ (length p) (depth v) (suc b) (element_told (slice_get (values_of ds) n) n p v after (values_of ds) b refl below (λ c le new h. told p v c new b le h) is)
told (Name n ∷ p) v null after b low is = cc is
told (Name n ∷ p) v (boolean x) after b low is = cc is
told (Name n ∷ p) v (whole z) after b low is = cc is
told (Name n ∷ p) v (text s) after b low is = cc is
told (Name n ∷ p) v (list ds) after b low is = cc is
told (Index n ∷ p) v null after b low is = cc is
told (Index n ∷ p) v (boolean x) after b low is = cc is
told (Index n ∷ p) v (whole z) after b low is = cc is
told (Index n ∷ p) v (text s) after b low is = cc is
told (Index n ∷ p) v (fields ms) after b low is = cc is
