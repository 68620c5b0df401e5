-- What is picked once a value was placed.
use Rattle.std.proofs.Common.{◌≡◌, ◌≢◌, ◌⊎◌, ◌<◌, ◌≤◌, ℕ, false, List, [], ◌∷◌, length, Option, Some, None, Ordering, Less, Equal, Greater, option_map, refl, sym, ap, ◌∙◌, inl, inr, unwrap_or, slice_get, slice_set, is_eq, cond, arith}
use Rattle.std.proofs.lemmas.Bool.{cases_lt}
use Rattle.std.proofs.lemmas.List.{get_or-set_same, get_or-set_other, length-set}
use Rattle.std.proofs.lemmas.Option.{slice_get_within, slice_get_past, slice_get-get_or}
use Rattle.std.proofs.lemmas.Map.Text.{is_eq-slice_cmp}
use Rattle.std.proofs.lemmas.Slice.Eq.{bytes_eq-Decides}
use Rattle.std.specs.Option.{option_and_then}
use Rattle.json_tree.specs.Data.{Data, list, fields, no_members}
use Rattle.json_tree.specs.Fields.{text_cmp, get_field, with_field}
use Rattle.ref_paths.specs.Laws.{Part, PlacedIsPicked, ElsewhereStays}
use Rattle.ref_paths.specs.Picking.{values_of, pairs_of, child_at, pick_at}
use Rattle.ref_paths.specs.Placing.{opened_at, put_value_at, place_at}
use Rattle.ref_paths.specs.declared.path.PathStep.{PathStep}
use Rattle.ref_paths.specs.declared.path.PathStep.TheVariants.{Name, Index}
use Rattle.json_tree.proofs.Same.{text_same}
use Rattle.ref_paths.proofs.Nests.{same_text}
use Rattle.ref_paths.proofs.Shapes.{values_again, pairs_again}

-- fields with a new value at a name
get_with_at : (o : Ordering) (n : List ℕ) (d : Data) (m : List ℕ × Data) (ms : List (List ℕ × Data)) → text_cmp n m.0 ≡ o → get_field n (with_field n d ms) ≡ Some d → get_field n (with_field n d (m ∷ ms)) ≡ Some d
get_with_at Less n d m ms is h = rw is (rw (same_text n))
get_with_at Equal n d m ms is h = rw is (rw is)
get_with_at Greater n d m ms is h = rw is (rw is h)

pub get_with : (n : List ℕ) (d : Data) (ms : List (List ℕ × Data)) → get_field n (with_field n d ms) ≡ Some d
get_with n d [] = rw (same_text n)
get_with n d (m ∷ ms) = get_with_at (text_cmp n m.0) n d m ms refl (get_with n d ms)

not_eq_at : (o : Ordering) (q n : List ℕ) → q ≢ n → text_cmp q n ≡ o → is_eq o ≡ false
not_eq_at Less q n h is = refl
not_eq_at Equal q n h is = absurd (h (text_same q n is))
not_eq_at Greater q n h is = refl

not_eq : (q n : List ℕ) → q ≢ n → is_eq (text_cmp q n) ≡ false
not_eq q n h = not_eq_at (text_cmp q n) q n h refl

get_other_at : (o : Ordering) (q n : List ℕ) (d : Data) (m : List ℕ × Data) (ms : List (List ℕ × Data)) → q ≢ n → text_cmp n m.0 ≡ o → get_field q (with_field n d ms) ≡ get_field q ms
    → get_field q (with_field n d (m ∷ ms)) ≡ get_field q (m ∷ ms)
get_other_at Less q n d m ms apart is h = rw is (rw (not_eq q n apart))
get_other_at Equal q n d m ms apart is h =
    let same : n ≡ m.0 = text_same n m.0 is in
    let apart' : q ≢ m.0 = λ e. apart (e ∙ sym same) in
    rw is (rw (not_eq q m.0 apart'))
get_other_at Greater q n d m ms apart is h = rw is (ap (λ x. cond (is_eq (text_cmp q m.0)) (Some m.1) x) h)

pub get_other : (q n : List ℕ) (d : Data) (ms : List (List ℕ × Data)) → q ≢ n → get_field q (with_field n d ms) ≡ get_field q ms
get_other q n d [] apart = rw (not_eq q n apart)
get_other q n d (m ∷ ms) apart = get_other_at (text_cmp n m.0) q n d m ms apart refl (get_other q n d ms apart)

-- lists with a new value at an index
pub set_same : (ds : List Data) (n : ℕ) (d : Data) → n < length ds → slice_get (slice_set ds n d) n ≡ Some d
set_same ds n d h = slice_get-get_or (slice_set ds n d) n d (omega (arith, length-set ds n d)) ∙ ap Some (get_or-set_same ds n d d h)

set_other_at : (ds : List Data) (n m : ℕ) (d : Data) → m ≢ n → (m < length ds) ⊎ (length ds ≤ m) → slice_get (slice_set ds n d) m ≡ slice_get ds m
set_other_at ds n m d apart (inl h) = slice_get-get_or (slice_set ds n d) m d (omega (arith, length-set ds n d)) ∙ ap Some (get_or-set_other ds n m d d apart) ∙ sym (slice_get-get_or ds m d h)
set_other_at ds n m d apart (inr h) = slice_get_past (slice_set ds n d) m (omega (arith, length-set ds n d)) ∙ sym (slice_get_past ds m h)

pub set_other : (ds : List Data) (n m : ℕ) (d : Data) → m ≢ n → slice_get (slice_set ds n d) m ≡ slice_get ds m
set_other ds n m d apart = set_other_at ds n m d apart (cases_lt m (length ds))

-- one step
pub child_put : (s : PathStep) (d c new : Data) → opened_at s d ≡ Some c → child_at s (put_value_at s new d) ≡ Some new
child_put (Name n) (fields ms) c new h = ap (get_field n) (pairs_again (with_field n new (pairs_of ms))) ∙ get_with n new (pairs_of ms)
child_put (Index n) (list ds) c new h = ap (λ xs. slice_get xs n) (values_again (slice_set (values_of ds) n new)) ∙ set_same (values_of ds) n new (slice_get_within (values_of ds) n c h)
child_put _ _ c new h = cc

pub child_put_other : (s t : PathStep) (d c new : Data) → s ≢ t → opened_at s d ≡ Some c → child_at t (put_value_at s new d) ≡ child_at t d
child_put_other (Name n) (Name m) (fields ms) c new apart h = ap (get_field m) (pairs_again (with_field n new (pairs_of ms))) ∙ get_other m n new (pairs_of ms) (λ e. apart (ap Name (sym e)))
child_put_other (Index n) (Index m) (list ds) c new apart h = ap (λ xs. slice_get xs m) (values_again (slice_set (values_of ds) n new)) ∙ set_other (values_of ds) n m new (λ e. apart (ap Index (sym e)))
child_put_other (Name n) (Index m) (fields ms) c new apart h = refl
child_put_other (Index n) (Name m) (list ds) c new apart h = refl
child_put_other _ _ _ c new apart h = cc

-- the parts of a placing
abbrev pub Parts : PathStep → List PathStep → Data → Data → Data → Type 0
Parts s path v root after = (c : Data) × (new : Data) × (opened_at s root ≡ Some c) × (place_at path v c ≡ Some new) × (put_value_at s new root ≡ after)

parts_new : (o : Option Data) (s : PathStep) (path : List PathStep) (v root after c : Data) → opened_at s root ≡ Some c → place_at path v c ≡ o → option_map (λ new. put_value_at s new root) o ≡ Some after → Parts s path v root after
parts_new None s path v root after c open_is is h = cc
parts_new (Some new) s path v root after c open_is is h = (c, new, open_is, is, cc)

parts_open : (o : Option Data) (s : PathStep) (path : List PathStep) (v root after : Data) → opened_at s root ≡ o → option_and_then (λ child. option_map (λ new. put_value_at s new root) (place_at path v child)) o ≡ Some after → Parts s path v root after
parts_open None s path v root after is h = cc
parts_open (Some c) s path v root after is h = parts_new (place_at path v c) s path v root after c is refl h

pub place_parts : (s : PathStep) (path : List PathStep) (v root after : Data) → place_at (s ∷ path) v root ≡ Some after → Parts s path v root after
place_parts s path v root after h = parts_open (opened_at s root) s path v root after refl h

pub placed_is_picked : PlacedIsPicked
placed_is_picked [] v root after h = sym h
placed_is_picked (s ∷ path) v root after h =
    let p = place_parts s path v root after h in
    ap (λ x. option_and_then (pick_at path) (child_at s x)) (sym p.4) ∙ ap (option_and_then (pick_at path)) (child_put s root p.0 p.1 p.2) ∙ placed_is_picked path v p.0 p.1 p.3

-- a made object has nothing to pick
none_made : (t : PathStep) (other : List PathStep) → pick_at (t ∷ other) (fields no_members) ≡ None
none_made (Name n) other = refl
none_made (Index n) other = refl

picks_open_at : (o : Option Data) (t : PathStep) (other : List PathStep) → pick_at (t ∷ other) (unwrap_or o (fields no_members)) ≡ option_and_then (pick_at (t ∷ other)) o
picks_open_at None t other = none_made t other
picks_open_at (Some d) t other = refl

pub picks_open : (s t : PathStep) (other : List PathStep) (d c : Data) → opened_at s d ≡ Some c → pick_at (t ∷ other) c ≡ pick_at (s ∷ t ∷ other) d
picks_open (Name n) t other (fields ms) c h =
    let e : unwrap_or (get_field n (pairs_of ms)) (fields no_members) ≡ c = cc in
    ap (pick_at (t ∷ other)) (sym e) ∙ picks_open_at (get_field n (pairs_of ms)) t other
picks_open (Index n) t other (list ds) c h = ap (option_and_then (pick_at (t ∷ other))) (sym h)
picks_open _ t other _ c h = cc

pub elsewhere_stays : ElsewhereStays
elsewhere_stays [] other v root after part h = absurd part
elsewhere_stays (s ∷ path) [] v root after part h = absurd part
elsewhere_stays (s ∷ path) (t ∷ other) v root after (inl apart) h =
    let p = place_parts s path v root after h in
    ap (λ x. option_and_then (pick_at other) (child_at t x)) (sym p.4) ∙ ap (option_and_then (pick_at other)) (child_put_other s t root p.0 p.1 apart p.2)
elsewhere_stays (s ∷ path) (t ∷ []) v root after (inr both) h = absurd (no_part path both.1)
  where
    no_part : (path : List PathStep) → Part path [] → ⊥
    no_part [] h = h
    no_part (s ∷ path) h = h
elsewhere_stays (s ∷ path) (t ∷ u ∷ other) v root after (inr both) h =
    let p = place_parts s path v root after h in
    ap (λ x. option_and_then (pick_at (u ∷ other)) (child_at t x)) (sym p.4)
    ∙ ap (λ x. option_and_then (pick_at (u ∷ other)) (child_at x (put_value_at s p.1 root))) (sym both.0)
    ∙ ap (option_and_then (pick_at (u ∷ other))) (child_put s root p.0 p.1 p.2)
    ∙ elsewhere_stays path (u ∷ other) v p.0 p.1 both.1 p.3
    ∙ picks_open s u other root p.0 p.2 ∙ ap (λ x. pick_at (x ∷ u ∷ other) root) both.0
