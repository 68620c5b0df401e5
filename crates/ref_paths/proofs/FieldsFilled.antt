-- The fields of an object that is filled.
use Rattle.std.proofs.Common.{◌≡◌, ◌≢◌, ℕ, ◌-◌, Bool, true, false, List, [], ◌∷◌, ◌++◌, length, take, Option, Some, None, Ordering, Less, Equal, Greater, option_map, codes, cond, eqb, refl, sym, ap, ◌∙◌, subst}
use Rattle.std.proofs.lemmas.Bool.Decides.{Decides-eqb}
use Rattle.std.proofs.lemmas.Slice.Eq.{ends_is}
use Rattle.std.specs.List.{AllByRecursion, ends_with}
use Rattle.std.specs.List.Sorted.{IsStrictlySortedBy}
use Rattle.std.specs.Option.{option_and_then}
use Rattle.json_tree.specs.Data.{Data, fields as fields_data, Members, no_members, member, members_of}
use Rattle.json_tree.specs.Fields.{text_cmp, get_field, with_field}
use Rattle.json_tree.specs.Proper.{names}
use Rattle.ref_paths.specs.Filling.{filled, filled_fields, fields_with}
use Rattle.ref_paths.specs.Picking.{pairs_of}
use Rattle.ref_paths.specs.TemplateLaws.{FieldsAreFilled}
use Rattle.ref_paths.specs.Templates.{Payload, named_of, IsTemplate, FieldsAreTemplates, FieldIs, StandsFor, OnMarked, unmarked}
use Rattle.ref_paths.proofs.Nests.{same_text}
use Rattle.json_tree.proofs.Same.{text_same}
use Rattle.ref_paths.proofs.PickedAgain.{get_with, get_other}
use Rattle.ref_paths.proofs.Shapes.{pairs_again}

abbrev Fields : Type 0
Fields = List (List ℕ × Data)

abbrev Named : List ℕ → Fields → Type 0
Named x ms = get_field x ms ≡ None → ⊥

-- a name is what is left of it and the mark
marked_at : (k name : List ℕ) (b : Bool) → ends_with eqb k (codes ".$") ≡ b → cond b (Some (take (length k - 2) k)) None ≡ Some name → k ≡ name ++ codes ".$"
marked_at k name true is h =
    let cut : take (length k - 2) k ≡ name = cc in
    (ends_is Decides-eqb k (codes ".$") _ refl).0 is ∙ ap (λ x. x ++ codes ".$") cut
marked_at k name false is h = cc

marked_is : (k name : List ℕ) → unmarked k ≡ Some name → k ≡ name ++ codes ".$"
marked_is k name h = marked_at k name (ends_with eqb k (codes ".$")) refl h

-- two fields of an object are filled under two names
apart_at : (it : Bool) (all : Fields) (k l : List ℕ) (d e : Data) (f g : List ℕ × Payload) (P Q : Type 0) (o r : Option (List ℕ)) → unmarked k ≡ o → unmarked l ≡ r → k ≢ l → Named k all → Named l all
    → OnMarked o (λ name. StandsFor it all name d f) ((f.0 ≡ k) × P) → OnMarked r (λ name. StandsFor it all name e g) ((g.0 ≡ l) × Q) → f.0 ≢ g.0
apart_at it all k l d e f g P Q None None ko lo other has also h j same = other (sym h.0 ∙ same ∙ j.0)
apart_at it all k l d e f g P Q (Some n) None ko lo other has also h j same = also (ap (λ x. get_field x all) (sym j.0 ∙ sym same ∙ h.0) ∙ h.1)
apart_at it all k l d e f g P Q None (Some m) ko lo other has also h j same = has (ap (λ x. get_field x all) (sym h.0 ∙ same ∙ j.0) ∙ j.1)
apart_at it all k l d e f g P Q (Some n) (Some m) ko lo other has also h j same =
    let one : n ≡ m = sym h.0 ∙ same ∙ j.0 in
    other (marked_is k n ko ∙ ap (λ x. x ++ codes ".$") one ∙ sym (marked_is l m lo))

less_apart : (k l : List ℕ) → text_cmp k l ≡ Less → k ≢ l
less_apart k l h same =
    let tied : text_cmp k l ≡ Equal = ap (λ x. text_cmp k x) (sym same) ∙ same_text k in
    let no : Less ≡ Equal = sym h ∙ tied in
    cc no

named_first : (k : List ℕ) (d : Data) (ms : Fields) → Named k ((k, d) ∷ ms)
named_first k d ms h = let e : get_field k ((k, d) ∷ ms) ≡ Some d = rw (same_text k) in let no : Some d ≡ None = sym e ∙ h in cc no

named_rest_at : (o : Ordering) (x k : List ℕ) (d : Data) (ms : Fields) → text_cmp x k ≡ o → Named x ms → Named x ((k, d) ∷ ms)
named_rest_at Less x k d ms is h g = h (rw is at g)
named_rest_at Equal x k d ms is h g = let no : Some d ≡ None = rw is at g in cc no
named_rest_at Greater x k d ms is h g = h (rw is at g)

named_rest : (x k : List ℕ) (d : Data) (ms : Fields) → Named x ms → Named x ((k, d) ∷ ms)
named_rest x k d ms h = named_rest_at (text_cmp x k) x k d ms refl h

-- what is filled first, and the rest
abbrev Parts : Data → Option (ℕ × Data) → List ℕ × Payload → List (List ℕ × Payload) → Fields → Type 0
Parts input i first rest vs = (v : Data) × (ws : Fields) × (filled input i first.1 ≡ Some v) × (filled_fields input i (named_of rest) ≡ Some ws) × (vs ≡ (first.0, v) ∷ ws)

parts_at : (input : Data) (i : Option (ℕ × Data)) (first : List ℕ × Payload) (rest : List (List ℕ × Payload)) (vs : Fields) (o : Option Data) (r : Option Fields) → filled input i first.1 ≡ o → filled_fields input i (named_of rest) ≡ r
    → option_and_then (λ d. option_map (λ ms. (first.0, d) ∷ ms) r) o ≡ Some vs → Parts input i first rest vs
parts_at input i first rest vs None r is also h = cc
parts_at input i first rest vs (Some v) None is also h = cc
parts_at input i first rest vs (Some v) (Some ws) is also h = let same : (first.0, v) ∷ ws ≡ vs = cc in (v, ws, is, also, sym same)

parts : (input : Data) (i : Option (ℕ × Data)) (first : List ℕ × Payload) (rest : List (List ℕ × Payload)) (vs : Fields) → filled_fields input i (named_of (first ∷ rest)) ≡ Some vs → Parts input i first rest vs
parts input i first rest vs h = parts_at input i first rest vs (filled input i first.1) (filled_fields input i (named_of rest)) refl refl h

-- later fields leave a name as it is that is none of theirs
later : (it : Bool) (all : Fields) (k : List ℕ) (d : Data) (f : List ℕ × Payload) (P : Type 0) (input : Data) (i : Option (ℕ × Data)) (ms : Members) (fs : List (List ℕ × Payload)) (vs done : Fields)
    → AllByRecursion (λ y. text_cmp k y ≡ Less) (names ms) → Named k all → ((x : List ℕ) → Named x (pairs_of ms) → Named x all) → FieldIs it all k d f P → FieldsAreTemplates it all ms fs → filled_fields input i (named_of fs) ≡ Some vs
    → get_field f.0 (fields_with done vs) ≡ get_field f.0 done
later it all k d f P input i no_members fs vs done below has within h g is =
    let none : filled_fields input i (named_of fs) ≡ Some [] = rw g in
    let same : [] ≡ vs = cc (sym none ∙ is) in
    ap (λ x. get_field f.0 (fields_with done x)) (sym same)
later it all k d f P input i (member l e ms) fs vs done below has within h g is =
    let p = parts input i g.0 g.1 vs (subst (λ x. filled_fields input i (named_of x) ≡ Some vs) g.4 is) in
    let apart : f.0 ≢ g.0.0 = apart_at it all k l d e f g.0 P (IsTemplate it e g.0.1) (unmarked k) (unmarked l) refl refl (less_apart k l below.0) has (within l (named_first l e (pairs_of ms))) h g.2 in
    ap (λ x. get_field f.0 (fields_with done x)) p.4
    ∙ later it all k d f P input i ms g.1 p.1 (with_field g.0.0 p.0 done) below.1 has (λ x n. within x (named_rest x l e (pairs_of ms) n)) h g.3 p.3
    ∙ get_other f.0 g.0.0 p.0 done apart

abbrev Holds : Bool → Fields → List ℕ → Data → Data → Option (ℕ × Data) → Fields → Type 0
Holds it all k d input i after = (name : List ℕ) × (q : Payload) × FieldIs it all k d (name, q) (IsTemplate it d q) × (get_field name after ≡ filled input i q)

found_at : (o : Ordering) (it : Bool) (all : Fields) (k l : List ℕ) (d e : Data) (ms : Fields) (f : List ℕ × Payload) (input : Data) (i : Option (ℕ × Data)) (after : Fields) → text_cmp k l ≡ o
    → FieldIs it all l e f (IsTemplate it e f.1) → get_field f.0 after ≡ filled input i f.1 → get_field k ((l, e) ∷ ms) ≡ Some d → (get_field k ms ≡ Some d → Holds it all k d input i after) → Holds it all k d input i after
found_at Less it all k l d e ms f input i after is h value has rest = rest (rw is at has)
found_at Equal it all k l d e ms f input i after is h value has rest =
    let name : l ≡ k = sym (text_same k l is) in
    let some : Some e ≡ Some d = rw is at has in
    let same : e ≡ d = cc some in
    (f.0, f.1, subst (λ x. FieldIs it all k x f (IsTemplate it x f.1)) same (subst (λ x. FieldIs it all x e f (IsTemplate it e f.1)) name h), value)
found_at Greater it all k l d e ms f input i after is h value has rest = rest (rw is at has)

found : (it : Bool) (all : Fields) (k : List ℕ) (d : Data) (input : Data) (i : Option (ℕ × Data)) (ms : Members) (fs : List (List ℕ × Payload)) (vs done : Fields) → IsStrictlySortedBy text_cmp (names ms)
    → ((x : List ℕ) → Named x (pairs_of ms) → Named x all) → FieldsAreTemplates it all ms fs → filled_fields input i (named_of fs) ≡ Some vs → get_field k (pairs_of ms) ≡ Some d → Holds it all k d input i (fields_with done vs)
unfolding IsStrictlySortedBy
found it all k d input i no_members fs vs done sorted within g is has = cc has
found it all k d input i (member l e ms) fs vs done sorted within g is has =
    let p = parts input i g.0 g.1 vs (subst (λ x. filled_fields input i (named_of x) ≡ Some vs) g.4 is) in
    let within' = λ (x : List ℕ) (n : Named x (pairs_of ms)). within x (named_rest x l e (pairs_of ms) n) in
    let put = with_field g.0.0 p.0 done in
    let value : get_field g.0.0 (fields_with put p.1) ≡ filled input i g.0.1 =
    later it all l e g.0 (IsTemplate it e g.0.1) input i ms g.1 p.1 put sorted.0 (within l (named_first l e (pairs_of ms))) within' g.2 g.3 p.3 ∙ get_with g.0.0 p.0 done ∙ sym p.2 in
    let here = found_at (text_cmp k l) it all k l d e (pairs_of ms) g.0 input i (fields_with put p.1) refl g.2 value has (found it all k d input i ms g.1 p.1 put sorted.1 within' g.3 p.3) in
    subst (λ x. Holds it all k d input i (fields_with done x)) (sym p.4) here

object_at : (it : Bool) (ms after : Members) (k : List ℕ) (d : Data) (input : Data) (i : Option (ℕ × Data)) (fs : List (List ℕ × Payload)) (o : Option Fields) → filled_fields input i (named_of fs) ≡ o → IsStrictlySortedBy text_cmp (names ms)
    → FieldsAreTemplates it (pairs_of ms) ms fs → option_map (λ vs. fields_data (members_of (fields_with [] vs))) o ≡ Some (fields_data after) → get_field k (pairs_of ms) ≡ Some d → Holds it (pairs_of ms) k d input i (pairs_of after)
object_at it ms after k d input i fs None is sorted g gives has = cc gives
object_at it ms after k d input i fs (Some vs) is sorted g gives has =
    let made : members_of (fields_with [] vs) ≡ after = cc gives in
    let same : fields_with [] vs ≡ pairs_of after = sym (pairs_again (fields_with [] vs)) ∙ ap pairs_of made in
    subst (Holds it (pairs_of ms) k d input i) same (found it (pairs_of ms) k d input i ms fs vs [] sorted (λ x n. n) g is has)

pub fields_are_filled : FieldsAreFilled
fields_are_filled it ms p input i after k d sorted t gives has =
    object_at it ms after k d input i t.0 (filled_fields input i (named_of t.0)) refl sorted t.1 (subst (λ x. filled input i x ≡ Some (fields_data after)) t.2 gives) has
