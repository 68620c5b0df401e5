-- Templates that are read one after another, and the faults of one of them.
use Rattle.std.proofs.Common.{◌≡◌, ℕ, zero, suc, ◌+◌, ◌*◌, ◌<◌, ◌≤◌, Bool, List, [], ◌∷◌, ◌++◌, length, get_or, drop, string_bytes, ◌⊎◌, ⊎_elim, None, refl, sym, ap, subst, ◌∙◌, Result, Ok, Err, append_assoc, append-nil, add-one, drop-cons, arith, inl, inr}
use Rattle.std.proofs.lemmas.List.{map-append, drop_all}
use Rattle.std.specs.Result.{IsErrAnd, IfErr}
use Rattle.json_tree.specs.Data.{Data, fields, Items, items_of, members_of, depth, list_depth, fields_depth}
use Rattle.json_tree.specs.View.{data_of, list_of as datas_of, fields_of as pairs}
use Rattle.json_tree.specs.declared.tree.Json.{Json}
use Rattle.json_tree.proofs.Depths.{depth-get_or, depth-field}
use Rattle.json_tree.specs.declared.tree.Field.{Field}
use Rattle.ref_paths.specs.PayloadView.{payload_of, payload_list_of, payload_field_of, payload_fields_of}
use Rattle.ref_paths.specs.TemplateFaults.{HasFault, ItemsHaveFault, FieldsHaveFault, FieldHasFault, OnNamed}
use Rattle.ref_paths.specs.Templates.{Payload, fields as named_fields, named_of, IsTemplate, ItemsAreTemplates, FieldsAreTemplates, FieldIs, unmarked}
use Rattle.ref_paths.specs.declared.template.Node.{Node}
use Rattle.ref_paths.specs.declared.template.NodeField.{NodeField}
use Rattle.ref_paths.specs.declared.template.TemplateFault.{TemplateFault}
use Rattle.ref_paths.specs.declared.template.TemplateFault.TheVariants.{BadTemplate, Unsupported, Memory}
use Rattle.ref_paths.proofs.Shapes.{pairs_again}

pub on_named : (e : TemplateFault) {P Q : Type 0} → (P → Q) → OnNamed e P → OnNamed e Q
on_named (BadTemplate name) f h = f h
on_named (Unsupported name) f h = f h
on_named Memory f h = tt

-- an error that is passed on
pub passed_on : {T E : Type 0} (r : Result T E) (e : E) (P : E → Type 0) → IsErrAnd r (λ x. x ≡ e) → P e → IfErr r P
passed_on (Ok x) e P is h = tt
passed_on (Err x) e P is h = subst P (sym is) h

-- a list's elements nest less deep than it, for the measure of the recursion
pub item_depth : (from : List Json) (i : ℕ) (j : Json) (all : List Data) → j ≡ get_or from i j → i < length from → datas_of from ≡ all → 3 * depth (data_of j) < 3 * list_depth all + 2
item_depth from i j all is within same =
    let below : depth (data_of (get_or from i j)) ≤ list_depth all = subst (λ ds. depth (data_of (get_or from i j)) ≤ list_depth ds) same (depth-get_or from i j within) in
    let here : depth (data_of j) ≤ list_depth all = subst (λ x. depth (data_of x) ≤ list_depth all) (sym is) below in
    omega (arith, here)

pub field_depth : (from : List Field) (i : ℕ) (f : Field) (all : List (List ℕ × Data)) → f ≡ get_or from i f → i < length from → pairs from ≡ all → 3 * depth (data_of f.value) + 1 < 3 * fields_depth all + 2
field_depth from i f all is within same =
    let below : depth (data_of (get_or from i f).value) ≤ fields_depth all = subst (λ ms. depth (data_of (get_or from i f).value) ≤ fields_depth ms) same (depth-field from i f within) in
    let here : depth (data_of f.value) ≤ fields_depth all = subst (λ x. depth (data_of x.value) ≤ fields_depth all) (sym is) below in
    omega (arith, here)

pub next_field : (from : List Field) (i : ℕ) (f : Field) → f ≡ get_or from i f → i < length from → drop i from ≡ f ∷ drop (i + 1) from
next_field from i f is within = drop-cons from i f within ∙ rw (← is, add-one)

-- what is read so far, and then what is read of the rest, is what is read of all
abbrev pub ItemsSoFar : Bool → Items → List Node → List Json → Type 0
ItemsSoFar it all done left = (rest : List Payload) → ItemsAreTemplates it (items_of (datas_of left)) rest → ItemsAreTemplates it all (payload_list_of done ++ rest)

pub items_start : (it : Bool) (all : List Data) (from : List Json) (done : List Node) → datas_of from ≡ all → done ≡ [] → ItemsSoFar it (items_of all) done from
items_start it all from done is none rest h =
    let same : ItemsAreTemplates it (items_of all) rest = subst (λ ds. ItemsAreTemplates it (items_of ds) rest) is h in
    subst (λ ns. ItemsAreTemplates it (items_of all) (payload_list_of ns ++ rest)) (sym none) same

pub items_step : (it : Bool) (all : Items) (from : List Json) (i : ℕ) (j : Json) (done done' : List Node) (n : Node) → j ≡ get_or from i j → i < length from → IsTemplate it (data_of j) (payload_of n) → done' ≡ done ++ n ∷ []
    → ItemsSoFar it all done (drop i from) → ItemsSoFar it all done' (drop (i + 1) from)
items_step it all from i j done done' n is within reads grown before rest h =
    let left : drop i from ≡ j ∷ drop (i + 1) from = drop-cons from i j within ∙ rw (← is, add-one) in
    let made : payload_list_of done' ++ rest ≡ payload_list_of done ++ payload_of n ∷ rest =
    ap (λ ns. payload_list_of ns ++ rest) grown ∙ ap (λ ps. ps ++ rest) (map-append payload_of done (n ∷ [])) ∙ append_assoc (payload_list_of done) (payload_of n ∷ []) rest in
    let next : ItemsAreTemplates it (items_of (datas_of (drop i from))) (payload_of n ∷ rest) =
    subst (λ js. ItemsAreTemplates it (items_of (datas_of js)) (payload_of n ∷ rest)) (sym left) (payload_of n, rest, reads, h, refl) in
    subst (ItemsAreTemplates it all) (sym made) (before (payload_of n ∷ rest) next)

pub items_end : (it : Bool) (all : Items) (from : List Json) (i : ℕ) (done : List Node) → length from ≤ i → ItemsSoFar it all done (drop i from) → ItemsAreTemplates it all (payload_list_of done)
items_end it all from i done past before =
    let none : ItemsAreTemplates it (items_of (datas_of (drop i from))) [] = subst (λ js. ItemsAreTemplates it (items_of (datas_of js)) []) (sym (drop_all i from past)) refl in
    subst (ItemsAreTemplates it all) (append-nil (payload_list_of done)) (before [] none)

-- the fault of an element
fault_at : (it : Bool) (from : List Json) (i : ℕ) (j : Json) (e : TemplateFault) → i < length from → HasFault it (data_of (get_or from i j)) e → ItemsHaveFault it (items_of (datas_of from)) e
fault_at it [] i j e within h = absurd (omega arith)
fault_at it (x ∷ from) zero j e within h = inl h
fault_at it (x ∷ from) (suc i) j e within h = inr (fault_at it from i j e (omega arith) h)

pub item_fault : (it : Bool) (all : List Data) (from : List Json) (i : ℕ) (j : Json) (e : TemplateFault) → j ≡ get_or from i j → i < length from → datas_of from ≡ all → HasFault it (data_of j) e → ItemsHaveFault it (items_of all) e
item_fault it all from i j e is within same h =
    subst (λ ds. ItemsHaveFault it (items_of ds) e) same (fault_at it from i j e within (subst (λ x. HasFault it (data_of x) e) is h))

abbrev pub FieldsSoFar : Bool → List (List ℕ × Data) → List NodeField → List Field → Type 0
FieldsSoFar it all done left =
    ((rest : List (List ℕ × Payload)) → FieldsAreTemplates it all (members_of (pairs left)) rest → FieldsAreTemplates it all (members_of all) (payload_fields_of done ++ rest))
    × ((e : TemplateFault) → FieldsHaveFault it all (members_of (pairs left)) e → FieldsHaveFault it all (members_of all) e)

pub fields_start : (it : Bool) (all : List (List ℕ × Data)) (from : List Field) (done : List NodeField) → pairs from ≡ all → done ≡ [] → FieldsSoFar it all done from
fields_start it all from done is none = (
  λ rest h. subst (λ fs. FieldsAreTemplates it all (members_of all) (payload_fields_of fs ++ rest)) (sym none) (subst (λ ms. FieldsAreTemplates it all (members_of ms) rest) is h),
  λ e h. subst (λ ms. FieldsHaveFault it all (members_of ms) e) is h,
)

pub fields_step : (it : Bool) (all : List (List ℕ × Data)) (from left : List Field) (x : Field) (done done' : List NodeField) (f : NodeField) → from ≡ x ∷ left
    → FieldIs it all (x.name) (data_of x.value) (payload_field_of f) (IsTemplate it (data_of x.value) (payload_of f.value)) → done' ≡ done ++ f ∷ [] → FieldsSoFar it all done from → FieldsSoFar it all done' left
fields_step it all from left x done done' f is reads grown before = (
  λ rest h.
      let made : payload_fields_of done' ++ rest ≡ payload_fields_of done ++ payload_field_of f ∷ rest =
      ap (λ fs. payload_fields_of fs ++ rest) grown ∙ ap (λ fs. fs ++ rest) (map-append payload_field_of done (f ∷ [])) ∙ append_assoc (payload_fields_of done) (payload_field_of f ∷ []) rest in
      let next : FieldsAreTemplates it all (members_of (pairs from)) (payload_field_of f ∷ rest) =
      subst (λ es. FieldsAreTemplates it all (members_of (pairs es)) (payload_field_of f ∷ rest)) (sym is) (payload_field_of f, rest, reads, h, refl) in
      subst (FieldsAreTemplates it all (members_of all)) (sym made) (before.0 (payload_field_of f ∷ rest) next),
  λ e h. before.1 e (subst (λ es. FieldsHaveFault it all (members_of (pairs es)) e) (sym is) (inr (inr h))),
)

pub fields_end : (it : Bool) (all : List (List ℕ × Data)) (from : List Field) (done : List NodeField) → from ≡ [] → FieldsSoFar it all done from → FieldsAreTemplates it all (members_of all) (payload_fields_of done)
fields_end it all from done none before =
    subst (FieldsAreTemplates it all (members_of all)) (append-nil (payload_fields_of done)) (before.0 [] (subst (λ es. FieldsAreTemplates it all (members_of (pairs es)) []) (sym none) refl))

-- the fault of a field
pub field_fault : (it : Bool) (all : List (List ℕ × Data)) (from left : List Field) (x : Field) (done : List NodeField) (e : TemplateFault) → from ≡ x ∷ left
    → FieldHasFault it all (x.name) (data_of x.value) e ⊎ ((unmarked x.name ≡ None) × HasFault it (data_of x.value) e) → FieldsSoFar it all done from → FieldsHaveFault it all (members_of all) e
field_fault it all from left x done e is h before = before.1 e (subst (λ es. FieldsHaveFault it all (members_of (pairs es)) e) (sym is) (⊎_elim inl (λ g. inr (inl g)) h))

pub object_fault : (it : Bool) (ms : List (List ℕ × Data)) (e : TemplateFault) → FieldsHaveFault it ms (members_of ms) e → HasFault it (fields (members_of ms)) e
object_fault it ms e h = subst (λ all. FieldsHaveFault it all (members_of ms) e) (sym (pairs_again ms)) h

pub object_reads : (it : Bool) (ms : List (List ℕ × Data)) (fs : List (List ℕ × Payload)) → FieldsAreTemplates it ms (members_of ms) fs → IsTemplate it (fields (members_of ms)) (named_fields (named_of fs))
object_reads it ms fs h = (fs, subst (λ all. FieldsAreTemplates it all (members_of ms) fs) (sym (pairs_again ms)) h, refl)
