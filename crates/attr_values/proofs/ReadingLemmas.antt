-- What is read so far, and then the rest.
use Rattle.std.proofs.Common.{◌≡◌, ℕ, zero, suc, ◌+◌, ◌-◌, ◌<◌, ◌≤◌, List, [], ◌∷◌, ◌++◌, length, get_or, drop, Result, Ok, Err, Some, None, ◌≢◌, ◌⊎◌, refl, sym, ap, subst, ◌∙◌, inl, inr, arith, append_assoc, append-nil, add-one, sub-one, drop-cons}
use Rattle.std.proofs.lemmas.List.{map-append, drop_all}
use Rattle.std.specs.List.Sorted.{IsStrictlySortedBy}
use Rattle.std.specs.Map.{keys_of}
use Rattle.json_tree.specs.Data as json
use Rattle.json_tree.specs.Data.{items_of, members_of}
use Rattle.json_tree.specs.Fields.{text_cmp, IsInNameOrder}
use Rattle.json_tree.specs.View.{data_of, list_of as json_list_of, fields_of}
use Rattle.json_tree.specs.declared.tree.Field.{Field}
use Rattle.json_tree.specs.declared.tree.Json.{Json}
use Rattle.attr_values.specs.Datum.{Datum, list, document, texts, numbers, Elements, no_elements, element, Attributes, no_attributes, attribute, elements_of, attributes_of}
use Rattle.attr_values.specs.Faults.{result_map}
use Rattle.attr_values.specs.Reading as spec
use Rattle.attr_values.specs.View.{datum_of, datum_list_of, attribute_pair, entries_of}
use Rattle.attr_values.specs.declared.fault.ItemFault.{ItemFault}
use Rattle.attr_values.specs.declared.fault.ItemFault.TheVariants.{Memory, BadValue}
use Rattle.attr_values.specs.declared.reading.Kind.TheVariants.{L, M, Ss, Ns}
use Rattle.attr_values.specs.declared.value.Attribute.{Attribute}
use Rattle.attr_values.specs.declared.value.Value.{Value}
use Rattle.attr_values.proofs.Entries.{keys_of-append}

-- the list, and then the elements
abbrev pub elements_before : List Datum → Elements → Elements
elements_before [] rest = rest
elements_before (d ∷ ds) rest = element d (elements_before ds rest)

abbrev pub attributes_before : List (List ℕ × Datum) → Attributes → Attributes
attributes_before [] rest = rest
attributes_before (m ∷ ms) rest = attribute m.0 m.1 (attributes_before ms rest)

pub elements_before-append : (ds : List Datum) (d : Datum) (rest : Elements) → elements_before (ds ++ d ∷ []) rest ≡ elements_before ds (element d rest)
elements_before-append [] d rest = refl
elements_before-append (e ∷ ds) d rest = ap (element e) (elements_before-append ds d rest)

pub elements_before-none : (ds : List Datum) → elements_before ds no_elements ≡ elements_of ds
elements_before-none [] = refl
elements_before-none (d ∷ ds) = ap (element d) (elements_before-none ds)

pub attributes_before-append : (ms : List (List ℕ × Datum)) (k : List ℕ) (d : Datum) (rest : Attributes) → attributes_before (ms ++ (k, d) ∷ []) rest ≡ attributes_before ms (attribute k d rest)
attributes_before-append [] k d rest = refl
attributes_before-append (m ∷ ms) k d rest = ap (attribute m.0 m.1) (attributes_before-append ms k d rest)

pub attributes_before-none : (ms : List (List ℕ × Datum)) → attributes_before ms no_attributes ≡ attributes_of ms
attributes_before-none [] = refl
attributes_before-none (m ∷ ms) = ap (attribute m.0 m.1) (attributes_before-none ms)

elements_push : (ds : List Datum) (d : Datum) (rest : Result Elements ItemFault) → result_map (elements_before ds) (result_map (element d) rest) ≡ result_map (elements_before (ds ++ d ∷ [])) rest
elements_push ds d (Ok rest) = ap Ok (sym (elements_before-append ds d rest))
elements_push ds d (Err e) = refl

attributes_push : (ms : List (List ℕ × Datum)) (k : List ℕ) (d : Datum) (rest : Result Attributes ItemFault)
    → result_map (attributes_before ms) (result_map (attribute k d) rest) ≡ result_map (attributes_before (ms ++ (k, d) ∷ [])) rest
attributes_push ms k d (Ok rest) = ap Ok (sym (attributes_before-append ms k d rest))
attributes_push ms k d (Err e) = refl

-- one more element is read
pub element_step : (levels : ℕ) (from : List Json) (i : ℕ) (x : Json) (done done' : List Value) (v : Value) (all : Result Elements ItemFault) → x ≡ get_or from i x → i < length from
    → spec.read_datum levels (data_of x) ≡ Ok (datum_of v) → done' ≡ done ++ v ∷ []
    → all ≡ result_map (elements_before (datum_list_of done)) (spec.read_elements levels (items_of (json_list_of (drop i from))))
    → all ≡ result_map (elements_before (datum_list_of done')) (spec.read_elements levels (items_of (json_list_of (drop (i + 1) from))))
element_step levels from i x done done' v all is within reads grown before =
    let rest = drop (i + 1) from in
    let left : drop i from ≡ x ∷ rest = drop-cons from i x within ∙ rw (← is, add-one) in
    let read : spec.read_elements levels (items_of (json_list_of (x ∷ rest))) ≡ result_map (element (datum_of v)) (spec.read_elements levels (items_of (json_list_of rest))) = rw reads in
    let made : datum_list_of done ++ datum_of v ∷ [] ≡ datum_list_of done' = sym (ap datum_list_of grown ∙ map-append datum_of done (v ∷ [])) in
    before ∙ ap (λ js. result_map (elements_before (datum_list_of done)) (spec.read_elements levels (items_of (json_list_of js)))) left ∙ ap (result_map (elements_before (datum_list_of done))) read
    ∙ elements_push (datum_list_of done) (datum_of v) (spec.read_elements levels (items_of (json_list_of rest)))
    ∙ ap (λ ds. result_map (elements_before ds) (spec.read_elements levels (items_of (json_list_of rest)))) made

pub elements_end : (levels : ℕ) (from : List Json) (i : ℕ) (done : List Value) (all : Result Elements ItemFault) → length from ≤ i
    → all ≡ result_map (elements_before (datum_list_of done)) (spec.read_elements levels (items_of (json_list_of (drop i from)))) → all ≡ Ok (elements_of (datum_list_of done))
elements_end levels from i done all past before =
    let left : drop i from ≡ [] = drop_all i from past in
    before ∙ ap (λ js. result_map (elements_before (datum_list_of done)) (spec.read_elements levels (items_of (json_list_of js)))) left ∙ ap Ok (elements_before-none (datum_list_of done))

pub next_field : (from : List Field) (i : ℕ) (f : Field) → f ≡ get_or from i f → i < length from → drop i from ≡ f ∷ drop (i + 1) from
next_field from i f is within = drop-cons from i f within ∙ rw (← is, add-one)

abbrev pub IsReadSoFar : ℕ → List Attribute → List Field → Result Attributes ItemFault → Type 0
IsReadSoFar levels es from all =
    IsStrictlySortedBy text_cmp (keys_of (entries_of es) ++ keys_of (fields_of from)) × (all ≡ result_map (attributes_before (entries_of es)) (spec.read_attributes levels (members_of (fields_of from))))

one : {A : Type 0} (r : Result A ItemFault) → r ≡ result_map (λ x. x) r
one (Ok x) = refl
one (Err e) = refl

pub attributes_start : (levels : ℕ) (from : List Field) (all : List (List ℕ × json.Data)) (es : List Attribute) → es ≡ [] → fields_of from ≡ all → IsInNameOrder all
    → IsReadSoFar levels es from (spec.read_attributes levels (members_of all))
attributes_start levels from all es none is sorted = rw (none, is) (sorted, one (spec.read_attributes levels (members_of all)))

pub attribute_step : (levels : ℕ) (from rest : List Field) (f : Field) (es ns : List Attribute) (k : List ℕ) (v : Value) (all : Result Attributes ItemFault)
    → from ≡ f ∷ rest → k ≡ f.name → spec.read_datum levels (data_of f.value) ≡ Ok (datum_of v) → ns ≡ es ++ record { name = k; value = v } ∷ []
    → IsReadSoFar levels es from all → IsReadSoFar levels ns rest all
attribute_step levels from rest f es ns k v all is named reads made before =
    let sorted : IsStrictlySortedBy text_cmp (keys_of (entries_of es) ++ k ∷ keys_of (fields_of rest)) = rw named (rw is at before.0) in
    let entries : entries_of ns ≡ entries_of es ++ (k, datum_of v) ∷ [] = ap entries_of made ∙ map-append attribute_pair es (record { name = k; value = v } ∷ []) in
    let read : spec.read_attributes levels (members_of (fields_of (f ∷ rest))) ≡ result_map (attribute k (datum_of v)) (spec.read_attributes levels (members_of (fields_of rest))) = rw (reads, named) in
    let names : keys_of (entries_of ns) ≡ keys_of (entries_of es) ++ k ∷ [] = ap keys_of entries ∙ keys_of-append (entries_of es) _ in (
      subst (IsStrictlySortedBy text_cmp) (sym (ap (λ ks. ks ++ keys_of (fields_of rest)) names ∙ append_assoc (keys_of (entries_of es)) (k ∷ []) (keys_of (fields_of rest)))) sorted,
      before.1 ∙ ap (λ js. result_map (attributes_before (entries_of es)) (spec.read_attributes levels (members_of (fields_of js)))) is ∙ ap (result_map (attributes_before (entries_of es))) read
          ∙ attributes_push (entries_of es) k (datum_of v) (spec.read_attributes levels (members_of (fields_of rest)))
          ∙ ap (λ ms. result_map (attributes_before ms) (spec.read_attributes levels (members_of (fields_of rest)))) (sym entries),
    )

pub attributes_end : (levels : ℕ) (from : List Field) (es : List Attribute) (all : Result Attributes ItemFault) → from ≡ [] → IsReadSoFar levels es from all → all ≡ Ok (attributes_of (entries_of es))
attributes_end levels from es all none before =
    before.1 ∙ ap (λ js. result_map (attributes_before (entries_of es)) (spec.read_attributes levels (members_of (fields_of js)))) none ∙ ap Ok (attributes_before-none (entries_of es))

pub attributes_ordered : (levels : ℕ) (from : List Field) (es : List Attribute) (all : Result Attributes ItemFault) → from ≡ [] → IsReadSoFar levels es from all → IsStrictlySortedBy text_cmp (keys_of (entries_of es))
attributes_ordered levels from es all none before =
    subst (IsStrictlySortedBy text_cmp) (ap (λ js. keys_of (entries_of es) ++ keys_of (fields_of js)) none ∙ append-nil (keys_of (entries_of es))) before.0

-- ---- lists and maps, one level down

pub read_kind-list : (levels : ℕ) (ds : json.Items) → 0 < levels → spec.read_kind (Some L) levels (json.list ds) ≡ result_map list (spec.read_elements (levels - 1) ds)
read_kind-list zero ds h = absurd (omega arith)
read_kind-list (suc levels) ds h = rw sub-one refl

pub read_kind-map : (levels : ℕ) (ms : json.Members) → 0 < levels → spec.read_kind (Some M) levels (json.fields ms) ≡ result_map document (spec.read_attributes (levels - 1) ms)
read_kind-map zero ms h = absurd (omega arith)
read_kind-map (suc levels) ms h = rw sub-one refl

pub mapped_fault : {A B : Type 0} (f : A → B) (want : Result A ItemFault) (whole : Result B ItemFault) (e : ItemFault) → whole ≡ result_map f want → (e ≡ Memory) ⊎ (want ≡ Err e) → (e ≡ Memory) ⊎ (whole ≡ Err e)
mapped_fault f want whole e is (inl h) = inl h
mapped_fault f want whole e is (inr h) = inr (is ∙ ap (result_map f) h)

pub read_kind-none : (levels : ℕ) (d : json.Data) → spec.read_kind None levels d ≡ Err BadValue
read_kind-none levels d = refl

-- an object with one field, and any other
pub read_datum-field : (levels : ℕ) (name : List ℕ) (d : json.Data) (ms : List (List ℕ × json.Data)) → ms ≡ (name, d) ∷ []
    → spec.read_datum levels (json.fields (members_of ms)) ≡ spec.read_kind (spec.type_kind_of name) levels d
read_datum-field levels name d ms e = rw e refl

pub read_datum-other : (levels : ℕ) (ms : List (List ℕ × json.Data)) → length ms ≢ 1 → spec.read_datum levels (json.fields (members_of ms)) ≡ Err BadValue
read_datum-other levels [] h = refl
read_datum-other levels (m ∷ []) h = absurd (h refl)
read_datum-other levels (m ∷ n ∷ ms) h = refl

pub read_kind-texts : (levels : ℕ) (ds : List json.Data) → ds ≢ [] → spec.read_kind (Some Ss) levels (json.list (items_of ds)) ≡ result_map texts (spec.read_texts [] (items_of ds))
read_kind-texts levels [] h = absurd (h refl)
read_kind-texts levels (d ∷ ds) h = refl

pub read_kind-numbers : (levels : ℕ) (ds : List json.Data) → ds ≢ [] → spec.read_kind (Some Ns) levels (json.list (items_of ds)) ≡ result_map numbers (spec.read_numbers [] (items_of ds))
read_kind-numbers levels [] h = absurd (h refl)
read_kind-numbers levels (d ∷ ds) h = refl
