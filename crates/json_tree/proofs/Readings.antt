-- Values of `serde_json`, one after another.
use Rattle.std.proofs.Common.{◌≡◌, ℕ, suc, ◌+◌, ◌<◌, ◌≤◌, max, ℤ, List, [], ◌∷◌, ◌++◌, length, get_or, drop, Option, Some, None, option_map, String, Global, Less, string_bytes, string_cmp, map, refl, sym, ap, subst, ◌∙◌, append_assoc, append-nil, add-one, drop-cons}
use Rattle.std.proofs.lemmas.List.{map-append, drop_all}
use Rattle.std.specs.List.{AllByRecursion}
use Rattle.std.specs.List.Sorted.{IsStrictlySortedBy}
use Rattle.std.specs.Map.{keys_of}
use Rattle.std.specs.Prelude.{option_and_then}
use Rattle.json_tree.specs.Data.{Data, null, boolean, whole, text, list, fields, Items, no_items, item, Members, no_members, member, items_of, members_of, depth, items_depth, members_depth}
use Rattle.json_tree.specs.Fields.{text_cmp, IsInNameOrder}
use Rattle.json_tree.specs.Reading.{whole_of, whole_items, whole_members}
use Rattle.json_tree.specs.View.{data_of, list_of, fields_of, field_of}
use Rattle.json_tree.specs.declared.tree.Json.{Json}
use Rattle.json_tree.specs.declared.tree.Field.{Field}
use Rattle.json_tree.proofs.Views.{keys_of-append}
use Rattle.serde_json.specs.Data as source
use Rattle.serde_json.specs.Find.{as_i64}
use Rattle.serde_json.specs.View.{view, items_view, members_view}
use Rattle.serde_json.specs.declared.value.Value.{Value}

-- the values ds, and then the others
abbrev pub items_before : List Data → Items → Items
items_before [] rest = rest
items_before (d ∷ ds) rest = item d (items_before ds rest)

abbrev pub members_before : List (List ℕ × Data) → Members → Members
members_before [] rest = rest
members_before (m ∷ ms) rest = member m.0 m.1 (members_before ms rest)

pub items_before-append : (ds : List Data) (d : Data) (rest : Items) → items_before (ds ++ d ∷ []) rest ≡ items_before ds (item d rest)
items_before-append [] d rest = refl
items_before-append (x ∷ ds) d rest = ap (item x) (items_before-append ds d rest)

pub members_before-append : (ms : List (List ℕ × Data)) (k : List ℕ) (d : Data) (rest : Members) → members_before (ms ++ (k, d) ∷ []) rest ≡ members_before ms (member k d rest)
members_before-append [] k d rest = refl
members_before-append (m ∷ ms) k d rest = ap (member m.0 m.1) (members_before-append ms k d rest)

pub items_before-no_items : (ds : List Data) → items_before ds no_items ≡ items_of ds
items_before-no_items [] = refl
items_before-no_items (d ∷ ds) = ap (item d) (items_before-no_items ds)

pub members_before-no_members : (ms : List (List ℕ × Data)) → members_before ms no_members ≡ members_of ms
members_before-no_members [] = refl
members_before-no_members (m ∷ ms) = ap (member m.0 m.1) (members_before-no_members ms)

-- one more value is read
pub items_push : (ds : List Data) (d : Data) (rest : Option Items) → option_map (items_before ds) (option_map (item d) rest) ≡ option_map (items_before (ds ++ d ∷ [])) rest
items_push ds d None = refl
items_push ds d (Some rest) = ap Some (sym (items_before-append ds d rest))

pub members_push : (ms : List (List ℕ × Data)) (k : List ℕ) (d : Data) (rest : Option Members)
    → option_map (members_before ms) (option_map (member k d) rest) ≡ option_map (members_before (ms ++ (k, d) ∷ [])) rest
members_push ms k d None = refl
members_push ms k d (Some rest) = ap Some (sym (members_before-append ms k d rest))

abbrev pub source_names : List (String Global × Value) → List (List ℕ)
source_names = map (λ m. string_bytes m.0)

below_names : (k : String Global) (es : List (String Global × Value)) → AllByRecursion (λ y. string_cmp k y ≡ Less) (keys_of es) → AllByRecursion (λ y. text_cmp (string_bytes k) y ≡ Less) (source_names es)
below_names k [] h = tt
below_names k (e ∷ es) h = (h.0, below_names k es h.1)

pub source_order : (es : List (String Global × Value)) → IsStrictlySortedBy string_cmp (keys_of es) → IsStrictlySortedBy text_cmp (source_names es)
unfolding IsStrictlySortedBy
source_order [] h = tt
source_order (e ∷ es) h = (below_names e.0 es h.0, source_order es h.1)

pub items_next : (from rest : List Value) (x : Value) (done done' : List Json) (v : Json) (all : Option Items) → from ≡ x ∷ rest → whole_of (view x) ≡ Some (data_of v) → done' ≡ done ++ v ∷ []
    → all ≡ option_map (items_before (list_of done)) (whole_items (items_view from)) → all ≡ option_map (items_before (list_of done')) (whole_items (items_view rest))
items_next from rest x done done' v all left reads grown before =
    let read : whole_items (items_view (x ∷ rest)) ≡ option_map (item (data_of v)) (whole_items (items_view rest)) = rw reads in
    let made : list_of done ++ data_of v ∷ [] ≡ list_of done' = sym (ap list_of grown ∙ map-append data_of done (v ∷ [])) in
    before ∙ ap (λ vs. option_map (items_before (list_of done)) (whole_items (items_view vs))) left ∙ ap (option_map (items_before (list_of done))) read ∙ items_push (list_of done) (data_of v) (whole_items (items_view rest))
    ∙ ap (λ ds. option_map (items_before ds) (whole_items (items_view rest))) made

pub items_last : (from : List Value) (done : List Json) (all : Option Items) → from ≡ [] → all ≡ option_map (items_before (list_of done)) (whole_items (items_view from)) → all ≡ Some (items_of (list_of done))
items_last from done all left before =
    before ∙ ap (λ vs. option_map (items_before (list_of done)) (whole_items (items_view vs))) left ∙ ap Some (items_before-no_items (list_of done))

pub items_step : (from : List Value) (i : ℕ) (x : Value) (done done' : List Json) (v : Json) (all : Option Items) → x ≡ get_or from i x → i < length from → whole_of (view x) ≡ Some (data_of v)
    → done' ≡ done ++ v ∷ [] → all ≡ option_map (items_before (list_of done)) (whole_items (items_view (drop i from)))
    → all ≡ option_map (items_before (list_of done')) (whole_items (items_view (drop (i + 1) from)))
items_step from i x done done' v all is within reads grown before =
    let left : drop i from ≡ x ∷ drop (i + 1) from = drop-cons from i x within ∙ rw (← is, add-one) in
    items_next (drop i from) (drop (i + 1) from) x done done' v all left reads grown before

pub items_end : (from : List Value) (i : ℕ) (done : List Json) (all : Option Items) → length from ≤ i → all ≡ option_map (items_before (list_of done)) (whole_items (items_view (drop i from)))
    → all ≡ Some (items_of (list_of done))
items_end from i done all past before = items_last (drop i from) done all (drop_all i from past) before

abbrev pub IsReadSoFar : List Field → List (String Global × Value) → Option Members → Type 0
IsReadSoFar fs from all =
    IsStrictlySortedBy text_cmp (keys_of (fields_of fs) ++ source_names from) × (all ≡ option_map (members_before (fields_of fs)) (whole_members (members_view from)))

one : {A : Type 0} (r : Option A) → r ≡ option_map (λ x. x) r
one None = refl
one (Some x) = refl

pub members_start : (from all : List (String Global × Value)) (fs : List Field) → fs ≡ [] → from ≡ all → IsStrictlySortedBy string_cmp (keys_of all) → IsReadSoFar fs from (whole_members (members_view all))
members_start from all fs none is sorted = rw (none, is) (source_order all sorted, one (whole_members (members_view all)))

pub members_step : (from rest : List (String Global × Value)) (key : String Global) (value : Value) (fs ns : List Field) (f : Field) (all : Option Members) → from ≡ (key, value) ∷ rest
    → f.name ≡ string_bytes key → whole_of (view value) ≡ Some (data_of f.value) → ns ≡ fs ++ f ∷ [] → IsReadSoFar fs from all → IsReadSoFar ns rest all
members_step from rest key value fs ns f all is named reads made before =
    let sorted : IsStrictlySortedBy text_cmp (keys_of (fields_of fs) ++ f.name ∷ source_names rest) = rw named (rw is at before.0) in
    let fields : fields_of ns ≡ fields_of fs ++ (f.name, data_of f.value) ∷ [] = ap fields_of made ∙ map-append field_of fs (f ∷ []) in
    let read : whole_members (members_view ((key, value) ∷ rest)) ≡ option_map (member f.name (data_of f.value)) (whole_members (members_view rest)) = rw (reads, named) in
    let names : keys_of (fields_of ns) ≡ keys_of (fields_of fs) ++ f.name ∷ [] = ap keys_of fields ∙ keys_of-append (fields_of fs) _ in (
      subst (IsStrictlySortedBy text_cmp) (sym (ap (λ ks. ks ++ source_names rest) names ∙ append_assoc (keys_of (fields_of fs)) (f.name ∷ []) (source_names rest))) sorted,
      before.1 ∙ ap (λ es. option_map (members_before (fields_of fs)) (whole_members (members_view es))) is ∙ ap (option_map (members_before (fields_of fs))) read
          ∙ members_push (fields_of fs) f.name (data_of f.value) (whole_members (members_view rest)) ∙ ap (λ ms. option_map (members_before ms) (whole_members (members_view rest))) (sym fields),
    )

pub members_end : (from : List (String Global × Value)) (fs : List Field) (all : Option Members) → from ≡ [] → IsReadSoFar fs from all → all ≡ Some (members_of (fields_of fs))
members_end from fs all none before =
    before.1 ∙ ap (λ vs. option_map (members_before (fields_of fs)) (whole_members (members_view vs))) none ∙ ap Some (members_before-no_members (fields_of fs))

pub members_ordered : (from : List (String Global × Value)) (fs : List Field) (all : Option Members) → from ≡ [] → IsReadSoFar fs from all → IsInNameOrder (fields_of fs)
members_ordered from fs all none before = subst (IsStrictlySortedBy text_cmp) (ap (λ es. keys_of (fields_of fs) ++ source_names es) none ∙ append-nil (keys_of (fields_of fs))) before.0

-- ---- the value nests as deep as its source

number_depth : (n : Option ℤ) (d : Data) → option_map whole n ≡ Some d → depth d ≡ 0
number_depth None d is = cc is
number_depth (Some z) d is = let e : d ≡ whole z = cc is in rw e

list_depth_at : (r : Option Items) (n : ℕ) (d : Data) → ((e : Items) → r ≡ Some e → items_depth e ≡ n) → option_map list r ≡ Some d → depth d ≡ suc n
list_depth_at None n d h is = cc is
list_depth_at (Some e) n d h is = let same : d ≡ list e = cc is in rw (same, h e refl)

fields_depth_at : (r : Option Members) (n : ℕ) (d : Data) → ((e : Members) → r ≡ Some e → members_depth e ≡ n) → option_map fields r ≡ Some d → depth d ≡ suc n
fields_depth_at None n d h is = cc is
fields_depth_at (Some e) n d h is = let same : d ≡ fields e = cc is in rw (same, h e refl)

item_depth_at : (first : Option Data) (rest : Option Items) (m n : ℕ) (ds : Items) → ((d : Data) → first ≡ Some d → depth d ≡ m) → ((es : Items) → rest ≡ Some es → items_depth es ≡ n)
    → option_and_then (λ e. option_map (item e) rest) first ≡ Some ds → items_depth ds ≡ max m n
item_depth_at None rest m n ds f g is = cc is
item_depth_at (Some d) None m n ds f g is = cc is
item_depth_at (Some d) (Some es) m n ds f g is = let same : ds ≡ item d es = cc is in rw (same, f d refl, g es refl)

member_depth_at : (k : List ℕ) (first : Option Data) (rest : Option Members) (m n : ℕ) (ds : Members) → ((d : Data) → first ≡ Some d → depth d ≡ m) → ((es : Members) → rest ≡ Some es → members_depth es ≡ n)
    → option_and_then (λ e. option_map (member k e) rest) first ≡ Some ds → members_depth ds ≡ max m n
member_depth_at k None rest m n ds f g is = cc is
member_depth_at k (Some d) None m n ds f g is = cc is
member_depth_at k (Some d) (Some es) m n ds f g is = let same : ds ≡ member k d es = cc is in rw (same, f d refl, g es refl)

mutual
  pub depth-whole_of : (s : source.Data) (d : Data) → whole_of s ≡ Some d → depth d ≡ source.depth s
  depth-whole_of source.null d is = let e : d ≡ null = cc is in rw e
  depth-whole_of (source.boolean b) d is = let e : d ≡ boolean b = cc is in rw e
  depth-whole_of (source.number n) d is = number_depth (as_i64 n) d is
  depth-whole_of (source.string s) d is = let e : d ≡ text s = cc is in rw e
  depth-whole_of (source.array ds) d is = list_depth_at (whole_items ds) (source.items_depth ds) d (depth-whole_items ds) is
  depth-whole_of (source.object ms) d is = fields_depth_at (whole_members ms) (source.members_depth ms) d (depth-whole_members ms) is

  depth-whole_items : (ss : source.Items) (ds : Items) → whole_items ss ≡ Some ds → items_depth ds ≡ source.items_depth ss
  depth-whole_items source.no_items ds is = let e : ds ≡ no_items = cc is in rw e
  depth-whole_items (source.item s ss) ds is = item_depth_at (whole_of s) (whole_items ss) (source.depth s) (source.items_depth ss) ds (depth-whole_of s) (depth-whole_items ss) is

  depth-whole_members : (ss : source.Members) (ms : Members) → whole_members ss ≡ Some ms → members_depth ms ≡ source.members_depth ss
  depth-whole_members source.no_members ms is = let e : ms ≡ no_members = cc is in rw e
  depth-whole_members (source.member k s ss) ms is = member_depth_at k (whole_of s) (whole_members ss) (source.depth s) (source.members_depth ss) ms (depth-whole_of s) (depth-whole_members ss) is
