-- What is read is proper, and what is proper and written is read to the same value.
use Rattle.std.proofs.Common.{◌≡◌, ◌≢◌, ℕ, zero, suc, List, [], ◌∷◌, ◌++◌, map, Bool, true, false, Option, Some, None, Result, Ok, Err, refl, sym, ap, subst, ◌∙◌, append_assoc, append-nil}
use Rattle.std.specs.Prelude.{if◌then◌else◌, IfOk}
use Rattle.std.specs.BTreeMap.{is_at}
use Rattle.std.specs.BTreeSet.{insert_key}
use Rattle.std.specs.List.{AllByRecursion, list_any}
use Rattle.std.specs.List.Sorted.{IsStrictlySortedBy}
use Rattle.std.specs.Option.{ok_or}
use Rattle.std.specs.Ordering.{match_ordering}
use Rattle.std.specs.declared.cmp.Ordering.{Ordering}
use Rattle.std.specs.declared.cmp.Ordering.TheVariants.{Less, Equal, Greater}
use Rattle.std.proofs.lemmas.Cmp.{nat_list_cmp_total}
use Rattle.json_tree.specs.Data as json
use Rattle.json_tree.specs.Data.{items_of}
use Rattle.json_tree.specs.Fields.{text_cmp}
use Rattle.attr_values.specs.Datum.{Datum, text, number, boolean, null, list, document, texts, numbers, Elements, no_elements, element, Attributes, no_attributes, attribute}
use Rattle.attr_values.specs.Decimal.{Decimal, IsNormal, decimal_cmp}
use Rattle.attr_values.specs.DecimalOrder.{decimal_cmp_total}
use Rattle.attr_values.specs.Faults.{result_map, result_and_then, AnswersAs}
use Rattle.attr_values.specs.View.{datum_of}
use Rattle.attr_values.specs.declared.value.Value.{Value}
use Rattle.attr_values.specs.Numeral.{read_number}
use Rattle.attr_values.specs.Proper.{IsTextSet, IsNumberSet, IsProper, AreProper, AreProperAttributes}
use Rattle.attr_values.specs.Reading as spec
use Rattle.attr_values.specs.Writing.{json_of, json_items, json_members, number_json}
use Rattle.attr_values.specs.declared.fault.ItemFault.{ItemFault}
use Rattle.attr_values.specs.declared.fault.ItemFault.TheVariants.{BadValue, BadNumber}
use Rattle.attr_values.specs.declared.reading.Kind.{Kind}
use Rattle.attr_values.specs.declared.reading.Kind.TheVariants.{S, N, Bool as BoolKind, Null, L, M, Ss, Ns}
use Rattle.attr_values.proofs.NumeralLemmas.{read_normal, reads_back}
use Rattle.attr_values.proofs.Sets.{all_insert, sorted_insert, next_is_new, next_goes_last}

ok_map : {A B : Type 0} (f : A → B) (r : Result A ItemFault) (y : B) → result_map f r ≡ Ok y → (x : A) × (r ≡ Ok x) × (f x ≡ y)
ok_map f (Ok x) y is = (x, refl, cc is)
ok_map f (Err e) y is = cc is

ok_then : {A B : Type 0} (f : A → Result B ItemFault) (r : Result A ItemFault) (y : B) → result_and_then f r ≡ Ok y → (x : A) × (r ≡ Ok x) × (f x ≡ Ok y)
ok_then f (Ok x) y is = (x, refl, is)
ok_then f (Err e) y is = cc is

ok_from_some : (o : Option Decimal) (n : Decimal) → ok_or o BadNumber ≡ Ok n → o ≡ Some n
ok_from_some None n is = cc is
ok_from_some (Some m) n is = let e : m ≡ n = cc is in ap Some e

number_is_normal : (s : List ℕ) (n : Decimal) → spec.read_number_text s ≡ Ok n → IsNormal n
number_is_normal s n is = read_normal s n (ok_from_some (read_number s) n is)

if_ok : {A : Type 0} (b : Bool) (r : Result A ItemFault) (y : A) → (if b then Err BadValue else r) ≡ Ok y → r ≡ Ok y
if_ok true r y is = cc is
if_ok false r y is = is

some_insert_at : {K : Type 0} (R : K → K → Ordering) (xs : List K) (k x : K) (c : Ordering) → match_ordering c (k ∷ x ∷ xs) (x ∷ xs) (x ∷ insert_key R xs k) ≢ []
some_insert_at R xs k x Less e = cc e
some_insert_at R xs k x Equal e = cc e
some_insert_at R xs k x Greater e = cc e

one_sorted : {K : Type 0} (R : K → K → Ordering) (k : K) → IsStrictlySortedBy R (k ∷ [])
unfolding IsStrictlySortedBy
one_sorted R k = (tt, tt)

some_insert : {K : Type 0} (R : K → K → Ordering) (xs : List K) (k : K) → insert_key R xs k ≢ []
some_insert R [] k e = cc e
some_insert R (x ∷ xs) k e = some_insert_at R xs k x (R k x) e

some_texts : (set : List (List ℕ)) (ds : json.Items) (ss : List (List ℕ)) → IsStrictlySortedBy text_cmp set → spec.read_texts set ds ≡ Ok ss → IsStrictlySortedBy text_cmp ss × (set ≢ [] → ss ≢ [])
some_texts set json.no_items ss s is = let e : set ≡ ss = cc is in (subst (IsStrictlySortedBy text_cmp) e s, λ some none. some (e ∙ none))
some_texts set (json.item (json.text t) ds) ss s is =
    let later = some_texts (insert_key text_cmp set t) ds ss (sorted_insert nat_list_cmp_total t set s) (if_ok (list_any (is_at (text_cmp t)) set) _ ss is) in
    (later.0, λ _. later.1 (some_insert text_cmp set t))
some_texts set (json.item _ ds) ss s is = cc is

some_numbers : (set : List Decimal) (ds : json.Items) (ns : List Decimal) → IsStrictlySortedBy decimal_cmp set → AllByRecursion IsNormal set → spec.read_numbers set ds ≡ Ok ns
    → IsStrictlySortedBy decimal_cmp ns × AllByRecursion IsNormal ns × (set ≢ [] → ns ≢ [])
some_numbers set json.no_items ns s all is = let e : set ≡ ns = cc is in (subst (IsStrictlySortedBy decimal_cmp) e s, subst (AllByRecursion IsNormal) e all, λ some none. some (e ∙ none))
some_numbers set (json.item (json.text t) ds) ns s all is =
    let one = ok_then (λ n. if list_any (is_at (decimal_cmp n)) set then Err BadValue else spec.read_numbers (insert_key decimal_cmp set n) ds) (spec.read_number_text t) ns is in
    let later = some_numbers (insert_key decimal_cmp set one.0) ds ns (sorted_insert decimal_cmp_total one.0 set s) (all_insert decimal_cmp_total IsNormal one.0 set (number_is_normal t one.0 one.1) all)
    (if_ok (list_any (is_at (decimal_cmp one.0)) set) _ ns one.2) in
    (later.0, later.1, λ _. later.2 (some_insert decimal_cmp set one.0))
some_numbers set (json.item _ ds) ns s all is = cc is

text_set : (d : json.Data) (ds : json.Items) (ss : List (List ℕ)) → spec.read_texts [] (json.item d ds) ≡ Ok ss → IsTextSet ss
text_set (json.text t) ds ss is =
    let later = some_texts (t ∷ []) ds ss (one_sorted text_cmp t) is in (later.1 (λ e. cc e), later.0)
text_set _ ds ss is = cc is

number_set : (d : json.Data) (ds : json.Items) (ns : List Decimal) → spec.read_numbers [] (json.item d ds) ≡ Ok ns → IsNumberSet ns
number_set (json.text t) ds ns is =
    let one = ok_then (λ n. spec.read_numbers (n ∷ []) ds) (spec.read_number_text t) ns is in
    let later = some_numbers (one.0 ∷ []) ds ns (one_sorted decimal_cmp one.0) (number_is_normal t one.0 one.1, tt) one.2 in
    (later.2 (λ e. cc e), later.0, later.1)
number_set _ ds ns is = cc is

mutual
  pub datum_is_proper : (levels : ℕ) (j : json.Data) (d : Datum) → spec.read_datum levels j ≡ Ok d → IsProper levels d
  datum_is_proper levels (json.fields (json.member name j json.no_members)) d is = kind_is_proper (spec.type_kind_of name) levels j d is
  datum_is_proper levels _ d is = cc is

  kind_is_proper : (k : Option Kind) (levels : ℕ) (j : json.Data) (d : Datum) → spec.read_kind k levels j ≡ Ok d → IsProper levels d
  kind_is_proper (Some S) levels (json.text s) d is = let e : text s ≡ d = cc is in subst (IsProper levels) e tt
  kind_is_proper (Some N) levels (json.text s) d is =
      let one = ok_map number (spec.read_number_text s) d is in subst (IsProper levels) one.2 (number_is_normal s one.0 one.1)
  kind_is_proper (Some BoolKind) levels (json.boolean b) d is = let e : boolean b ≡ d = cc is in subst (IsProper levels) e tt
  kind_is_proper (Some Null) levels (json.boolean true) d is = let e : null ≡ d = cc is in subst (IsProper levels) e tt
  kind_is_proper (Some L) (suc levels) (json.list ds) d is =
      let one = ok_map list (spec.read_elements levels ds) d is in subst (IsProper (suc levels)) one.2 (elements_are_proper levels ds one.0 one.1)
  kind_is_proper (Some M) (suc levels) (json.fields ms) d is =
      let one = ok_map document (spec.read_attributes levels ms) d is in subst (IsProper (suc levels)) one.2 (attributes_are_proper levels ms one.0 one.1)
  kind_is_proper (Some Ss) levels (json.list (json.item j ds)) d is =
      let one = ok_map texts (spec.read_texts [] (json.item j ds)) d is in subst (IsProper levels) one.2 (text_set j ds one.0 one.1)
  kind_is_proper (Some Ns) levels (json.list (json.item j ds)) d is =
      let one = ok_map numbers (spec.read_numbers [] (json.item j ds)) d is in subst (IsProper levels) one.2 (number_set j ds one.0 one.1)
  kind_is_proper _ _ _ d is = cc is

  elements_are_proper : (levels : ℕ) (js : json.Items) (ds : Elements) → spec.read_elements levels js ≡ Ok ds → AreProper levels ds
  elements_are_proper levels json.no_items ds is = let e : no_elements ≡ ds = cc is in subst (AreProper levels) e tt
  elements_are_proper levels (json.item j js) ds is =
      let first = ok_then (λ e. result_map (element e) (spec.read_elements levels js)) (spec.read_datum levels j) ds is in
      let rest = ok_map (element first.0) (spec.read_elements levels js) ds first.2 in
      subst (AreProper levels) rest.2 (datum_is_proper levels j first.0 first.1, elements_are_proper levels js rest.0 rest.1)

  pub attributes_are_proper : (levels : ℕ) (js : json.Members) (ms : Attributes) → spec.read_attributes levels js ≡ Ok ms → AreProperAttributes levels ms
  attributes_are_proper levels json.no_members ms is = let e : no_attributes ≡ ms = cc is in subst (AreProperAttributes levels) e tt
  attributes_are_proper levels (json.member k j js) ms is =
      let first = ok_then (λ e. result_map (attribute k e) (spec.read_attributes levels js)) (spec.read_datum levels j) ms is in
      let rest = ok_map (attribute k first.0) (spec.read_attributes levels js) ms first.2 in
      subst (AreProperAttributes levels) rest.2 (datum_is_proper levels j first.0 first.1, attributes_are_proper levels js rest.0 rest.1)

pub kept_from_answers : (j : json.Data) (r : Result Value ItemFault) → AnswersAs datum_of (spec.read_datum 32 j) r → IfOk r (λ v. IsProper 32 (datum_of v))
kept_from_answers j (Ok v) h = datum_is_proper 32 j (datum_of v) h
kept_from_answers j (Err e) h = tt

-- ---- what is written is read back

texts_read_back : (done ss : List (List ℕ)) → IsStrictlySortedBy text_cmp (done ++ ss) → spec.read_texts done (items_of (map json.text ss)) ≡ Ok (done ++ ss)
texts_read_back done [] s = ap Ok (sym (append-nil done))
texts_read_back done (t ∷ ss) s =
    let new = next_is_new nat_list_cmp_total done t ss s in
    let last = next_goes_last nat_list_cmp_total done t ss s in
    let joined : (done ++ t ∷ []) ++ ss ≡ done ++ t ∷ ss = append_assoc done (t ∷ []) ss in
    rw (new, last) (texts_read_back (done ++ t ∷ []) ss (subst (IsStrictlySortedBy text_cmp) (sym joined) s) ∙ ap Ok joined)

numbers_read_back : (done ns : List Decimal) → IsStrictlySortedBy decimal_cmp (done ++ ns) → AllByRecursion IsNormal ns → spec.read_numbers done (items_of (map number_json ns)) ≡ Ok (done ++ ns)
numbers_read_back done [] s all = ap Ok (sym (append-nil done))
numbers_read_back done (n ∷ ns) s all =
    let new = next_is_new decimal_cmp_total done n ns s in
    let last = next_goes_last decimal_cmp_total done n ns s in
    let joined : (done ++ n ∷ []) ++ ns ≡ done ++ n ∷ ns = append_assoc done (n ∷ []) ns in
    rw (reads_back n all.0, new, last) (numbers_read_back (done ++ n ∷ []) ns (subst (IsStrictlySortedBy decimal_cmp) (sym joined) s) all.1 ∙ ap Ok joined)

mutual
  pub datum_reads_back : (levels : ℕ) (d : Datum) → IsProper levels d → spec.read_datum levels (json_of d) ≡ Ok d
  datum_reads_back levels (text s) h = refl
  datum_reads_back levels (number n) h = rw (reads_back n h) refl
  datum_reads_back levels (boolean b) h = refl
  datum_reads_back levels null h = refl
  datum_reads_back zero (list ds) h = absurd h
  datum_reads_back (suc levels) (list ds) h = ap (result_map list) (elements_read_back levels ds h)
  datum_reads_back zero (document ms) h = absurd h
  datum_reads_back (suc levels) (document ms) h = ap (result_map document) (attributes_read_back levels ms h)
  datum_reads_back levels (texts []) h = absurd (h.0 refl)
  datum_reads_back levels (texts (s ∷ ss)) h = ap (result_map texts) (texts_read_back [] (s ∷ ss) h.1)
  datum_reads_back levels (numbers []) h = absurd (h.0 refl)
  datum_reads_back levels (numbers (n ∷ ns)) h = ap (result_map numbers) (numbers_read_back [] (n ∷ ns) h.1 h.2)

  elements_read_back : (levels : ℕ) (ds : Elements) → AreProper levels ds → spec.read_elements levels (json_items ds) ≡ Ok ds
  elements_read_back levels no_elements h = refl
  elements_read_back levels (element d ds) h = rw (datum_reads_back levels d h.0, elements_read_back levels ds h.1) refl

  pub attributes_read_back : (levels : ℕ) (ms : Attributes) → AreProperAttributes levels ms → spec.read_attributes levels (json_members ms) ≡ Ok ms
  attributes_read_back levels no_attributes h = refl
  attributes_read_back levels (attribute k d ms) h = rw (datum_reads_back levels d h.0, attributes_read_back levels ms h.1) refl
