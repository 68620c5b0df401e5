-- The order of values: by type (in the order in which `rank` counts them), and then by what they hold. A list, a document or a
-- set is compared value by value, where the first that differs decides; a shorter one is less.
use Rattle.std.specs.Prelude.{◌≡◌, ℕ, List, refl}
use Rattle.std.proofs.Common.{sym, ap, ap₂, ◌∙◌}
use Rattle.std.specs.Cmp.{IsTotalOrder, bool_cmp_total}
use Rattle.std.specs.Cmp.Lexicographic.{slice_cmp, nat_list_cmp_total, lists_total}
use Rattle.std.specs.Ordering.{nat_cmp, bool_cmp, ordering_then, ordering_reverse}
use Rattle.std.specs.declared.cmp.Ordering.{Ordering}
use Rattle.std.specs.declared.cmp.Ordering.TheVariants.{Less, Equal, Greater}
use Rattle.json_tree.specs.Fields.{text_cmp}
use Rattle.json_tree.specs.FirstDifference.{then_flip, first_equal, second_equal, then_rises, text_right}
use Rattle.attr_values.specs.Datum.{Datum, text, number, boolean, null, list, document, texts, numbers, Elements, no_elements, element, Attributes, no_attributes, attribute}
use Rattle.attr_values.specs.Decimal.{Decimal, decimal_cmp}
use Rattle.attr_values.specs.DecimalOrder.{decimal_cmp_total}

abbrev pub datum_rank : Datum → ℕ
datum_rank (text s) = 0
datum_rank (number m) = 1
datum_rank (boolean a) = 2
datum_rank null = 3
datum_rank (list ds) = 4
datum_rank (document ms) = 5
datum_rank (texts ss) = 6
datum_rank (numbers ks) = 7

abbrev pub text_lists_cmp : List (List ℕ) → List (List ℕ) → Ordering
text_lists_cmp = slice_cmp text_cmp

abbrev pub number_lists_cmp : List Decimal → List Decimal → Ordering
number_lists_cmp = slice_cmp decimal_cmp

abbrev mutual
  pub datum_cmp : Datum → Datum → Ordering
  datum_cmp (text s) (text t) = text_cmp s t
  datum_cmp (number m) (number n) = decimal_cmp m n
  datum_cmp (boolean a) (boolean b) = bool_cmp a b
  datum_cmp null null = Equal
  datum_cmp (list ds) (list es) = elements_cmp ds es
  datum_cmp (document ms) (document ns) = attributes_cmp ms ns
  datum_cmp (texts ss) (texts ts) = text_lists_cmp ss ts
  datum_cmp (numbers ks) (numbers ls) = number_lists_cmp ks ls
  datum_cmp d e = nat_cmp (datum_rank d) (datum_rank e)

  pub elements_cmp : Elements → Elements → Ordering
  elements_cmp no_elements no_elements = Equal
  elements_cmp no_elements (element e es) = Less
  elements_cmp (element d ds) no_elements = Greater
  elements_cmp (element d ds) (element e es) = ordering_then (datum_cmp d e) (elements_cmp ds es)

  pub attributes_cmp : Attributes → Attributes → Ordering
  attributes_cmp no_attributes no_attributes = Equal
  attributes_cmp no_attributes (attribute l e ns) = Less
  attributes_cmp (attribute k d ms) no_attributes = Greater
  attributes_cmp (attribute k d ms) (attribute l e ns) = ordering_then (text_cmp k l) (ordering_then (datum_cmp d e) (attributes_cmp ms ns))

-- ---- the order is total

text_lists_total : IsTotalOrder text_lists_cmp
text_lists_total = lists_total nat_list_cmp_total

number_lists_total : IsTotalOrder number_lists_cmp
number_lists_total = lists_total decimal_cmp_total

mutual
  datum_flip : (d e : Datum) → datum_cmp d e ≡ ordering_reverse (datum_cmp e d)
  datum_flip (text s) (text t) = nat_list_cmp_total.antisymm s t
  datum_flip (number m) (number n) = decimal_cmp_total.antisymm m n
  datum_flip (boolean a) (boolean b) = bool_cmp_total.antisymm a b
  datum_flip null null = refl
  datum_flip (list ds) (list es) = elements_flip ds es
  datum_flip (document ms) (document ns) = attributes_flip ms ns
  datum_flip (texts ss) (texts ts) = text_lists_total.antisymm ss ts
  datum_flip (numbers ks) (numbers ls) = number_lists_total.antisymm ks ls
  datum_flip _ _ = refl

  elements_flip : (ds es : Elements) → elements_cmp ds es ≡ ordering_reverse (elements_cmp es ds)
  elements_flip no_elements no_elements = refl
  elements_flip no_elements (element e es) = refl
  elements_flip (element d ds) no_elements = refl
  elements_flip (element d ds) (element e es) = then_flip _ _ _ _ (datum_flip d e) (elements_flip ds es)

  attributes_flip : (ms ns : Attributes) → attributes_cmp ms ns ≡ ordering_reverse (attributes_cmp ns ms)
  attributes_flip no_attributes no_attributes = refl
  attributes_flip no_attributes (attribute l e ns) = refl
  attributes_flip (attribute k d ms) no_attributes = refl
  attributes_flip (attribute k d ms) (attribute l e ns) = then_flip _ _ _ _ (nat_list_cmp_total.antisymm k l) (then_flip _ _ _ _ (datum_flip d e) (attributes_flip ms ns))

mutual
  datum_alike : (x y z : Datum) → datum_cmp x y ≡ Equal → datum_cmp x z ≡ datum_cmp y z
  datum_alike (text s) (text t) (text u) h = nat_list_cmp_total.congr s t u h
  datum_alike (number m) (number n) (number o) h = decimal_cmp_total.congr m n o h
  datum_alike (boolean a) (boolean b) (boolean c) h = bool_cmp_total.congr a b c h
  datum_alike null null z h = refl
  datum_alike (list ds) (list es) (list fs) h = elements_alike ds es fs h
  datum_alike (document ms) (document ns) (document os) h = attributes_alike ms ns os h
  datum_alike (texts ss) (texts ts) (texts us) h = text_lists_total.congr ss ts us h
  datum_alike (numbers ks) (numbers ls) (numbers ns) h = number_lists_total.congr ks ls ns h
  datum_alike _ _ _ h = cc

  elements_alike : (x y z : Elements) → elements_cmp x y ≡ Equal → elements_cmp x z ≡ elements_cmp y z
  elements_alike no_elements no_elements z h = refl
  elements_alike no_elements (element e es) z h = cc
  elements_alike (element d ds) no_elements z h = cc
  elements_alike (element d ds) (element e es) no_elements h = refl
  elements_alike (element d ds) (element e es) (element f fs) h =
      ap₂ ordering_then (datum_alike d e f (first_equal _ _ h)) (elements_alike ds es fs (second_equal _ _ h))

  attributes_alike : (x y z : Attributes) → attributes_cmp x y ≡ Equal → attributes_cmp x z ≡ attributes_cmp y z
  attributes_alike no_attributes no_attributes z h = refl
  attributes_alike no_attributes (attribute l e ns) z h = cc
  attributes_alike (attribute k d ms) no_attributes z h = cc
  attributes_alike (attribute k d ms) (attribute l e ns) no_attributes h = refl
  attributes_alike (attribute k d ms) (attribute l e ns) (attribute m f os) h =
      let rest = second_equal (text_cmp k l) _ h in
      ap₂ ordering_then (nat_list_cmp_total.congr k l m (first_equal _ _ h)) (ap₂ ordering_then (datum_alike d e f (first_equal _ _ rest)) (attributes_alike ms ns os (second_equal (datum_cmp d e) _ rest)))

-- an equal one on the right
datum_right : (x y z : Datum) → datum_cmp y z ≡ Equal → datum_cmp x z ≡ datum_cmp x y
datum_right x y z h =
    let back : datum_cmp z y ≡ Equal = datum_flip z y ∙ ap ordering_reverse h in
    datum_flip x z ∙ ap ordering_reverse (datum_alike z y x back) ∙ sym (datum_flip x y)

mutual
  datum_rises : (x y z : Datum) → datum_cmp x y ≡ Less → datum_cmp y z ≡ Less → datum_cmp x z ≡ Less
  datum_rises (text s) (text t) (text u) h g = nat_list_cmp_total.trans s t u h g
  datum_rises (number m) (number n) (number o) h g = decimal_cmp_total.trans m n o h g
  datum_rises (boolean a) (boolean b) (boolean c) h g = bool_cmp_total.trans a b c h g
  datum_rises (list ds) (list es) (list fs) h g = elements_rise ds es fs h g
  datum_rises (document ms) (document ns) (document os) h g = attributes_rise ms ns os h g
  datum_rises (texts ss) (texts ts) (texts us) h g = text_lists_total.trans ss ts us h g
  datum_rises (numbers ks) (numbers ls) (numbers ns) h g = number_lists_total.trans ks ls ns h g
  datum_rises (text x) (number y) null h g = refl
  datum_rises (text x) (boolean y) null h g = refl
  datum_rises (text x) null (text z) h g = cc
  datum_rises (text x) (list y) null h g = cc
  datum_rises (text x) (document y) null h g = cc
  datum_rises (text x) (texts y) null h g = cc
  datum_rises (text x) (numbers y) null h g = cc
  datum_rises (number x) (boolean y) null h g = refl
  datum_rises (number x) null (text z) h g = cc
  datum_rises (number x) (list y) null h g = cc
  datum_rises (number x) (document y) null h g = cc
  datum_rises (number x) (texts y) null h g = cc
  datum_rises (number x) (numbers y) null h g = cc
  datum_rises (boolean x) null (text z) h g = cc
  datum_rises (boolean x) (list y) null h g = cc
  datum_rises (boolean x) (document y) null h g = cc
  datum_rises (boolean x) (texts y) null h g = cc
  datum_rises (boolean x) (numbers y) null h g = cc
  datum_rises null (list y) null h g = cc
  datum_rises null (document y) null h g = cc
  datum_rises null (texts y) null h g = cc
  datum_rises null (numbers y) null h g = cc
  datum_rises (list x) (document y) null h g = cc
  datum_rises (list x) (texts y) null h g = cc
  datum_rises (list x) (numbers y) null h g = cc
  datum_rises (document x) (texts y) null h g = cc
  datum_rises (document x) (numbers y) null h g = cc
  datum_rises (texts x) (numbers y) null h g = cc
  datum_rises _ _ _ h g = cc

  elements_rise : (x y z : Elements) → elements_cmp x y ≡ Less → elements_cmp y z ≡ Less → elements_cmp x z ≡ Less
  elements_rise no_elements no_elements z h k = cc h
  elements_rise no_elements (element e es) no_elements h k = cc k
  elements_rise no_elements (element e es) (element f fs) h k = refl
  elements_rise (element d ds) no_elements z h k = cc h
  elements_rise (element d ds) (element e es) no_elements h k = cc k
  elements_rise (element d ds) (element e es) (element f fs) h k =
      then_rises (datum_cmp d e) (datum_cmp e f) (datum_cmp d f) _ _ _ (datum_rises d e f) (λ p. datum_alike d e f p) (λ p. datum_right d e f p) (elements_rise ds es fs) h k

  attributes_rise : (x y z : Attributes) → attributes_cmp x y ≡ Less → attributes_cmp y z ≡ Less → attributes_cmp x z ≡ Less
  attributes_rise no_attributes no_attributes z h k = cc h
  attributes_rise no_attributes (attribute l e ns) no_attributes h k = cc k
  attributes_rise no_attributes (attribute l e ns) (attribute m f os) h k = refl
  attributes_rise (attribute k d ms) no_attributes z h u = cc h
  attributes_rise (attribute k d ms) (attribute l e ns) no_attributes h u = cc u
  attributes_rise (attribute k d ms) (attribute l e ns) (attribute m f os) h u =
      then_rises (text_cmp k l) (text_cmp l m) (text_cmp k m) _ _ _ (nat_list_cmp_total.trans k l m) (λ p. nat_list_cmp_total.congr k l m p) (λ p. text_right k l m p)
      (then_rises (datum_cmp d e) (datum_cmp e f) (datum_cmp d f) _ _ _ (datum_rises d e f) (λ p. datum_alike d e f p) (λ p. datum_right d e f p) (attributes_rise ms ns os)) h u

pub datum_cmp_total : IsTotalOrder datum_cmp
datum_cmp_total = record { antisymm = datum_flip; trans = datum_rises; congr = datum_alike }

pub attributes_cmp_total : IsTotalOrder attributes_cmp
attributes_cmp_total = record { antisymm = attributes_flip; trans = attributes_rise; congr = attributes_alike }
