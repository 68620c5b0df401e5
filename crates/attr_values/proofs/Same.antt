-- Equality is that of the values.
use Rattle.std.proofs.Common.{◌≡◌, ◌↔◌, ℕ, List, [], ◌∷◌, true, false, Equal, is_eq, refl, ap, subst}
use Rattle.std.specs.Cmp.{tied_itself, Equal-is}
use Rattle.std.specs.FinMap.{nat_cmp-IsAntisymmetric, slice_cmp-IsAntisymmetric}
use Rattle.std.specs.Ordering.{eq_by_cmp, on}
use Rattle.json_tree.proofs.Same.{text_same}
use Rattle.json_tree.specs.Fields.{text_cmp}
use Rattle.attr_values.specs.Datum.{Datum, text, number, boolean, null, list, document, texts, numbers, Elements, no_elements, element, Attributes, no_attributes, attribute, elements_of, attributes_of}
use Rattle.attr_values.specs.Decimal.{Decimal}
use Rattle.attr_values.specs.DecimalOrder.{decimal_cmp_equal}
use Rattle.attr_values.specs.Key.{key_cmp}
use Rattle.attr_values.specs.KeyOrder.{key_cmp_total, key_cmp_equal}
use Rattle.json_tree.specs.FirstDifference.{first_equal, second_equal}
use Rattle.attr_values.specs.Order.{datum_cmp, elements_cmp, attributes_cmp, datum_cmp_total, attributes_cmp_total, text_lists_cmp, number_lists_cmp}
use Rattle.attr_values.specs.View.{datum_of}
use Rattle.attr_values.specs.declared.key.Key.{Key}
use Rattle.attr_values.specs.declared.value.Value.{Value}
use Rattle.attr_values.specs.declared.value.Value.TheVariants.{S, N, Bool, Null, L, M, Ss, Ns}

texts_same : (ss ts : List (List ℕ)) → text_lists_cmp ss ts ≡ Equal → ss ≡ ts
texts_same = slice_cmp-IsAntisymmetric text_same

numbers_same : (ms ns : List Decimal) → number_lists_cmp ms ns ≡ Equal → ms ≡ ns
numbers_same = slice_cmp-IsAntisymmetric decimal_cmp_equal

mutual
  pub datum_same : (d e : Datum) → datum_cmp d e ≡ Equal → d ≡ e
  datum_same (text s) (text t) h = ap text (text_same s t h)
  datum_same (number m) (number n) h = ap number (decimal_cmp_equal m n h)
  datum_same (boolean true) (boolean true) h = refl
  datum_same (boolean false) (boolean false) h = refl
  datum_same (boolean true) (boolean false) h = cc
  datum_same (boolean false) (boolean true) h = cc
  datum_same null null h = refl
  datum_same (list ds) (list es) h = ap list (elements_same ds es h)
  datum_same (document ms) (document ns) h = ap document (attributes_same ms ns h)
  datum_same (texts ss) (texts ts) h = ap texts (texts_same ss ts h)
  datum_same (numbers ms) (numbers ns) h = ap numbers (numbers_same ms ns h)
  datum_same _ _ h = cc

  elements_same : (ds es : Elements) → elements_cmp ds es ≡ Equal → ds ≡ es
  elements_same no_elements no_elements h = refl
  elements_same no_elements (element e es) h = cc
  elements_same (element d ds) no_elements h = cc
  elements_same (element d ds) (element e es) h =
      let first : d ≡ e = datum_same d e (first_equal _ _ h) in
      let rest : ds ≡ es = elements_same ds es (second_equal (datum_cmp d e) _ h) in
      cc

  pub attributes_same : (ms ns : Attributes) → attributes_cmp ms ns ≡ Equal → ms ≡ ns
  attributes_same no_attributes no_attributes h = refl
  attributes_same no_attributes (attribute l e ns) h = cc
  attributes_same (attribute k d ms) no_attributes h = cc
  attributes_same (attribute k d ms) (attribute l e ns) h =
      let later = second_equal (text_cmp k l) _ h in
      let name : k ≡ l = text_same k l (first_equal _ _ h) in
      let value : d ≡ e = datum_same d e (first_equal _ _ later) in
      let rest : ms ≡ ns = attributes_same ms ns (second_equal (datum_cmp d e) _ later) in
      cc

pub elements_of-injective : (ds es : List Datum) → elements_of ds ≡ elements_of es → ds ≡ es
elements_of-injective [] [] h = refl
elements_of-injective [] (e ∷ es) h = cc
elements_of-injective (d ∷ ds) [] h = cc
elements_of-injective (d ∷ ds) (e ∷ es) h =
    let first : d ≡ e = cc in
    let rest : ds ≡ es = elements_of-injective ds es cc in
    cc

pub attributes_of-injective : (ms ns : List (List ℕ × Datum)) → attributes_of ms ≡ attributes_of ns → ms ≡ ns
attributes_of-injective [] [] h = refl
attributes_of-injective [] (n ∷ ns) h = cc
attributes_of-injective (m ∷ ms) [] h = cc
attributes_of-injective (m ∷ ms) (n ∷ ns) h =
    let name : m.0 ≡ n.0 = cc in
    let value : m.1 ≡ n.1 = cc in
    let first : m ≡ n = λ i. (name i, value i) in
    let rest : ms ≡ ns = attributes_of-injective ms ns cc in
    cc

-- two values stand for one datum only where they are one
pub datum_of-injective : (a b : Value) → datum_of a ≡ datum_of b → a ≡ b
datum_of-injective (S x) (S y) h = let same : x ≡ y = cc in ap S same
datum_of-injective (N x) (N y) h = let same : x ≡ y = cc in ap N same
datum_of-injective (Bool x) (Bool y) h = let same : x ≡ y = cc in ap Bool same
datum_of-injective Null Null h = refl
datum_of-injective (L x) (L y) h = let same : elements_of x ≡ elements_of y = cc in ap L (elements_of-injective x y same)
datum_of-injective (M x) (M y) h = let same : attributes_of x ≡ attributes_of y = cc in ap M (attributes_of-injective x y same)
datum_of-injective (Ss x) (Ss y) h = let same : x ≡ y = cc in ap Ss same
datum_of-injective (Ns x) (Ns y) h = let same : x ≡ y = cc in ap Ns same
datum_of-injective _ _ h = cc

-- what `==` found true is one value
pub value_eq_one : (a b : Value) → eq_by_cmp (on datum_of datum_cmp) a b ≡ true → a ≡ b
value_eq_one a b h = datum_of-injective a b (datum_same (datum_of a) (datum_of b) ((Equal-is (datum_cmp (datum_of a) (datum_of b))).0 h))

pub value_eq_both : (a b : Value) → (eq_by_cmp (on datum_of datum_cmp) a b ≡ true) ↔ (a ≡ b)
value_eq_both a b = (value_eq_one a b, λ same. subst (λ x. eq_by_cmp (on datum_of datum_cmp) a x ≡ true) same (ap is_eq (tied_itself datum_cmp_total (datum_of a))))

pub item_eq_one : (a b : List (List ℕ × Datum)) → eq_by_cmp (on attributes_of attributes_cmp) a b ≡ true → a ≡ b
item_eq_one a b h = attributes_of-injective a b (attributes_same (attributes_of a) (attributes_of b) ((Equal-is (attributes_cmp (attributes_of a) (attributes_of b))).0 h))

pub item_eq_both : (a b : List (List ℕ × Datum)) → (eq_by_cmp (on attributes_of attributes_cmp) a b ≡ true) ↔ (a ≡ b)
item_eq_both a b = (item_eq_one a b, λ same. subst (λ x. eq_by_cmp (on attributes_of attributes_cmp) a x ≡ true) same (ap is_eq (tied_itself attributes_cmp_total (attributes_of a))))

pub key_eq_one : (a b : Key) → eq_by_cmp key_cmp a b ≡ true → a ≡ b
key_eq_one a b h = key_cmp_equal a b ((Equal-is (key_cmp a b)).0 h)

pub key_eq_both : (a b : Key) → (eq_by_cmp key_cmp a b ≡ true) ↔ (a ≡ b)
key_eq_both a b = (key_eq_one a b, λ same. subst (λ x. eq_by_cmp key_cmp a x ≡ true) same (ap is_eq (tied_itself key_cmp_total a)))
