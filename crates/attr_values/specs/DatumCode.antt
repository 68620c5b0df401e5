-- A tree of numbers for each value, and no tree for two: by it a proof tells values apart.
use base.Stored.{Gv, gnil, gnum, gcons}
use Rattle.std.specs.Prelude.{◌≡◌, ℕ, ℤ, List, refl}
use Rattle.std.specs.Coded.{Coded, code_by, coded_ℕ, coded_ℤ, coded_bool, coded_list, coded×}
use Rattle.std.proofs.Common.{ap, ap₂}
use Rattle.attr_values.specs.Decimal.{Decimal}
use Rattle.attr_values.specs.Datum.{Datum, text, number, boolean, null, list, document, texts, numbers, Elements, no_elements, element, Attributes, no_attributes, attribute}

abbrev pub coded_decimal : Coded Decimal
coded_decimal = code_by (ℤ × ℕ) (coded× coded_ℤ coded_ℕ) (λ d. (d.coefficient, d.places)) (λ p. record { coefficient = p.0; places = p.1 }) (λ _. refl)

abbrev mutual
  pub datum_gv : Datum → Gv
  datum_gv (text s) = gcons (gnum 0) ((coded_list coded_ℕ).code s)
  datum_gv (number n) = gcons (gnum 1) (coded_decimal.code n)
  datum_gv (boolean b) = gcons (gnum 2) (coded_bool.code b)
  datum_gv null = gcons (gnum 3) gnil
  datum_gv (list ds) = gcons (gnum 4) (elements_gv ds)
  datum_gv (document ms) = gcons (gnum 5) (attributes_gv ms)
  datum_gv (texts ss) = gcons (gnum 6) ((coded_list (coded_list coded_ℕ)).code ss)
  datum_gv (numbers ns) = gcons (gnum 7) ((coded_list coded_decimal).code ns)

  pub elements_gv : Elements → Gv
  elements_gv no_elements = gnil
  elements_gv (element d ds) = gcons (datum_gv d) (elements_gv ds)

  pub attributes_gv : Attributes → Gv
  attributes_gv no_attributes = gnil
  attributes_gv (attribute k d ms) = gcons ((coded_list coded_ℕ).code k) (gcons (datum_gv d) (attributes_gv ms))

abbrev first_of : Gv → Gv
first_of gnil = gnil
first_of (gnum n) = gnil
first_of (gcons a b) = a

abbrev rest_of : Gv → Gv
rest_of gnil = gnil
rest_of (gnum n) = gnil
rest_of (gcons a b) = b

mutual
  pub datum_inj : (d e : Datum) → datum_gv d ≡ datum_gv e → d ≡ e
  datum_inj (text s) (text t) p = ap text ((coded_list coded_ℕ).inj s t (ap rest_of p))
  datum_inj (number m) (number n) p = ap number (coded_decimal.inj m n (ap rest_of p))
  datum_inj (boolean b) (boolean c) p = ap boolean (coded_bool.inj b c (ap rest_of p))
  datum_inj null null p = refl
  datum_inj (list ds) (list es) p = ap list (elements_inj ds es (ap rest_of p))
  datum_inj (document ms) (document ns) p = ap document (attributes_inj ms ns (ap rest_of p))
  datum_inj (texts ss) (texts ts) p = ap texts ((coded_list (coded_list coded_ℕ)).inj ss ts (ap rest_of p))
  datum_inj (numbers ms) (numbers ns) p = ap numbers ((coded_list coded_decimal).inj ms ns (ap rest_of p))
  datum_inj _ _ p = cc

  pub elements_inj : (ds es : Elements) → elements_gv ds ≡ elements_gv es → ds ≡ es
  elements_inj no_elements no_elements p = refl
  elements_inj (element d ds) (element e es) p = ap₂ element (datum_inj d e (ap first_of p)) (elements_inj ds es (ap rest_of p))
  elements_inj _ _ p = cc

  pub attributes_inj : (ms ns : Attributes) → attributes_gv ms ≡ attributes_gv ns → ms ≡ ns
  attributes_inj no_attributes no_attributes p = refl
  attributes_inj (attribute k d ms) (attribute l e ns) p =
      let same_name : k ≡ l = (coded_list coded_ℕ).inj k l (ap first_of p) in
      let same_value : d ≡ e = datum_inj d e (ap (λ g. first_of (rest_of g)) p) in
      let same_rest : ms ≡ ns = attributes_inj ms ns (ap (λ g. rest_of (rest_of g)) p) in
      cc
  attributes_inj _ _ p = cc

abbrev pub datum_code : Coded Datum
datum_code = record { code = datum_gv; inj = datum_inj }

abbrev pub datum_list_code : Coded (List Datum)
datum_list_code = coded_list datum_code

abbrev pub entries_code : Coded (List (List ℕ × Datum))
entries_code = coded_list (coded× (coded_list coded_ℕ) datum_code)

abbrev pub texts_code : Coded (List (List ℕ))
texts_code = coded_list (coded_list coded_ℕ)

abbrev pub numbers_code : Coded (List Decimal)
numbers_code = coded_list coded_decimal
