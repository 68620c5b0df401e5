-- A tree of numbers for each value, and no tree for two: by it a proof tells values apart.
use base.Stored.{Gv, gnil, gnum, gcons}
use Rattle.std.specs.Prelude.{◌≡◌, ℕ, List, refl}
use Rattle.std.specs.Coded.{Coded, coded_ℕ, coded_ℤ, coded_bool, coded_list, coded×}
use Rattle.std.proofs.Common.{ap, ap₂}
use Rattle.json_tree.specs.Data.{Data, null, boolean, whole, text, list, fields, Items, no_items, item, Members, no_members, member}

abbrev mutual
  pub data_gv : Data → Gv
  data_gv null = gcons (gnum 0) gnil
  data_gv (boolean b) = gcons (gnum 1) (coded_bool.code b)
  data_gv (whole z) = gcons (gnum 2) (coded_ℤ.code z)
  data_gv (text s) = gcons (gnum 3) ((coded_list coded_ℕ).code s)
  data_gv (list ds) = gcons (gnum 4) (items_gv ds)
  data_gv (fields ms) = gcons (gnum 5) (members_gv ms)

  pub items_gv : Items → Gv
  items_gv no_items = gnil
  items_gv (item d ds) = gcons (data_gv d) (items_gv ds)

  pub members_gv : Members → Gv
  members_gv no_members = gnil
  members_gv (member k d ms) = gcons ((coded_list coded_ℕ).code k) (gcons (data_gv d) (members_gv ms))

abbrev first_of : Gv → Gv
first_of gnil = gnil
first_of (gnum n) = gnil
first_of (gcons a b) = a

abbrev rest_of : Gv → Gv
rest_of gnil = gnil
rest_of (gnum n) = gnil
rest_of (gcons a b) = b

mutual
  pub data_inj : (d e : Data) → data_gv d ≡ data_gv e → d ≡ e
  data_inj null null p = refl
  data_inj (boolean b) (boolean c) p = ap boolean (coded_bool.inj b c (ap rest_of p))
  data_inj (whole y) (whole z) p = ap whole (coded_ℤ.inj y z (ap rest_of p))
  data_inj (text s) (text t) p = ap text ((coded_list coded_ℕ).inj s t (ap rest_of p))
  data_inj (list ds) (list es) p = ap list (items_inj ds es (ap rest_of p))
  data_inj (fields ms) (fields ns) p = ap fields (members_inj ms ns (ap rest_of p))
  data_inj _ _ p = cc

  pub items_inj : (ds es : Items) → items_gv ds ≡ items_gv es → ds ≡ es
  items_inj no_items no_items p = refl
  items_inj (item d ds) (item e es) p = ap₂ item (data_inj d e (ap first_of p)) (items_inj ds es (ap rest_of p))
  items_inj _ _ p = cc

  pub members_inj : (ms ns : Members) → members_gv ms ≡ members_gv ns → ms ≡ ns
  members_inj no_members no_members p = refl
  members_inj (member k d ms) (member l e ns) p =
      let same_name : k ≡ l = (coded_list coded_ℕ).inj k l (ap first_of p) in
      let same_value : d ≡ e = data_inj d e (ap (λ g. first_of (rest_of g)) p) in
      let same_rest : ms ≡ ns = members_inj ms ns (ap (λ g. rest_of (rest_of g)) p) in
      cc
  members_inj _ _ p = cc

abbrev pub data_code : Coded Data
data_code = record { code = data_gv; inj = data_inj }

abbrev pub list_code : Coded (List Data)
list_code = coded_list data_code

abbrev pub fields_code : Coded (List (List ℕ × Data))
fields_code = coded_list (coded× (coded_list coded_ℕ) data_code)
