-- Equality is that of the values.
use Rattle.std.proofs.Common.{◌≡◌, ◌↔◌, ℕ, List, [], ◌∷◌, true, false, Equal, is_eq, refl, sym, ap, ◌∙◌, subst}
use Rattle.std.proofs.lemmas.Cmp.{int_ranked}
use Rattle.std.proofs.lemmas.Map.Text.{is_eq-slice_cmp}
use Rattle.std.proofs.lemmas.Slice.Eq.{bytes_eq-Decides}
use Rattle.std.specs.Cmp.{tied_itself, Equal-is}
use Rattle.std.specs.Ordering.{eq_by_cmp, on}
use Rattle.json_tree.specs.Data.{Data, null, boolean, whole, text, list, fields, Items, no_items, item, Members, no_members, member, items_of, members_of}
use Rattle.json_tree.specs.Fields.{text_cmp}
use Rattle.json_tree.specs.FirstDifference.{first_equal, second_equal}
use Rattle.json_tree.specs.Order.{data_cmp, items_cmp, members_cmp, data_cmp_total}
use Rattle.json_tree.specs.View.{data_of}
use Rattle.json_tree.specs.declared.tree.Json.{Json}
use Rattle.json_tree.specs.declared.tree.Json.TheVariants.{Null, Bool, Whole, Text, List as ListOf, Fields}

-- texts that compare as equal are one
pub text_same : (s t : List ℕ) → text_cmp s t ≡ Equal → s ≡ t
text_same s t h = (bytes_eq-Decides s t).0 (sym (is_eq-slice_cmp s t) ∙ ap is_eq h)

mutual
  pub data_same : (d e : Data) → data_cmp d e ≡ Equal → d ≡ e
  data_same null null h = refl
  data_same (boolean true) (boolean true) h = refl
  data_same (boolean false) (boolean false) h = refl
  data_same (boolean true) (boolean false) h = cc
  data_same (boolean false) (boolean true) h = cc
  data_same (whole y) (whole z) h = ap whole (int_ranked y z Equal (sym h))
  data_same (text s) (text t) h = ap text (text_same s t h)
  data_same (list ds) (list es) h = ap list (items_same ds es h)
  data_same (fields ms) (fields ns) h = ap fields (members_same ms ns h)
  data_same _ _ h = cc

  items_same : (ds es : Items) → items_cmp ds es ≡ Equal → ds ≡ es
  items_same no_items no_items h = refl
  items_same no_items (item e es) h = cc
  items_same (item d ds) no_items h = cc
  items_same (item d ds) (item e es) h =
      let first : d ≡ e = data_same d e (first_equal _ _ h) in
      let rest : ds ≡ es = items_same ds es (second_equal (data_cmp d e) _ h) in
      cc

  members_same : (ms ns : Members) → members_cmp ms ns ≡ Equal → ms ≡ ns
  members_same no_members no_members h = refl
  members_same no_members (member l e ns) h = cc
  members_same (member k d ms) no_members h = cc
  members_same (member k d ms) (member l e ns) h =
      let later = second_equal (text_cmp k l) _ h in
      let name : k ≡ l = text_same k l (first_equal _ _ h) in
      let value : d ≡ e = data_same d e (first_equal _ _ later) in
      let rest : ms ≡ ns = members_same ms ns (second_equal (data_cmp d e) _ later) in
      cc

pub items_of-injective : (ds es : List Data) → items_of ds ≡ items_of es → ds ≡ es
items_of-injective [] [] h = refl
items_of-injective [] (e ∷ es) h = cc
items_of-injective (d ∷ ds) [] h = cc
items_of-injective (d ∷ ds) (e ∷ es) h =
    let first : d ≡ e = cc in
    let rest : ds ≡ es = items_of-injective ds es cc in
    cc

pub members_of-injective : (ms ns : List (List ℕ × Data)) → members_of ms ≡ members_of ns → ms ≡ ns
members_of-injective [] [] h = refl
members_of-injective [] (n ∷ ns) h = cc
members_of-injective (m ∷ ms) [] h = cc
members_of-injective (m ∷ ms) (n ∷ ns) h =
    let name : m.0 ≡ n.0 = cc in
    let value : m.1 ≡ n.1 = cc in
    let first : m ≡ n = λ i. (name i, value i) in
    let rest : ms ≡ ns = members_of-injective ms ns cc in
    cc

-- two values stand for one data only where they are one
pub data_of-injective : (a b : Json) → data_of a ≡ data_of b → a ≡ b
data_of-injective Null Null h = refl
data_of-injective (Bool x) (Bool y) h = let same : x ≡ y = cc in ap Bool same
data_of-injective (Whole x) (Whole y) h = let same : x ≡ y = cc in ap Whole same
data_of-injective (Text x) (Text y) h = let same : x ≡ y = cc in ap Text same
data_of-injective (ListOf x) (ListOf y) h = let same : items_of x ≡ items_of y = cc in ap ListOf (items_of-injective x y same)
data_of-injective (Fields x) (Fields y) h = let same : members_of x ≡ members_of y = cc in ap Fields (members_of-injective x y same)
data_of-injective _ _ h = cc

-- what `==` found true is one value
pub eq_one : (a b : Json) → eq_by_cmp (on data_of data_cmp) a b ≡ true → a ≡ b
eq_one a b h = data_of-injective a b (data_same (data_of a) (data_of b) ((Equal-is (data_cmp (data_of a) (data_of b))).0 h))

pub eq_itself : (a : Json) → eq_by_cmp (on data_of data_cmp) a a ≡ true
eq_itself a = ap is_eq (tied_itself data_cmp_total (data_of a))

pub eq_both : (a b : Json) → (eq_by_cmp (on data_of data_cmp) a b ≡ true) ↔ (a ≡ b)
eq_both a b = (eq_one a b, λ same. subst (λ x. eq_by_cmp (on data_of data_cmp) a x ≡ true) same (eq_itself a))
