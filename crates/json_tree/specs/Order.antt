-- The order of values: by kind (null, booleans, whole numbers, texts, lists, fields), and then by what they hold. A list,
-- and fields, are compared value by value, where the first that differs decides; a shorter one is less.
use Rattle.std.specs.Prelude.{◌≡◌, ℕ, refl}
use Rattle.std.proofs.Common.{sym, ap, ◌∙◌, ap₂}
use Rattle.std.specs.Cmp.{IsTotalOrder, int_cmp_total, bool_cmp_total}
use Rattle.std.specs.Cmp.Lexicographic.{nat_list_cmp_total}
use Rattle.std.specs.Ordering.{nat_cmp, int_cmp, bool_cmp, ordering_then, ordering_reverse}
use Rattle.std.specs.declared.cmp.Ordering.{Ordering}
use Rattle.std.specs.declared.cmp.Ordering.TheVariants.{Less, Equal, Greater}
use Rattle.json_tree.specs.Data.{Data, null, boolean, whole, text, list, fields, Items, no_items, item, Members, no_members, member}
use Rattle.json_tree.specs.Fields.{text_cmp}
use Rattle.json_tree.specs.FirstDifference.{then_flip, first_equal, second_equal, then_rises, text_right}

abbrev pub rank : Data → ℕ
rank null = 0
rank (boolean b) = 1
rank (whole z) = 2
rank (text s) = 3
rank (list ds) = 4
rank (fields ms) = 5

abbrev mutual
  pub data_cmp : Data → Data → Ordering
  data_cmp null null = Equal
  data_cmp (boolean b) (boolean c) = bool_cmp b c
  data_cmp (whole y) (whole z) = int_cmp y z
  data_cmp (text s) (text t) = text_cmp s t
  data_cmp (list ds) (list es) = items_cmp ds es
  data_cmp (fields ms) (fields ns) = members_cmp ms ns
  data_cmp d e = nat_cmp (rank d) (rank e)

  pub items_cmp : Items → Items → Ordering
  items_cmp no_items no_items = Equal
  items_cmp no_items (item e es) = Less
  items_cmp (item d ds) no_items = Greater
  items_cmp (item d ds) (item e es) = ordering_then (data_cmp d e) (items_cmp ds es)

  pub members_cmp : Members → Members → Ordering
  members_cmp no_members no_members = Equal
  members_cmp no_members (member l e ns) = Less
  members_cmp (member k d ms) no_members = Greater
  members_cmp (member k d ms) (member l e ns) = ordering_then (text_cmp k l) (ordering_then (data_cmp d e) (members_cmp ms ns))

-- ---- the order is total

mutual
  data_flip : (d e : Data) → data_cmp d e ≡ ordering_reverse (data_cmp e d)
  data_flip null null = refl
  data_flip (boolean b) (boolean c) = bool_cmp_total.antisymm b c
  data_flip (whole y) (whole z) = int_cmp_total.antisymm y z
  data_flip (text s) (text t) = nat_list_cmp_total.antisymm s t
  data_flip (list ds) (list es) = items_flip ds es
  data_flip (fields ms) (fields ns) = members_flip ms ns
  data_flip _ _ = refl

  items_flip : (ds es : Items) → items_cmp ds es ≡ ordering_reverse (items_cmp es ds)
  items_flip no_items no_items = refl
  items_flip no_items (item e es) = refl
  items_flip (item d ds) no_items = refl
  items_flip (item d ds) (item e es) = then_flip _ _ _ _ (data_flip d e) (items_flip ds es)

  members_flip : (ms ns : Members) → members_cmp ms ns ≡ ordering_reverse (members_cmp ns ms)
  members_flip no_members no_members = refl
  members_flip no_members (member l e ns) = refl
  members_flip (member k d ms) no_members = refl
  members_flip (member k d ms) (member l e ns) = then_flip _ _ _ _ (nat_list_cmp_total.antisymm k l) (then_flip _ _ _ _ (data_flip d e) (members_flip ms ns))

mutual
  data_alike : (x y z : Data) → data_cmp x y ≡ Equal → data_cmp x z ≡ data_cmp y z
  data_alike null null z h = refl
  data_alike (boolean a) (boolean b) (boolean c) h = bool_cmp_total.congr a b c h
  data_alike (whole a) (whole b) (whole c) h = int_cmp_total.congr a b c h
  data_alike (text a) (text b) (text c) h = nat_list_cmp_total.congr a b c h
  data_alike (list a) (list b) (list c) h = items_alike a b c h
  data_alike (fields a) (fields b) (fields c) h = members_alike a b c h
  data_alike _ _ _ h = cc

  items_alike : (x y z : Items) → items_cmp x y ≡ Equal → items_cmp x z ≡ items_cmp y z
  items_alike no_items no_items z h = refl
  items_alike no_items (item e es) z h = cc
  items_alike (item d ds) no_items z h = cc
  items_alike (item d ds) (item e es) no_items h = refl
  items_alike (item d ds) (item e es) (item f fs) h =
      ap₂ ordering_then (data_alike d e f (first_equal _ _ h)) (items_alike ds es fs (second_equal _ _ h))

  members_alike : (x y z : Members) → members_cmp x y ≡ Equal → members_cmp x z ≡ members_cmp y z
  members_alike no_members no_members z h = refl
  members_alike no_members (member l e ns) z h = cc
  members_alike (member k d ms) no_members z h = cc
  members_alike (member k d ms) (member l e ns) no_members h = refl
  members_alike (member k d ms) (member l e ns) (member m f os) h =
      let rest = second_equal (text_cmp k l) _ h in
      ap₂ ordering_then (nat_list_cmp_total.congr k l m (first_equal _ _ h)) (ap₂ ordering_then (data_alike d e f (first_equal _ _ rest)) (members_alike ms ns os (second_equal (data_cmp d e) _ rest)))

-- an equal one on the right
data_right : (x y z : Data) → data_cmp y z ≡ Equal → data_cmp x z ≡ data_cmp x y
data_right x y z h =
    let back : data_cmp z y ≡ Equal = data_flip z y ∙ ap ordering_reverse h in
    data_flip x z ∙ ap ordering_reverse (data_alike z y x back) ∙ sym (data_flip x y)

mutual
  data_rises : (x y z : Data) → data_cmp x y ≡ Less → data_cmp y z ≡ Less → data_cmp x z ≡ Less
  data_rises (boolean a) (boolean b) (boolean c) h k = bool_cmp_total.trans a b c h k
  data_rises (whole a) (whole b) (whole c) h k = int_cmp_total.trans a b c h k
  data_rises (text a) (text b) (text c) h k = nat_list_cmp_total.trans a b c h k
  data_rises (list a) (list b) (list c) h k = items_rise a b c h k
  data_rises (fields a) (fields b) (fields c) h k = members_rise a b c h k
  data_rises null (boolean b) null h k = cc k
  data_rises null (whole b) null h k = cc k
  data_rises null (text b) null h k = cc k
  data_rises null (list b) null h k = cc k
  data_rises null (fields b) null h k = cc k
  data_rises (boolean a) (whole b) null h k = cc k
  data_rises (boolean a) (text b) null h k = cc k
  data_rises (boolean a) (list b) null h k = cc k
  data_rises (boolean a) (fields b) null h k = cc k
  data_rises (whole a) (text b) null h k = cc k
  data_rises (whole a) (list b) null h k = cc k
  data_rises (whole a) (fields b) null h k = cc k
  data_rises (text a) (list b) null h k = cc k
  data_rises (text a) (fields b) null h k = cc k
  data_rises (list a) (fields b) null h k = cc k
  data_rises _ _ _ h k = cc

  items_rise : (x y z : Items) → items_cmp x y ≡ Less → items_cmp y z ≡ Less → items_cmp x z ≡ Less
  items_rise no_items no_items z h k = cc h
  items_rise no_items (item e es) no_items h k = cc k
  items_rise no_items (item e es) (item f fs) h k = refl
  items_rise (item d ds) no_items z h k = cc h
  items_rise (item d ds) (item e es) no_items h k = cc k
  items_rise (item d ds) (item e es) (item f fs) h k =
      then_rises (data_cmp d e) (data_cmp e f) (data_cmp d f) _ _ _ (data_rises d e f) (λ p. data_alike d e f p) (λ p. data_right d e f p) (items_rise ds es fs) h k

  members_rise : (x y z : Members) → members_cmp x y ≡ Less → members_cmp y z ≡ Less → members_cmp x z ≡ Less
  members_rise no_members no_members z h k = cc h
  members_rise no_members (member l e ns) no_members h k = cc k
  members_rise no_members (member l e ns) (member m f os) h k = refl
  members_rise (member k d ms) no_members z h u = cc h
  members_rise (member k d ms) (member l e ns) no_members h u = cc u
  members_rise (member k d ms) (member l e ns) (member m f os) h u =
      then_rises (text_cmp k l) (text_cmp l m) (text_cmp k m) _ _ _ (nat_list_cmp_total.trans k l m) (λ p. nat_list_cmp_total.congr k l m p) (λ p. text_right k l m p)
      (then_rises (data_cmp d e) (data_cmp e f) (data_cmp d f) _ _ _ (data_rises d e f) (λ p. data_alike d e f p) (λ p. data_right d e f p) (members_rise ms ns os)) h u

pub data_cmp_total : IsTotalOrder data_cmp
data_cmp_total = record { antisymm = data_flip; trans = data_rises; congr = data_alike }
