-- A value without marked fields is filled to itself.
use Rattle.std.proofs.Common.{◌≡◌, ℕ, Bool, List, [], ◌∷◌, ◌++◌, Option, Some, None, Less, Greater, option_map, refl, sym, ap, ◌∙◌, subst, append_assoc, append-nil}
use Rattle.std.proofs.lemmas.Cmp.{nat_list_cmp_total}
use Rattle.std.specs.List.{AllByRecursion}
use Rattle.std.specs.List.Sorted.{IsStrictlySortedBy}
use Rattle.std.specs.Map.{keys_of}
use Rattle.std.specs.Ordering.{ordering_reverse}
use Rattle.json_tree.specs.Data.{Data, null, boolean, whole, text, list as list_data, fields as fields_data, Items, no_items, item, Members, no_members, member, items_of, members_of}
use Rattle.json_tree.specs.Fields.{text_cmp, with_field}
use Rattle.json_tree.specs.Proper.{names, ItemsAreProper, MembersAreProper}
use Rattle.json_tree.proofs.Views.{keys_of-append}
use Rattle.ref_paths.specs.Filling.{filled_items, filled_fields, fields_with}
use Rattle.ref_paths.specs.Picking.{values_of, pairs_of}
use Rattle.ref_paths.specs.TemplateLaws.{UnmarkedStays, ItemsHaveNoMark, FieldsHaveNoMark}
use Rattle.ref_paths.specs.Templates.{Payload, constant, list, fields, payloads_of, named_of, IsTemplate, ItemsAreTemplates, FieldsAreTemplates, FieldIs, unmarked}
use Rattle.ref_paths.proofs.Shapes.{items_again, members_again}

last_at : (k : List ℕ) (d : Data) (m : List ℕ × Data) (ms : List (List ℕ × Data)) → text_cmp m.0 k ≡ Less → with_field k d ms ≡ ms ++ (k, d) ∷ [] → with_field k d (m ∷ ms) ≡ m ∷ (ms ++ (k, d) ∷ [])
last_at k d m ms below rest =
    let above : text_cmp k m.0 ≡ Greater = nat_list_cmp_total.antisymm k m.0 ∙ ap ordering_reverse below in
    rw above (ap (λ xs. m ∷ xs) rest)

below_last : (name : List ℕ) (before : List (List ℕ)) (k : List ℕ) (later : List (List ℕ)) → AllByRecursion (λ y. text_cmp name y ≡ Less) (before ++ k ∷ later) → text_cmp name k ≡ Less
below_last name [] k later h = h.0
below_last name (x ∷ before) k later h = below_last name before k later h.1

-- a name above all others goes last
insert_last : (ms : List (List ℕ × Data)) (k : List ℕ) (d : Data) (later : List (List ℕ)) → IsStrictlySortedBy text_cmp (keys_of ms ++ k ∷ later) → with_field k d ms ≡ ms ++ (k, d) ∷ []
unfolding IsStrictlySortedBy
insert_last [] k d later h = refl
insert_last (m ∷ ms) k d later h = last_at k d m ms (below_last m.0 (keys_of ms) k later h.0) (insert_last ms k d later h.1)

-- fields in the order of their names are put one after another
in_order : (done ms : List (List ℕ × Data)) → IsStrictlySortedBy text_cmp (keys_of (done ++ ms)) → fields_with done ms ≡ done ++ ms
in_order done [] h = sym (append-nil done)
in_order done (m ∷ ms) h =
    let sorted : IsStrictlySortedBy text_cmp (keys_of done ++ m.0 ∷ keys_of ms) = subst (IsStrictlySortedBy text_cmp) (keys_of-append done (m ∷ ms)) h in
    let put : with_field m.0 m.1 done ≡ done ++ m ∷ [] = insert_last done m.0 m.1 (keys_of ms) sorted in
    let shifted : (done ++ m ∷ []) ++ ms ≡ done ++ m ∷ ms = append_assoc done (m ∷ []) ms in
    ap (λ xs. fields_with xs ms) put ∙ in_order (done ++ m ∷ []) ms (subst (λ xs. IsStrictlySortedBy text_cmp (keys_of xs)) (sym shifted) h) ∙ shifted

names_of-pairs_of : (ms : Members) → names ms ≡ keys_of (pairs_of ms)
names_of-pairs_of no_members = refl
names_of-pairs_of (member k d ms) = ap (λ ks. k ∷ ks) (names_of-pairs_of ms)

plain_field : (it : Bool) (all : List (List ℕ × Data)) (k : List ℕ) (d : Data) (p : Payload) → unmarked k ≡ None → IsTemplate it d p → FieldIs it all k d (k, p) (IsTemplate it d p)
plain_field it all k d p is h = rw is (refl, h)

mutual
  pub unmarked_stays : UnmarkedStays
  unmarked_stays it null proper h = (constant null, refl, λ input i. refl)
  unmarked_stays it (boolean b) proper h = (constant (boolean b), refl, λ input i. refl)
  unmarked_stays it (whole z) proper h = (constant (whole z), refl, λ input i. refl)
  unmarked_stays it (text s) proper h = (constant (text s), refl, λ input i. refl)
  unmarked_stays it (list_data ds) proper h =
      let r = items_stay it ds proper h in
      (list (payloads_of r.0), (r.0, r.1, refl), λ input i. ap (option_map (λ es. list_data (items_of es))) (r.2 input i) ∙ ap (λ x. Some (list_data x)) (items_again ds))
  unmarked_stays it (fields_data ms) proper h =
      let r = fields_stay it (pairs_of ms) ms proper.1 h in
      let sorted : IsStrictlySortedBy text_cmp (keys_of (pairs_of ms)) = subst (IsStrictlySortedBy text_cmp) (names_of-pairs_of ms) proper.0 in
      let same : fields_with [] (pairs_of ms) ≡ pairs_of ms = in_order [] (pairs_of ms) sorted in (
        fields (named_of r.0),
        (r.0, r.1, refl),
        λ input i. ap (option_map (λ fs. fields_data (members_of (fields_with [] fs)))) (r.2 input i) ∙ ap (λ x. Some (fields_data (members_of x))) same ∙ ap (λ x. Some (fields_data x)) (members_again ms),
      )

  items_stay : (it : Bool) (ds : Items) → ItemsAreProper ds → ItemsHaveNoMark ds
      → (ps : List Payload) × ItemsAreTemplates it ds ps × ((input : Data) (i : Option (ℕ × Data)) → filled_items input i (payloads_of ps) ≡ Some (values_of ds))
  items_stay it no_items proper h = ([], refl, λ input i. refl)
  items_stay it (item d ds) proper h =
      let first = unmarked_stays it d proper.0 h.0 in
      let rest = items_stay it ds proper.1 h.1 in
      (first.0 ∷ rest.0, (first.0, rest.0, first.1, rest.1, refl), λ input i. rw (first.2 input i, rest.2 input i))

  fields_stay : (it : Bool) (all : List (List ℕ × Data)) (ms : Members) → MembersAreProper ms → FieldsHaveNoMark ms
      → (fs : List (List ℕ × Payload)) × FieldsAreTemplates it all ms fs × ((input : Data) (i : Option (ℕ × Data)) → filled_fields input i (named_of fs) ≡ Some (pairs_of ms))
  fields_stay it all no_members proper h = ([], refl, λ input i. refl)
  fields_stay it all (member k d ms) proper h =
      let first = unmarked_stays it d proper.1 h.1 in
      let rest = fields_stay it all ms proper.2 h.2 in (
        (k, first.0) ∷ rest.0,
        ((k, first.0), rest.0, plain_field it all k d first.0 h.0 first.1, rest.1, refl),
        λ input i. rw (first.2 input i, rest.2 input i),
      )
