-- The items that stand in the slots of all keys, in the keys' order, are the items of the table.
use Rattle.std.proofs.Common.{◌≡◌, ◌≤◌, ℕ, suc, arith, length, Bool, true, false, cond, List, [], ◌∷◌, Option, None, Some, is_some, option_map, option_and_then, Less, refl, sym, ap, ◌∙◌, subst}
use Rattle.std.proofs.lemmas.Option.{slice_get-map}
use Rattle.std.specs.BTreeMap.{is_at}
use Rattle.std.specs.HashMap.{HashMap}
use Rattle.std.specs.List.{AllByRecursion}
use Rattle.std.specs.List.Sorted.{IsStrictlySortedBy}
use Rattle.std.specs.Map.{keys_of, values_of, lookup}
use Rattle.attr_values.specs.Key.{key_cmp}
use Rattle.attr_values.specs.declared.key.Key.{Key}
use Rattle.item_store.specs.Deciding.{ItemAttributes}
use Rattle.item_store.specs.Listing.{IsListing, item_at, with_listed, entries_in}
use Rattle.item_store.specs.Store.{Slots, what_stands, items_in, IsIndexed}
use Rattle.item_store.specs.declared.slot.SlotNo.{SlotNo}
use Rattle.item_store.proofs.Slots.{same_key, none_of, stands, value_at}

abbrev Below : Key → List Key → Type 0
Below key ks = AllByRecursion (λ q. key_cmp key q ≡ Less) ks

below_with : (key other : Key) (x : Option ItemAttributes) (rest : List (Key × ItemAttributes)) → key_cmp key other ≡ Less → Below key (keys_of rest) → Below key (keys_of (with_listed other x rest))
below_with key other None rest h k = k
below_with key other (Some item) rest h k = (h, k)

below_entries : (key : Key) (slots : Slots) (order : List (Key × SlotNo)) → Below key (keys_of order) → Below key (keys_of (entries_in slots order))
below_entries key slots [] h = tt
below_entries key slots (e ∷ es) h = below_with key e.0 (item_at slots e.1) (entries_in slots es) h.0 (below_entries key slots es h.1)

sorted_with : (key : Key) (x : Option ItemAttributes) (rest : List (Key × ItemAttributes)) → Below key (keys_of rest) → IsStrictlySortedBy key_cmp (keys_of rest) → IsStrictlySortedBy key_cmp (keys_of (with_listed key x rest))
unfolding IsStrictlySortedBy
sorted_with key None rest h k = k
sorted_with key (Some item) rest h k = (h, k)

sorted_entries : (slots : Slots) (order : List (Key × SlotNo)) → IsStrictlySortedBy key_cmp (keys_of order) → IsStrictlySortedBy key_cmp (keys_of (entries_in slots order))
unfolding IsStrictlySortedBy
sorted_entries slots [] h = tt
sorted_entries slots (e ∷ es) h = sorted_with e.0 (item_at slots e.1) (entries_in slots es) (below_entries e.0 slots es h.0) (sorted_entries slots es h.1)

fewer_with : (key : Key) (x : Option ItemAttributes) (rest : List (Key × ItemAttributes)) (n : ℕ) → length (values_of rest) ≤ n → length (values_of (with_listed key x rest)) ≤ suc n
fewer_with key None rest n h = omega arith
fewer_with key (Some item) rest n h = omega arith

-- no more items are listed than there are slots
pub entries_fewer : (slots : Slots) (order : List (Key × SlotNo)) → length (values_of (entries_in slots order)) ≤ length order
entries_fewer slots [] = omega arith
entries_fewer slots (e ∷ es) = fewer_with e.0 (item_at slots e.1) (entries_in slots es) (length es) (entries_fewer slots es)

-- a key below all has no entry
below_none : {X : Type 0} (key : Key) (es : List (Key × X)) → Below key (keys_of es) → lookup (is_at (key_cmp key)) es ≡ None
below_none key [] h = refl
below_none key (e ∷ es) h = rw h.0 (below_none key es h.1)

found_by : (b : Bool) (x : Option ItemAttributes) (key other : Key) (n : SlotNo) (slots : Slots) (rest : List (Key × ItemAttributes)) (left : Option SlotNo)
    → item_at slots n ≡ x → is_at (key_cmp key) other ≡ b → (b ≡ true → lookup (is_at (key_cmp key)) rest ≡ None) → lookup (is_at (key_cmp key)) rest ≡ option_and_then (item_at slots) left
    → lookup (is_at (key_cmp key)) (with_listed other x rest) ≡ option_and_then (item_at slots) (cond b (Some n) left)
found_by true None key other n slots rest left at is none same = none refl ∙ sym at
found_by false None key other n slots rest left at is none same = same
found_by true (Some item) key other n slots rest left at is none same = rw is (sym at)
found_by false (Some item) key other n slots rest left at is none same = rw is same

-- an entry is what stands in the slot of its key
found_in : (key : Key) (slots : Slots) (order : List (Key × SlotNo)) → IsStrictlySortedBy key_cmp (keys_of order)
    → lookup (is_at (key_cmp key)) (entries_in slots order) ≡ option_and_then (item_at slots) (lookup (is_at (key_cmp key)) order)
unfolding IsStrictlySortedBy
found_in key slots [] h = refl
found_in key slots (e ∷ es) h =
    found_by (is_at (key_cmp key) e.0) (item_at slots e.1) key e.0 e.1 slots (entries_in slots es) (lookup (is_at (key_cmp key)) es) refl refl
    (λ b. below_none key (entries_in slots es) (subst (λ k. Below k (keys_of (entries_in slots es))) (sym (same_key key e.0 b)) (below_entries e.0 slots es h.0)))
    (found_in key slots es h.1)

module _ {S : Type 0} (m : HashMap Key (Option ItemAttributes) S) (order : List (Key × SlotNo)) (i : IsIndexed m.entries order) where
  leads_by : (key : Key) (r : Option SlotNo) → lookup (is_at (key_cmp key)) order ≡ r → option_and_then (item_at m.entries) r ≡ items_in m.entries key
  leads_by key None h = sym (ap what_stands (none_of _ (sym (i.whole key) ∙ ap is_some h)))
  leads_by key (Some n) h =
      let at = i.numbered key n h in
      let v = value_at m.entries n.index key at in
      ap (option_and_then (λ e. e.1)) v.1
      ∙ sym (ap what_stands (stands m n.index key v.0 i.unique at (slice_get-map (λ e. e.1) m.entries n.index ∙ ap (option_map (λ e. e.1)) v.1)))

  pub listing : IsStrictlySortedBy key_cmp (keys_of order) → IsListing (items_in m.entries) (values_of (entries_in m.entries order))
  listing h = record {
    entries = entries_in m.entries order;
    values = refl;
    ordered = sorted_entries m.entries order h;
    whole = λ key. found_in key m.entries order h ∙ leads_by key _ refl;
  }
