-- What a slot's number leads to, and what a new slot and a swap change.
use Rattle.std.proofs.Common.{if◌then◌else◌, option_map, ◌≡◌, ℕ, zero, suc, Bool, true, false, cond, List, [], ◌∷◌, ◌++◌, length, slice_get, Option, None, Some, is_some, Result, Ok, Err, IsOk, OnOk, OnErr, IsSome, position, Ordering, Less, Equal, Greater, is_eq, refl, sym, ap, ◌∙◌, subst, true≢false}
use Rattle.std.proofs.Math.Path.{fun_ext}
use Rattle.std.proofs.lemmas.Option.{slice_get-map}
use Rattle.std.proofs.lemmas.Map.Entries.{hash_map_get_place}
use Rattle.std.specs.BTreeMap.{is_at}
use Rattle.std.specs.Cmp.{IsEquivalence, eq_by_cmp_equiv}
use Rattle.std.specs.HashMap.{HashMap, IsUnique, get, keys, values}
use Rattle.std.specs.List.{IsDistinct}
use Rattle.std.specs.Map.{keys_of, values_of, lookup, lookup_key}
use Rattle.indexmap.specs.IndexMap.{set_value_at}
use Rattle.indexmap.proofs.CallerLemmas.{updates-with_value_at}
use Rattle.indexmap.proofs.MapLemmas.{Found-position, index-first}
use Rattle.indexmap.proofs.RemoveLemmas.{own_first}
use Rattle.attr_values.specs.Key.{key_cmp}
use Rattle.attr_values.specs.KeyOrder.{key_cmp_total, key_cmp_equal}
use Rattle.attr_values.specs.declared.key.Key.{Key}
use Rattle.item_store.specs.Deciding.{ItemAttributes}
use Rattle.item_store.specs.Store.{Slots, Store, what_stands, items_in, has_slot_of, slot_key, with_slot, IsIndexed}
use Rattle.item_store.specs.Table.{is_same_key, with_item}
use Rattle.item_store.specs.declared.slot.SlotNo.{SlotNo}

is_equal : (o : Ordering) → is_eq o ≡ true → o ≡ Equal
is_equal Less h = cc
is_equal Equal h = refl
is_equal Greater h = cc

-- the test of keys is equality
pub same_key : (a b : Key) → is_same_key a b ≡ true → a ≡ b
same_key a b h = key_cmp_equal a b (is_equal (key_cmp a b) h)

pub key_laws : IsEquivalence is_same_key
key_laws = eq_by_cmp_equiv key_cmp_total

entry_at : (slots : Slots) (i : ℕ) (key : Key) (x : Option ItemAttributes) → slice_get (keys_of slots) i ≡ Some key → slice_get (values_of slots) i ≡ Some x → slice_get slots i ≡ Some (key, x)
entry_at [] i key x h k = cc
entry_at (e ∷ es) zero key x h k =
    let same_first : e.0 ≡ key = cc in
    let same_second : e.1 ≡ x = cc in
    λ j. Some (same_first j, same_second j)
entry_at (e ∷ es) (suc i) key x h k = entry_at es i key x h k

-- the key of a slot leads to what stands in the slot
pub stands : {S : Type 0} (m : HashMap Key (Option ItemAttributes) S) (i : ℕ) (key : Key) (x : Option ItemAttributes) → IsUnique is_same_key m
    → slice_get (keys m) i ≡ Some key → slice_get (values m) i ≡ Some x → get is_same_key m key ≡ Some x
stands m i key x unique h k = hash_map_get_place key_laws m i key x unique (entry_at m.entries i key x h k)

stored_by : (b : Bool) (key other : Key) (rest : Option Key) → (b ≡ true → key ≡ other) → (b ≡ false → rest ≡ Some key) → cond b (Some other) rest ≡ Some key
stored_by true key other rest h k = ap Some (sym (h refl))
stored_by false key other rest h k = k refl

-- the stored key that a key finds is that key
pub stored : (key : Key) (slots : Slots) → is_some (lookup (is_same_key key) slots) ≡ true → lookup_key (is_same_key key) slots ≡ Some key
stored key [] h = absurd (true≢false (sym h))
stored key (e ∷ es) h = stored_by (is_same_key key e.0) key e.0 _ (same_key key e.0) (λ f. stored key es (rw f at h))

-- ---- a swap

with_by : (b : Bool) (w : Option ItemAttributes) (x y : Option (Option ItemAttributes)) → x ≡ cond b (Some w) y → what_stands x ≡ cond b w (what_stands y)
with_by true w x y h = ap what_stands h
with_by false w x y h = ap what_stands h

-- what a write into a slot makes of the items
pub swapped : (old new : Slots) (key : Key) (item : Option ItemAttributes)
    → ((q : Key) → lookup (is_same_key q) new ≡ cond (is_same_key key q) (Some item) (lookup (is_same_key q) old))
    → items_in new ≡ with_item (items_in old) key item
swapped old new key item h = fun_ext (λ q. with_by (is_same_key key q) item _ _ (h q))

there_by : (b : Bool) (w : Option ItemAttributes) (x y : Option (Option ItemAttributes)) → x ≡ cond b (Some w) y → (b ≡ true → is_some y ≡ true) → is_some x ≡ is_some y
there_by true w x y h k = ap is_some h ∙ sym (k refl)
there_by false w x y h k = ap is_some h

-- and the slots stay those of the order
pub swapped_indexed : (old new : Slots) (order : List (Key × SlotNo)) (key : Key) (item : Option ItemAttributes) → IsIndexed old order → keys_of new ≡ keys_of old
    → ((q : Key) → lookup (is_same_key q) new ≡ cond (is_same_key key q) (Some item) (lookup (is_same_key q) old))
    → is_some (lookup (is_same_key key) old) ≡ true → IsIndexed new order
swapped_indexed old new order key item i same h there = record {
  unique = subst (IsDistinct is_same_key) (sym same) i.unique;
  numbered = λ q n f. ap (λ ks. slice_get ks n.index) same ∙ i.numbered q n f;
  whole = λ q. i.whole q ∙ sym (there_by (is_same_key key q) item _ _ (h q) (λ e. subst (λ k. is_some (lookup (is_same_key k) old) ≡ true) (same_key key q e) there));
}

-- ---- a new slot

pub ok_gives : {A E : Type 0} (r : Result A E) (P : Type 0) → IsOk r → OnOk r P → P
ok_gives (Ok x) P h k = k
ok_gives (Err e) P h k = absurd (true≢false (sym h))

pub none_of : {A : Type 0} (x : Option A) → is_some x ≡ false → x ≡ None
none_of None h = refl
none_of (Some y) h = absurd (true≢false h)

pub last_key : (slots : Slots) (key : Key) → slice_get (keys_of (slots ++ (key, None) ∷ [])) (length slots) ≡ Some key
last_key [] key = refl
last_key (e ∷ es) key = last_key es key

pub earlier_key : (slots : Slots) (key : Key) (i : ℕ) (q : Key) → slice_get (keys_of slots) i ≡ Some q → slice_get (keys_of (slots ++ (key, None) ∷ [])) i ≡ Some q
earlier_key [] key i q h = cc
earlier_key (e ∷ es) key zero q h = h
earlier_key (e ∷ es) key (suc i) q h = earlier_key es key i q h

empty_by : (b : Bool) (x y : Option (Option ItemAttributes)) → x ≡ cond b (Some None) y → (b ≡ true → y ≡ None) → what_stands x ≡ what_stands y
empty_by true x y h k = ap what_stands h ∙ sym (ap what_stands (k refl))
empty_by false x y h k = ap what_stands h

-- nothing stands in a new slot
pub added_items : (old new : Slots) (key : Key) → lookup (is_same_key key) old ≡ None
    → ((q : Key) → lookup (is_same_key q) new ≡ cond (is_same_key key q) (Some None) (lookup (is_same_key q) old))
    → items_in new ≡ items_in old
added_items old new key none h = fun_ext (λ q. empty_by (is_same_key key q) _ _ (h q) (λ e. subst (λ k. lookup (is_same_key k) old ≡ None) (same_key key q e) none))

numbered_by : (b : Bool) (key q : Key) (n slot : SlotNo) (x y : Option SlotNo) (slots : Slots) → slot.index ≡ length slots → x ≡ cond b (Some slot) y → x ≡ Some n
    → (b ≡ true → key ≡ q) → (y ≡ Some n → slice_get (keys_of slots) n.index ≡ Some q) → slice_get (keys_of (slots ++ (key, None) ∷ [])) n.index ≡ Some q
numbered_by true key q n slot x y slots at h found same old =
    let first : n ≡ slot = cc in
    ap (λ m. slice_get (keys_of (slots ++ (key, None) ∷ [])) m.index) first ∙ ap (slice_get (keys_of (slots ++ (key, None) ∷ []))) at ∙ last_key slots key ∙ ap Some (same refl)
numbered_by false key q n slot x y slots at h found same old = earlier_key slots key n.index q (old (sym h ∙ found))

there_either : (b : Bool) (slot : SlotNo) (x y : Option SlotNo) (v w : Option (Option ItemAttributes)) → x ≡ cond b (Some slot) y → v ≡ cond b (Some None) w → is_some y ≡ is_some w → is_some x ≡ is_some v
there_either true slot x y v w h k e = ap is_some h ∙ sym (ap is_some k)
there_either false slot x y v w h k e = ap is_some h ∙ e ∙ sym (ap is_some k)

-- the slots with a new one are those of the order with its number
pub added_indexed : (old new : Slots) (before after : List (Key × SlotNo)) (key : Key) (slot : SlotNo) → IsIndexed old before → slot.index ≡ length old
    → new ≡ old ++ (key, None) ∷ [] → IsDistinct is_same_key (keys_of new)
    → ((q : Key) → lookup (is_at (key_cmp q)) after ≡ cond (is_at (key_cmp key) q) (Some slot) (lookup (is_at (key_cmp q)) before))
    → ((q : Key) → lookup (is_same_key q) new ≡ cond (is_same_key key q) (Some None) (lookup (is_same_key q) old))
    → IsIndexed new after
added_indexed old new before after key slot i at is unique h k = record {
  unique = unique;
  numbered = λ q n f. ap (λ s. slice_get (keys_of s) n.index) is ∙ numbered_by (is_same_key key q) key q n slot _ _ old at (h q) f (same_key key q) (i.numbered q n);
  whole = λ q. there_either (is_same_key key q) slot _ _ _ _ (h q) (k q) (i.whole q);
}

pub added_store : (s : Store) (key : Key) (new : Slots) → has_slot_of s key ≡ false → new ≡ s.slots ++ (key, None) ∷ []
    → record { table = s.table; schema = s.schema; slots = new } ≡ with_slot s key
added_store s key new h is = rw (h, is) refl

kept_by : (b : Bool) (s : Store) (key : Key) (n : SlotNo) (q : Key) → slot_key s n ≡ Some q
    → slot_key (if b then s else record { table = s.table; schema = s.schema; slots = s.slots ++ (key, None) ∷ [] }) n ≡ Some q
kept_by true s key n q h = h
kept_by false s key n q h = earlier_key s.slots key n.index q h

-- a slot stays
pub kept_with_slot : (old new : Store) (key : Key) → new ≡ with_slot old key → (n : SlotNo) (q : Key) → slot_key old n ≡ Some q → slot_key new n ≡ Some q
kept_with_slot old new key is n q h = ap (λ s. slot_key s n) is ∙ kept_by (has_slot_of old key) old key n q h

some_map : {A B : Type 0} (f : A → B) (x : Option A) → is_some (option_map f x) ≡ is_some x
some_map f None = refl
some_map f (Some y) = refl

-- the store has a slot just where it has an entry at the number
pub has_entry : {A : Type 0} (f : A → Key × Option ItemAttributes) (r : Option A) (slots : Slots) (i : ℕ) → option_map f r ≡ slice_get slots i → is_some r ≡ is_some (slice_get (keys_of slots) i)
has_entry f r slots i h = sym (some_map f r) ∙ ap is_some h ∙ sym (some_map (λ e. e.0) (slice_get slots i)) ∙ ap is_some (sym (slice_get-map (λ e. e.0) slots i))

-- ---- the facts as the calls give them

pub some_is : {A : Type 0} (x : Option A) → IsSome x → (y : A) × (x ≡ Some y)
some_is None h = absurd (true≢false (sym h))
some_is (Some y) h = (y, refl)

pub on_err : {A E : Type 0} (r : Result A E) (P : Type 0) → P → OnErr r P
on_err (Ok x) P h = tt
on_err (Err e) P h = h

module _ {S : Type 0} (m : HashMap Key (Option ItemAttributes) S) where
  -- what stands in the slot of a key is the item of the key
  pub standing : (i : ℕ) (key : Key) (x : Option ItemAttributes) → IsUnique is_same_key m → slice_get (keys m) i ≡ Some key → slice_get (values m) i ≡ Some x
      → x ≡ items_in m.entries key
  standing i key x unique h k = sym (ap what_stands (stands m i key x unique h k))

  pub write_updates : (i : ℕ) (key : Key) (x w : Option ItemAttributes) → IsUnique is_same_key m → slice_get (keys m) i ≡ Some key → slice_get (values m) i ≡ Some x
      → (q : Key) → lookup (is_same_key q) (set_value_at m.entries i w) ≡ cond (is_same_key key q) (Some w) (lookup (is_same_key q) m.entries)
  write_updates i key x w unique h k = (updates-with_value_at m i w key_laws unique key x (entry_at m.entries i key x h k)).0

  -- the slot that a key finds is the key's
  pub found_key : (i : ℕ) (key : Key) → position (is_same_key key) (keys m) ≡ Some i → is_some (lookup (is_same_key key) m.entries) ≡ true → slice_get (keys m) i ≡ Some key
  found_key i key at there = sym (Found-position (is_same_key key) m.entries i at).key ∙ stored key m.entries there

-- ---- one slot a key

pub value_at : (slots : Slots) (i : ℕ) (key : Key) → slice_get (keys_of slots) i ≡ Some key → (x : Option ItemAttributes) × (slice_get slots i ≡ Some (key, x))
value_at [] i key h = cc
value_at (e ∷ es) zero key h =
    let same : e.0 ≡ key = cc in
    (e.1, λ j. Some (same j, e.1))
value_at (e ∷ es) (suc i) key h = value_at es i key h

position_is : (slots : Slots) (i : ℕ) (key : Key) → IsDistinct is_same_key (keys_of slots) → slice_get (keys_of slots) i ≡ Some key → position (is_same_key key) (keys_of slots) ≡ Some i
position_is slots i key unique h =
    let v = value_at slots i key h in
    index-first (is_same_key key) slots i (own_first is_same_key key_laws slots i key v.0 unique v.1)

pub one_slot : (slots : Slots) → IsDistinct is_same_key (keys_of slots) → (n m : SlotNo) (key : Key) → slice_get (keys_of slots) n.index ≡ Some key → slice_get (keys_of slots) m.index ≡ Some key → n ≡ m
one_slot slots unique n m key h k =
    let same : n.index ≡ m.index = let p = position_is slots n.index key unique h in let q = position_is slots m.index key unique k in cc in
    λ j. record { index = same j }
