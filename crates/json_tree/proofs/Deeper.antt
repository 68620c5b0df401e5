-- How deep a list or some fields nest once a value in them is another, or one is there more or less.
use Rattle.std.proofs.Common.{◌≡◌, ℕ, zero, suc, max, List, [], ◌∷◌, ◌++◌, Option, None, Some, Bool, true, false, cond, is_eq, arith, refl, sym, ◌∙◌, slice_get, slice_set, Ordering, Less, Equal, Greater}
use Rattle.std.proofs.lemmas.Cmp.{nat_list_cmp_total}
use Rattle.std.proofs.lemmas.Map.{lookup-none}
use Rattle.std.proofs.lemmas.Map.Entries.{none_below_head}
use Rattle.std.specs.BTreeMap.{is_at}
use Rattle.std.specs.List.Sorted.{IsStrictlySortedBy}
use Rattle.std.specs.Ordering.{match_ordering}
use Rattle.json_tree.specs.Data.{Data, depth, list_depth, fields_depth}
use Rattle.json_tree.specs.Fields.{text_cmp, get_field, with_field, without_field, IsInNameOrder}

pub with_last : (ds : List Data) (d : Data) → list_depth (ds ++ d ∷ []) ≡ max (depth d) (list_depth ds)
with_last [] d = omega arith
with_last (e ∷ ds) d = omega (arith, with_last ds d)

with_new_at : (o : Ordering) (name : List ℕ) (d : Data) (m : List ℕ × Data) (ms rest : List (List ℕ × Data)) (found : Option Data)
    → cond (is_eq o) (Some m.1) found ≡ None → (found ≡ None → fields_depth rest ≡ max (depth d) (fields_depth ms))
    → fields_depth (match_ordering o ((name, d) ∷ m ∷ ms) ((m.0, d) ∷ ms) (m ∷ rest)) ≡ max (depth d) (max (depth m.1) (fields_depth ms))
with_new_at Less name d m ms rest found h k = refl
with_new_at Equal name d m ms rest found h k = cc
with_new_at Greater name d m ms rest found h k = omega (arith, k h)

-- a field of a new name
pub with_new : (name : List ℕ) (d : Data) (ms : List (List ℕ × Data)) → get_field name ms ≡ None → fields_depth (with_field name d ms) ≡ max (depth d) (fields_depth ms)
with_new name d [] h = omega arith
with_new name d (m ∷ ms) h = with_new_at (text_cmp name m.0) name d m ms (with_field name d ms) (get_field name ms) h (with_new name d ms)

without_at : (b : Bool) (m : List ℕ × Data) (ms rest : List (List ℕ × Data)) (found : Option Data) (old : Data)
    → cond b (Some m.1) found ≡ Some old → (found ≡ Some old → fields_depth ms ≡ max (depth old) (fields_depth rest))
    → max (depth m.1) (fields_depth ms) ≡ max (depth old) (fields_depth (cond b ms (m ∷ rest)))
without_at true m ms rest found old h k =
    let one : m.1 ≡ old = cc h in
    rw one refl
without_at false m ms rest found old h k = omega (arith, k h)

-- fields beside one of them
pub without_one : (name : List ℕ) (ms : List (List ℕ × Data)) (old : Data) → get_field name ms ≡ Some old → fields_depth ms ≡ max (depth old) (fields_depth (without_field name ms))
without_one name [] old h = cc h
without_one name (m ∷ ms) old h = without_at (is_eq (text_cmp name m.0)) m ms (without_field name ms) (get_field name ms) old h (without_one name ms old)

tail_order : (m : List ℕ × Data) (ms : List (List ℕ × Data)) → IsInNameOrder (m ∷ ms) → IsInNameOrder ms
unfolding IsStrictlySortedBy
tail_order m ms h = h.1

with_old_at : (o : Ordering) (name : List ℕ) (d : Data) (m : List ℕ × Data) (ms : List (List ℕ × Data)) (old : Data) → text_cmp name m.0 ≡ o → IsInNameOrder (m ∷ ms) → get_field name (m ∷ ms) ≡ Some old
    → (get_field name ms ≡ Some old → fields_depth (with_field name d ms) ≡ max (depth d) (fields_depth (without_field name ms)))
    → fields_depth (with_field name d (m ∷ ms)) ≡ max (depth d) (fields_depth (without_field name (m ∷ ms)))
with_old_at Less name d m ms old is sorted has rest =
    let none : get_field name (m ∷ ms) ≡ None = lookup-none (is_at (text_cmp name)) (m ∷ ms) (none_below_head nat_list_cmp_total name m ms sorted is) in
    let no : Some old ≡ None = sym has ∙ none in
    cc no
with_old_at Equal name d m ms old is sorted has rest = rw is refl
with_old_at Greater name d m ms old is sorted has rest =
    let later : get_field name ms ≡ Some old = rw is at has in
    rw is (omega (arith, rest later))

-- another value at a name that is there
pub with_old : (name : List ℕ) (d : Data) (ms : List (List ℕ × Data)) (old : Data) → IsInNameOrder ms → get_field name ms ≡ Some old
    → fields_depth (with_field name d ms) ≡ max (depth d) (fields_depth (without_field name ms))
with_old name d [] old sorted has = cc
with_old name d (m ∷ ms) old sorted has = with_old_at (text_cmp name m.0) name d m ms old refl sorted has (with_old name d ms old (tail_order m ms sorted))

-- a list without the value at an index nests so deep
abbrev pub beside : ℕ → List Data → ℕ
beside i [] = 0
beside zero (d ∷ ds) = list_depth ds
beside (suc i) (d ∷ ds) = max (depth d) (beside i ds)

pub beside_one : (i : ℕ) (ds : List Data) (old : Data) → slice_get ds i ≡ Some old → list_depth ds ≡ max (depth old) (beside i ds)
beside_one i [] old h = cc h
beside_one zero (d ∷ ds) old h =
    let one : d ≡ old = cc h in
    rw one refl
beside_one (suc i) (d ∷ ds) old h = omega (arith, beside_one i ds old h)

-- another value at an index
pub with_item : (i : ℕ) (ds : List Data) (old d : Data) → slice_get ds i ≡ Some old → list_depth (slice_set ds i d) ≡ max (depth d) (beside i ds)
with_item i [] old d h = cc h
with_item zero (e ∷ ds) old d h = refl
with_item (suc i) (e ∷ ds) old d h = omega (arith, with_item i ds old d h)
