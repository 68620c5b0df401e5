-- What a journal keeps true, through its calls.
use Rattle.std.proofs.Common.{◌≡◌, inl, inr, ℕ, ℤ, pos, ◌+ℤ◌, List, [], ◌∷◌, ◌++◌, map, length, false, Option, Some, None, IsTrue, All, Ordering, Less, Equal, Greater, int_cmp, refl, sym, ap, subst, ◌∙◌, arith}
use Rattle.std.specs.Ordering.{is_lt}
use Rattle.std.specs.List.{AllByRecursion}
use Rattle.std.specs.List.Sorted.{IsPermutation}
use Rattle.std.proofs.lemmas.List.{append_assoc, append-nil, map-append}
use Rattle.std.proofs.lemmas.List.Elements.{All-append, All-cons, Contains-append_right, recursion_from_All, All-map}
use Rattle.std.proofs.lemmas.Cmp.{tied_itself}
use Rattle.std.proofs.lemmas.Int.{ints}
use Rattle.std.proofs.lemmas.Bool.Decides.{nat_tests}
use Rattle.std.proofs.lemmas.List.Sorted.{IsPermutation-map, IsPermutation-sym, IsPermutation-trans, IsPermutation-append_left, All-permutation, Contains-permutation, length_permutation}
use Rattle.sqlite_value.proofs.OrderLemmas.{value_cmp_total, value_cmp-Int}
use Rattle.sqlite.specs.declared.types.Value.{Value}
use Rattle.sqlite.specs.declared.types.Value.TheVariants.{Int}
use Rattle.sqlite.specs.Order.{Row, value_cmp}
use Rattle.sqlite.specs.Tree.{Trees}
use Rattle.sqlite.specs.Effect.{Database}
use Rattle.sqlite.specs.Store.{Ghosts}
use Rattle.sqlite.specs.Held.{Held, state}
use Rattle.sqlite.specs.State.{State, HasCleanDisk, Survives}
use Rattle.sqlite.proofs.StateLemmas.{survives_weaker}
use Rattle.book_journal.specs.Change.{IsBack, IsAppended, HasAppended}
use Rattle.book_journal.specs.Entries.{entries, entry, numbered, row_numbers, row_number, number_after, last_after, pair, shown, IsLastNumber, IsGreatest, AddLines, AreInOrder, HoldLines, HaveGap, HaveGapAt}
use Rattle.book_journal.specs.Kept.{lines_in, IsKept, IsAtRest, IsSame, LeavesAllOrNone, MayAdd}

pub at_rest : {S : Type 0} (g : Ghosts S) → ((s : S) (db : Trees) → IsTrue (g.view s).is_open → g.recovers s db → db ≡ (g.view s).committed) → (h : Held S) (last : Option ℤ) → IsKept (state g h) last
    → IsAtRest (state g h)
at_rest g settled h last kept clean up trees may = settled h.store trees up may ∙ ap (λ (d : Database). d.trees) (kept.kept clean up).1

-- ---- the last number

same_rows : (rows new : List Row) (last : Option ℤ) → IsPermutation rows new → IsLastNumber rows last → IsLastNumber new last
same_rows rows [] None same h = refl
same_rows rows (r ∷ new) None same h = absurd (omega (arith, length_permutation _ _ same, ap length h))
same_rows rows new (Some number) same h = record {
  held = Contains-permutation _ _ (Int number) (IsPermutation-map row_number _ _ same) h.held;
  top = All-permutation (λ v. is_lt (value_cmp (Int number) v) ≡ false) _ _ (IsPermutation-map row_number _ _ same) h.top;
}

lower_is : (n : ℤ) → value_cmp (Int n) (Int (n +ℤ pos 1)) ≡ Less
lower_is n = value_cmp-Int n (n +ℤ pos 1) ∙ grind (arith, ints, nat_tests)

not_below : (o p : Ordering) → (p ≡ Less → o ≡ Less) → is_lt o ≡ false → is_lt p ≡ false
not_below o Less f h = absurd (let e = rw (f refl) at h in cc)
not_below o Equal f h = refl
not_below o Greater f h = refl

own_not_below : (n : ℤ) → is_lt (value_cmp (Int n) (Int n)) ≡ false
own_not_below n = rw (tied_itself value_cmp_total (Int n)) refl

above : (n : ℤ) (v : Value) → is_lt (value_cmp (Int n) v) ≡ false → is_lt (value_cmp (Int (n +ℤ pos 1)) v) ≡ false
above n v h = not_below (value_cmp (Int n) v) (value_cmp (Int (n +ℤ pos 1)) v) (λ less. value_cmp_total.trans (Int n) (Int (n +ℤ pos 1)) v (lower_is n) less) h

alone : (n : ℤ) → All (λ v. is_lt (value_cmp (Int n) v) ≡ false) (Int n ∷ [])
alone n = All-cons (λ v. is_lt (value_cmp (Int n) v) ≡ false) (Int n) [] (own_not_below n) (λ k d low. absurd (omega (arith, low)))

one_greatest : (rows : List Row) (last : Option ℤ) (line : List ℕ) → IsLastNumber rows last → IsGreatest (rows ++ entry (number_after last) line ∷ []) (number_after last)
one_greatest rows None line h = subst (λ (rs : List Row). IsGreatest (rs ++ entry (pos 0) line ∷ []) (pos 0)) (sym h) (record { held = (0, omega arith, refl); top = alone (pos 0) })
one_greatest rows (Some number) line h =
    let next = number +ℤ pos 1 in record {
      held = rw (map-append row_number rows (entry next line ∷ [])) (Contains-append_right (row_numbers rows) (Int next ∷ []) (Int next) (0, omega arith, refl));
      top = rw (map-append row_number rows (entry next line ∷ [])) (All-append (λ v. is_lt (value_cmp (Int next) v) ≡ false) (row_numbers rows) (Int next ∷ []) (λ k d low. above number _ (h.top k d low)) (alone next));
    }

grown : (rows : List Row) (last : Option ℤ) (lines : List (List ℕ)) → IsLastNumber rows last → IsLastNumber (rows ++ numbered (number_after last) lines) (last_after last lines)
grown rows last [] h = subst (λ (rs : List Row). IsLastNumber rs last) (sym (append-nil rows)) h
grown rows last (line ∷ lines) h =
    let one = entry (number_after last) line in
    subst (λ (rs : List Row). IsLastNumber rs (last_after (Some (number_after last)) lines)) (append_assoc rows (one ∷ []) (numbered (number_after last +ℤ pos 1) lines))
    (grown (rows ++ one ∷ []) (Some (number_after last)) lines (one_greatest rows last line h))

-- ---- the calls

pub back_kept : (old new : State) (last : Option ℤ) → IsKept old last → (HasCleanDisk new → HasCleanDisk old) → new.in_transaction ≡ false → (HasCleanDisk new → IsBack old new) → IsKept new last
back_kept old new last kept clean mode back = record {
  mode = mode;
  kept = λ now up.
      let b = back now up in
      let k = kept.kept (clean now) b.0 in
      let same : new.now ≡ old.now = b.1 ∙ k.1 in
      (ap (λ (d : Database). d.schema) same ∙ k.0, b.2 ∙ sym b.1, subst (λ (d : Database). IsLastNumber (entries d.trees) last) (sym same) k.2);
}

pub back_same : (old new : State) (last : Option ℤ) → IsKept old last → (HasCleanDisk new → HasCleanDisk old) → HasCleanDisk new → IsBack old new → IsSame old new
back_same old new last kept clean now back up = let b = back up in (b.0, b.1 ∙ (kept.kept (clean now) b.0).1)

pub appended_kept : (old new : State) (last : Option ℤ) (lines : List (List ℕ)) → IsKept old last → (HasCleanDisk new → HasCleanDisk old) → new.in_transaction ≡ false
    → (HasCleanDisk new → IsAppended old new (numbered (number_after last) lines)) → IsKept new (last_after last lines)
appended_kept old new last lines kept clean mode appended = record {
  mode = mode;
  kept = λ now up.
      let a = appended now in
      let k = kept.kept (clean now) a.was_open in
      (a.schema, a.committed, same_rows _ _ (last_after last lines) a.rows (grown (lines_in old) last lines k.2));
}

pub appended_adds : (old new : State) (last : Option ℤ) (lines : List (List ℕ)) → IsKept old last → (HasCleanDisk new → HasCleanDisk old) → HasCleanDisk new
    → IsAppended old new (numbered (number_after last) lines) → AddLines (lines_in old) lines (lines_in new)
appended_adds old new last lines kept clean now a = record { last = last; is_last = (kept.kept (clean now) a.was_open).2; added = a.rows }

pub leaves_all_or_none : (old new : State) (last : Option ℤ) (lines : List (List ℕ)) → IsKept old last → IsAtRest old → Survives old new (HasAppended old (numbered (number_after last) lines))
    → LeavesAllOrNone old lines new
leaves_all_or_none old new last lines kept rest survives now up trees may =
    let clean : HasCleanDisk old = omega (arith, survives.clean, now) in
    let k = kept.kept clean up in
    elim (survives.crash now trees may) [
      | inl before ↦ inl (ap entries (rest clean up trees before))
      | inr after ↦ inr (record { last = last; is_last = k.2; added = after k.0 })
    ]

pub may_add : (old new : State) (last : Option ℤ) (lines : List (List ℕ)) → IsKept old last → Survives old new (HasAppended old (numbered (number_after last) lines)) → Survives old new (MayAdd old lines)
may_add old new last lines kept =
    survives_weaker old new _ _ (λ _ trees appended clean up. let k = kept.kept clean up in record { last = last; is_last = k.2; added = appended k.0 })

-- ---- lines after lines

split : (last : Option ℤ) (lines more : List (List ℕ)) → numbered (number_after last) (lines ++ more) ≡ numbered (number_after last) lines ++ numbered (number_after (last_after last lines)) more
split last [] more = refl
split last (line ∷ lines) more = ap (λ rows. entry (number_after last) line ∷ rows) (split (Some (number_after last)) lines more)

least_two : (a b : ℤ) → is_lt (value_cmp (Int a) (Int b)) ≡ false → is_lt (value_cmp (Int b) (Int a)) ≡ false → a ≡ b
least_two a b p q =
    let p' : is_lt (int_cmp a b) ≡ false = ap is_lt (sym (value_cmp-Int a b)) ∙ p in
    let q' : is_lt (int_cmp b a) ≡ false = ap is_lt (sym (value_cmp-Int b a)) ∙ q in
    grind (arith, ints, nat_tests)

one_last : (rows : List Row) (a b : Option ℤ) → IsLastNumber rows a → IsLastNumber rows b → a ≡ b
one_last rows None None p q = refl
one_last rows None (Some n) p q = absurd (omega (arith, ap (λ (rs : List Row). length (row_numbers rs)) p, q.held.1))
one_last rows (Some n) None p q = absurd (omega (arith, ap (λ (rs : List Row). length (row_numbers rs)) q, p.held.1))
one_last rows (Some a) (Some b) p q =
    ap (λ (n : ℤ). Some n) (least_two a b
    (subst (λ (v : Value). is_lt (value_cmp (Int a) v) ≡ false) q.held.2 (p.top q.held.0 (Int b) q.held.1))
    (subst (λ (v : Value). is_lt (value_cmp (Int b) v) ≡ false) p.held.2 (q.top p.held.0 (Int a) p.held.1)))

pub lines_added : (old new : List Row) (before lines : List (List ℕ)) → HoldLines old before → AddLines old lines new → HoldLines new (before ++ lines)
lines_added old new before lines held added =
    let last : IsLastNumber old (last_after None before) = same_rows _ old (last_after None before) held (grown [] None before refl) in
    let same : added.last ≡ last_after None before = one_last old added.last (last_after None before) added.is_last last in
    rw (split None before lines) (IsPermutation-trans _ _ _ (IsPermutation-append_left (numbered (number_after (last_after None before)) lines) (numbered (pos 0) before) old held)
    (subst (λ (l : Option ℤ). IsPermutation (old ++ numbered (number_after l) lines) new) same added.added))

-- ---- the rows that are read

pairs : (rows : List Row) → AllByRecursion (λ r. pair r ≡ r) rows → map pair rows ≡ rows
pairs [] h = refl
pairs (r ∷ rows) h = ap (λ x. x ∷ map pair rows) h.0 ∙ ap (λ xs. r ∷ xs) (pairs rows h.1)

pub read_pairs : (trees : Trees) (rows : List Row) → AreInOrder (entries trees) rows → map pair rows ≡ rows
read_pairs trees rows order =
    pairs rows (recursion_from_All _ rows (All-permutation (λ (r : Row). pair r ≡ r) _ _ order.same (All-map (λ (r : Row). pair r ≡ r) shown (trees 0) (λ k d low. refl))))

pub read_lines : (trees : Trees) (rows : List Row) (lines : List (List ℕ)) → AreInOrder (entries trees) rows → map pair rows ≡ numbered (pos 0) lines → HoldLines (entries trees) lines
read_lines trees rows lines order is =
    IsPermutation-sym _ _ (subst (λ (rs : List Row). IsPermutation (entries trees) rs) (sym (read_pairs trees rows order) ∙ is) order.same)

pub read_gap : (trees : Trees) (rows : List Row) (n : ℕ) → AreInOrder (entries trees) rows → HaveGapAt n (map pair rows) → HaveGap (entries trees) n
read_gap trees rows n order gap = (rows, order, subst (HaveGapAt n) (read_pairs trees rows order) gap)
