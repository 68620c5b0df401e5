-- What the two queries show of a database that has the journal's table.
use Rattle.std.proofs.Common.{◌≡◌, ℕ, ℤ, pos, negsuc, ◌+◌, ◌<◌, List, [], ◌∷◌, map, length, get_or, codes, take, Bool, true, false, None, All, Contains, Ordering, Less, Equal, Greater, refl, sym, ap, subst, ◌∙◌, arith}
use Rattle.std.specs.Ordering.{is_lt, ordering_then}
use Rattle.std.specs.List.{AllByRecursion}
use Rattle.std.specs.List.Sorted.{IsPermutation, IsSorted}
use Rattle.std.proofs.lemmas.List.{get_or-map, length-map}
use Rattle.std.proofs.lemmas.Simd.{map-map}
use Rattle.std.proofs.lemmas.List.Concat.{flat_map_single}
use Rattle.std.proofs.lemmas.List.Elements.{recursion_from_All, All-map}
use Rattle.std.proofs.lemmas.List.Sorted.{IsPermutation-map, IsPermutation-sym, All-permutation, Contains-permutation, length_permutation, sorted_far, ranks_by}
use Rattle.sqlite_value.proofs.KeyLemmas.{by_key_total}
use Rattle.sqlite_value.specs.Keys.{by_key}
use Rattle.sqlite_value.specs.declared.keys.Key.{Key}
use Rattle.sqlite.specs.Collation.TheVariants.{Binary}
use Rattle.sqlite.specs.declared.types.Value.{Value}
use Rattle.sqlite.specs.declared.types.Value.TheVariants.{Null, Int}
use Rattle.sqlite.specs.Order.{Row, column, value_cmp}
use Rattle.sqlite.specs.Term.{Term, lit, col, eval_all}
use Rattle.sqlite.specs.Query.{Query, inner, end, IsAnswer, Output, output}
use Rattle.sqlite.specs.Program.{overlay}
use Rattle.sqlite.specs.Command.TheVariants.{Select}
use Rattle.sqlite.specs.Tree.{Trees}
use Rattle.sqlite_tied.specs.Compute.{everything}
use Rattle.sqlite.specs.Listing.{understood, reads_listing}
use Rattle.sqlite.specs.State.{State, Shown}
use Rattle.sqlite.proofs.Callers.{IsPlain, command_of, reads_as}
use Rattle.book_journal.specs.Table.{journal_schema}
use Rattle.book_journal.specs.Entries.{entries, shown, row_number, row_numbers, AreInOrder, IsGreatest, ShowLast}

abbrev pub last_text : List ℕ
last_text = codes "SELECT no FROM entry ORDER BY no DESC LIMIT 1"

abbrev pub all_text : List ℕ
all_text = codes "SELECT no, line FROM entry ORDER BY no"

abbrev pub key : Bool → Key
key down = record { collation = Binary; descending = down }

abbrev pub query : List Term → Bool → ℤ → Query
query shows down limit = record {
  from = inner 0 end;
  filter = [];
  group = None;
  project = shows;
  distinct = false;
  collations = [];
  order = (col 1 0, key down) ∷ [];
  limit = lit (Int limit);
  offset = lit (Int (pos 0));
}

abbrev pub last_query : Query
last_query = query (col 1 0 ∷ []) true (pos 1)

abbrev pub all_query : Query
all_query = query (col 1 0 ∷ col 1 2 ∷ []) false (negsuc 0)

last_is : (command_of (understood journal_schema last_text) ≡ Select (record { lets = []; body = last_query }) (codes "no" ∷ [])) × (reads_listing journal_schema last_text ≡ false)
unfolding understood everything
last_is = (refl, refl)

all_is : (command_of (understood journal_schema all_text) ≡ Select (record { lets = []; body = all_query }) (codes "no" ∷ codes "line" ∷ [])) × (reads_listing journal_schema all_text ≡ false)
unfolding understood everything
all_is = (refl, refl)

pub last_plain : IsPlain (understood journal_schema last_text)
unfolding understood everything
last_plain = (refl, refl)

pub all_plain : IsPlain (understood journal_schema all_text)
unfolding understood everything
all_plain = (refl, refl)

-- what a row is sorted by
abbrev sorted_by : Output → Value
sorted_by o = column o.0 0

one_key : (o : Ordering) → is_lt (ordering_then o Equal) ≡ false → is_lt o ≡ false
one_key Less h = h
one_key Equal h = refl
one_key Greater h = refl

map_tied : (xs : List Output) → AllByRecursion (λ o. sorted_by o ≡ row_number o.1) xs → map sorted_by xs ≡ row_numbers (map (λ (o : Output). o.1) xs)
map_tied [] h = refl
map_tied (x ∷ xs) h = ap (λ v. v ∷ map sorted_by xs) h.0 ∙ ap (λ vs. row_number x.1 ∷ vs) (map_tied xs h.1)

module _ (shows : List Term) (down : Bool) (limit : ℤ) (first : (r : Row) → row_number (eval_all shows ([] ∷ r ∷ [])) ≡ column r 0) (db : Trees) (rows : List Row)
    (a : IsAnswer (query shows down limit) (overlay db []) [] rows) where
  abbrev out : Row → Output
  out r = (column r 0 ∷ [], eval_all shows ([] ∷ r ∷ []))

  kept_is : a.kept ≡ map out (db 0)
  kept_is = a.distinct ∙ ap (map (output (query shows down limit))) (a.grouped ∙ flat_map_single (λ r. [] ∷ r ∷ []) (db 0)) ∙ map-map _ _ (db 0)

  same : IsPermutation (map out (db 0)) a.ordered
  same = subst (λ k. IsPermutation k a.ordered) kept_is a.same

  tied : All (λ o. sorted_by o ≡ row_number o.1) a.ordered
  tied = All-permutation (λ (o : Output). sorted_by o ≡ row_number o.1) _ _ same (All-map (λ o. sorted_by o ≡ row_number o.1) out (db 0) (λ i d low. sym (first _)))

  numbers_are : map sorted_by a.ordered ≡ row_numbers (map (λ (o : Output). o.1) a.ordered)
  numbers_are = map_tied a.ordered (recursion_from_All _ a.ordered tied)

  rising : IsSorted (by_key (key down)) (map sorted_by a.ordered)
  rising k d low high =
      let e : Output = ([], []) in
      let within : k + 1 < length a.ordered = rw length-map at high in
      rw (get_or-map sorted_by a.ordered (k + 1) e d (omega (arith, within)), get_or-map sorted_by a.ordered k e d (omega (arith, within)))
      (one_key _ (a.sorted k e low within))

  shown_same : IsPermutation (map (λ r. eval_all shows ([] ∷ r ∷ [])) (db 0)) (map (λ (o : Output). o.1) a.ordered)
  shown_same = subst (λ k. IsPermutation k (map (λ (o : Output). o.1) a.ordered)) (map-map _ _ (db 0)) (IsPermutation-map (λ (o : Output). o.1) _ _ same)

  numbers_same : IsPermutation (row_numbers (entries db)) (map sorted_by a.ordered)
  numbers_same = subst (λ k. IsPermutation k (map sorted_by a.ordered)) (map-map _ _ (db 0) ∙ sym (map-map _ _ (db 0))) (IsPermutation-map sorted_by _ _ same)

no_numbers : (rows : List Row) → length (row_numbers rows) ≡ 0 → rows ≡ []
no_numbers [] h = refl
no_numbers (r ∷ rows) h = absurd (omega (arith, h))

-- the first of the entries that fall
greatest : (rows falling : List Row) (top : Row) (number : ℤ) → IsPermutation (row_numbers rows) (row_numbers (top ∷ falling)) → IsSorted (by_key (key true)) (row_numbers (top ∷ falling)) → row_number top ≡ Int number
    → IsGreatest rows number
greatest rows falling top number alike up is = record {
  held = Contains-permutation _ _ (Int number) (IsPermutation-sym _ _ alike) (0, omega arith, is);
  top = All-permutation (λ v. is_lt (value_cmp (Int number) v) ≡ false) _ _ (IsPermutation-sym _ _ alike)
      (λ i d low. subst (λ (w : Value). is_lt (value_cmp w (get_or (row_numbers (top ∷ falling)) i d)) ≡ false) is (sorted_far (λ x y. is_lt (by_key (key true) x y)) (ranks_by (by_key_total (key true)) (λ v. v)) (row_numbers (top ∷ falling)) up 0 i d (omega arith) low));
}

shows_top : (rows falling shown : List Row) → shown ≡ take 1 falling → IsPermutation (row_numbers rows) (row_numbers falling) → IsSorted (by_key (key true)) (row_numbers falling) → ShowLast rows shown
shows_top rows [] shown is same up = record { none = λ _. no_numbers rows (omega (arith, length_permutation _ _ same)); some = λ row number some. absurd (let e = rw is at some in cc); held = λ row some. absurd (let e = rw is at some in cc) }
shows_top rows (top ∷ falling) shown is same up = record {
  none = λ none. absurd (let e = rw is at none in cc);
  some = λ row number some row_is. let e : top ≡ row = (let f = rw is at some in cc) in greatest rows falling top number same up (ap row_number e ∙ row_is);
  held = λ row some. let e : top ≡ row = (let f = rw is at some in cc) in
      subst (λ (r : Row). Contains (row_numbers rows) (row_number r)) e (Contains-permutation _ _ (row_number top) (IsPermutation-sym _ _ same) (0, omega arith, refl));
}

pub shows_all : (old new : State) (rows : List Row) → old.now.schema ≡ journal_schema → Shown all_text [] old new rows → AreInOrder (entries old.now.trees) rows
shows_all old new rows has h =
    let got = (reads_as all_text [] old new journal_schema has _ all_is.0 all_plain all_is.1 rows h).answer in
    let a : IsAnswer all_query (overlay old.now.trees []) [] rows = got Null in
    let shows = col 1 0 ∷ col 1 2 ∷ [] in
    let is : rows ≡ map (λ (o : Output). o.1) a.ordered = a.shown in
    record {
      same = rw is (shown_same shows false (negsuc 0) (λ r. refl) old.now.trees rows a);
      rising = rw (is, ← numbers_are shows false (negsuc 0) (λ r. refl) old.now.trees rows a) (rising shows false (negsuc 0) (λ r. refl) old.now.trees rows a);
    }

pub shows_last : (old new : State) (rows : List Row) → old.now.schema ≡ journal_schema → Shown last_text [] old new rows → ShowLast (entries old.now.trees) rows
shows_last old new rows has h =
    let got = (reads_as last_text [] old new journal_schema has _ last_is.0 last_plain last_is.1 rows h).answer in
    let a : IsAnswer last_query (overlay old.now.trees []) [] rows = got Null in
    let shows = col 1 0 ∷ [] in
    let db = old.now.trees in
    let same = numbers_same shows true (pos 1) (λ r. refl) db rows a in
    let up = rising shows true (pos 1) (λ r. refl) db rows a in
    let are = numbers_are shows true (pos 1) (λ r. refl) db rows a in
    shows_top (entries db) (map (λ (o : Output). o.1) a.ordered) rows a.shown (rw are at same) (rw are at up)
