-- What a node keeps of its branches, told again when one of them is changed.
use Rattle.std.proofs.Common.{arith, zero, suc, ◌≡◌, ◌⊎◌, ◌<◌, ◌≤◌, ℕ, ◌+◌, ◌-◌, ◌==◌, Bool, true, false, not, inl, inr, List, [], ◌∷◌, refl, sym, ap, subst, ◌∙◌, Some, length, take, get_or, set, length-set, drop}
use Rattle.std.specs.List.{slice_get}
use Rattle.std.proofs.lemmas.Bool.{ne_eqb, lt-ltb, cases_eq}
use Rattle.std.proofs.lemmas.List.{drop_all, drop_more}
use Rattle.std.proofs.lemmas.Option.{slice_get-get_or, get_or_from_slice_get}
use Rattle.branch_tree.specs.Leading.{leading_done, is_in_turn, done_at, one_if, failures, WereCounted}
use Rattle.branch_tree.specs.Ready.{frame_is, is_done, has_failed}
use Rattle.branch_tree.specs.Tree.{Rows, frame_at}
use Rattle.branch_tree.proofs.Changes.{get_set_same, get_set_other}
use Rattle.branch_tree.proofs.Progress.{by_bool, failed_one}
use Rattle.branch_tree.proofs.Window.{not_zero}

-- ---- how many lead

pub lead_le : (kids : List Rows) → leading_done kids ≤ length kids
lead_le [] = omega arith
lead_le (kid ∷ kids) =
    by_bool (frame_is is_done (frame_at kid [])) _ (λ d. let l = lead_le kids in rw d (omega (arith, l))) (λ d. rw d (omega arith))

pub lead_knows : (kids : List Rows) (j : ℕ) → j < leading_done kids → done_at kids j ≡ true
lead_knows [] j l = absurd (omega (arith, l))
lead_knows (kid ∷ kids) zero l =
    by_bool (frame_is is_done (frame_at kid [])) _ (λ d. d) (λ d. let m = rw d at l in absurd (omega (arith, m)))
lead_knows (kid ∷ kids) (suc j) l =
    by_bool (frame_is is_done (frame_at kid [])) _ (λ d. let m = rw d at l in lead_knows kids j (omega (arith, m))) (λ d. let m = rw d at l in absurd (omega (arith, m)))

pub lead_exact : (kids : List Rows) (n : ℕ) → n < length kids → ((j : ℕ) → j < n → done_at kids j ≡ true) → done_at kids n ≡ false → n ≡ leading_done kids
lead_exact [] n l before here = absurd (omega (arith, l))
lead_exact (kid ∷ kids) zero l before here = rw here refl
lead_exact (kid ∷ kids) (suc n) l before here =
    let d : frame_is is_done (frame_at kid []) ≡ true = before 0 (omega arith) in
    rw d (ap suc (lead_exact kids n (omega (arith, l)) (λ j m. before (suc j) (omega (arith, m))) here))

pub lead_whole : (kids : List Rows) → ((j : ℕ) → j < length kids → done_at kids j ≡ true) → length kids ≡ leading_done kids
lead_whole [] before = refl
lead_whole (kid ∷ kids) before =
    let d : frame_is is_done (frame_at kid []) ≡ true = before 0 (omega arith) in
    rw d (ap suc (lead_whole kids (λ j m. before (suc j) (omega (arith, m)))))

pub done_before : (kids : List Rows) (n index : ℕ) → ((j : ℕ) → j < n → (j ≡ index → ⊥) → done_at kids j ≡ true) → (index < n → done_at kids index ≡ true) → (j : ℕ) → j < n → done_at kids j ≡ true
done_before kids n index others here j l = elim (cases_eq j index) [
  | inl e ↦ subst (λ k. done_at kids k ≡ true) (sym e) (here (omega (arith, e, l)))
  | inr ne ↦ others j l ne
]

pub cut_long : (kids : List Rows) (i : ℕ) → i ≤ leading_done kids → leading_done (take i kids) ≡ i
cut_long kids zero l = refl
cut_long [] (suc i) l = absurd (omega (arith, l))
cut_long (kid ∷ kids) (suc i) l =
    by_bool (frame_is is_done (frame_at kid [])) _ (λ d. let m = rw d at l in rw d (ap suc (cut_long kids i (omega (arith, m))))) (λ d. let m = rw d at l in absurd (omega (arith, m)))

pub cut_short : (kids : List Rows) (i : ℕ) → leading_done kids ≤ i → leading_done (take i kids) ≡ leading_done kids
cut_short kids zero l = omega (arith, l)
cut_short [] (suc i) l = refl
cut_short (kid ∷ kids) (suc i) l =
    by_bool (frame_is is_done (frame_at kid [])) _ (λ d. let m = rw d at l in rw d (ap suc (cut_short kids i (omega (arith, m))))) (λ d. rw d refl)

pub turn_early : (bound i : ℕ) → is_in_turn bound i i ≡ true
turn_early bound i =
    let none : i - i ≡ 0 = omega arith in
    by_bool (bound == 0) _ (λ z. rw z refl) (λ z. rw (z, none, lt-ltb 0 bound (not_zero bound z)) refl)

-- ---- how many have failed

pub fail_le : (kids : List Rows) → failures kids ≤ length kids
fail_le [] = omega arith
fail_le (kid ∷ kids) =
    let l = fail_le kids in
    by_bool (frame_is has_failed (frame_at kid [])) _ (λ d. rw d (omega (arith, l))) (λ d. rw d (omega (arith, l)))

pub fail_any : (kids : List Rows) → not (failures kids == 0) ≡ failed_one kids
fail_any [] = refl
fail_any (kid ∷ kids) =
    let l = fail_any kids in
    by_bool (frame_is has_failed (frame_at kid [])) _ (λ d. rw (d, ne_eqb (1 + failures kids) 0 (λ e. absurd (omega (arith, e)))) refl) (λ d. let z : 0 + failures kids ≡ failures kids = omega arith in rw (d, z) l)

pub fail_set : (kids : List Rows) (i : ℕ) (old new : Rows) → i < length kids → old ≡ get_or kids i old
    → failures (set kids i new) + one_if (frame_is has_failed (frame_at old [])) ≡ failures kids + one_if (frame_is has_failed (frame_at new []))
fail_set [] i old new l k = absurd (omega (arith, l))
fail_set (kid ∷ kids) zero old new l k =
    let e : one_if (frame_is has_failed (frame_at old [])) ≡ one_if (frame_is has_failed (frame_at kid [])) = ap (λ x. one_if (frame_is has_failed (frame_at x []))) k in
    omega (arith, e)
fail_set (kid ∷ kids) (suc i) old new l k =
    let r = fail_set kids i old new (omega (arith, l)) k in
    omega (arith, r)

pub fail_on : (kids : List Rows) (i : ℕ) (kid : Rows) (failed : ℕ) (is : Bool) → i < length kids → kid ≡ get_or kids i kid → is ≡ frame_is has_failed (frame_at kid [])
    → failed + failures (drop i kids) ≡ failures kids → (failed + one_if is) + failures (drop (i + 1) kids) ≡ failures kids
fail_on kids i kid failed is l k d h =
    let same : one_if is ≡ one_if (frame_is has_failed (frame_at (get_or kids i kid) [])) = ap one_if (d ∙ ap (λ x. frame_is has_failed (frame_at x [])) k) in
    let here : failures (drop i kids) ≡ one_if (frame_is has_failed (frame_at (get_or kids i kid) [])) + failures (drop (i + 1) kids) = ap failures (drop_more kids i kid l) in
    omega (arith, here, h, same)

pub fail_over : (kids : List Rows) (i failed : ℕ) → length kids ≤ i → failed + failures (drop i kids) ≡ failures kids → failed ≡ failures kids
fail_over kids i failed l h =
    let here : failures (drop i kids) ≡ 0 = ap failures (drop_all i kids l) in
    omega (arith, here, h)

-- ---- one branch is changed

pub other_done : (kids before : List Rows) (new : Rows) (i j : ℕ) → kids ≡ set before i new → (j ≡ i → ⊥) → done_at before j ≡ true → done_at kids j ≡ true
other_done kids before new i j e ne d =
    let s : slice_get kids j ≡ slice_get before j = ap (λ (ks : List Rows). slice_get ks j) e ∙ get_set_other before i j new (λ f. ne (sym f)) in
    rw s d

pub done_here : (kids : List Rows) (i : ℕ) (kid : Rows) (done : Bool) → i < length kids → kid ≡ get_or kids i kid → done ≡ frame_is is_done (frame_at kid []) → done_at kids i ≡ done
done_here kids i kid done l k d =
    let s : slice_get kids i ≡ Some kid = slice_get-get_or kids i kid l ∙ ap Some (sym k) in
    rw s (sym d)

set_gives : (before kids : List Rows) (i : ℕ) (put new : Rows) → i < length before → kids ≡ set before i put → new ≡ get_or kids i new → put ≡ new
set_gives before kids i put new l e k =
    let s : slice_get kids i ≡ Some put = ap (λ (ks : List Rows). slice_get ks i) e ∙ get_set_same before i put l in
    sym (k ∙ get_or_from_slice_get kids i put new s)

some_failed : (kids : List Rows) (i : ℕ) (kid : Rows) → i < length kids → kid ≡ get_or kids i kid → frame_is has_failed (frame_at kid []) ≡ true → 1 ≤ failures kids
some_failed [] i kid l k h = absurd (omega (arith, l))
some_failed (one ∷ kids) zero kid l k h =
    let e : frame_is has_failed (frame_at one []) ≡ true = ap (λ x. frame_is has_failed (frame_at x [])) (sym k) ∙ h in
    rw e (omega arith)
some_failed (one ∷ kids) (suc i) kid l k h = let s = some_failed kids i kid (omega (arith, l)) k h in omega (arith, s)

-- what a change asks for and what it gives
module _ (kids : List Rows) (done lost index : ℕ) (was : Bool) (w : WereCounted kids done lost index was) where
  were_fit : done ≤ length w.0
  were_fit = let l = lead_le w.0 in omega (arith, w.7.leading, l)

  pub lead_fits : done ≤ length kids
  lead_fits = let e : length kids ≡ length w.0 = ap length w.6 ∙ length-set w.0 index w.2 in let f = were_fit in omega (arith, e, f)

  pub index_fits : index < length kids
  index_fits = let e : length kids ≡ length w.0 = ap length w.6 ∙ length-set w.0 index w.2 in omega (arith, e, w.3)

  pub others_done : (j : ℕ) → j < done → (j ≡ index → ⊥) → done_at kids j ≡ true
  others_done j l ne = other_done kids w.0 w.2 index j w.6 ne (lead_knows w.0 j (omega (arith, l, w.7.leading)))

  fails_are : (new : Rows) → new ≡ get_or kids index new → failures kids + one_if was ≡ lost + one_if (frame_is has_failed (frame_at new []))
  fails_are new k =
      let same : w.2 ≡ new = set_gives w.0 kids index w.2 new w.3 w.6 k in
      let s = fail_set w.0 index w.1 w.2 w.3 w.4 in
      let a : failures kids ≡ failures (set w.0 index w.2) = ap failures w.6 in
      let b : one_if was ≡ one_if (frame_is has_failed (frame_at w.1 [])) = ap one_if w.5 in
      let c : one_if (frame_is has_failed (frame_at w.2 [])) ≡ one_if (frame_is has_failed (frame_at new [])) = ap (λ x. one_if (frame_is has_failed (frame_at x []))) same in
      omega (arith, s, a, b, c, w.7.failed)

  pub fail_held : was ≡ true → 1 ≤ lost
  fail_held h =
      let s = some_failed w.0 index w.1 w.3 w.4 (sym w.5 ∙ h) in
      omega (arith, s, w.7.failed)

  pub fail_same : (new : Rows) (is : Bool) (others : ℕ) → new ≡ get_or kids index new → is ≡ frame_is has_failed (frame_at new []) → others + one_if was ≡ lost → others + one_if is ≡ failures kids
  fail_same new is others k d h =
      let f = fails_are new k in
      let e : one_if is ≡ one_if (frame_is has_failed (frame_at new [])) = ap one_if d in
      omega (arith, f, e, h)

-- how many of the others have failed
pub others_are : (others lost : ℕ) (was : Bool) → ((was ≡ true) × (others ≡ lost - 1)) ⊎ ((was ≡ false) × (others ≡ lost)) → (was ≡ true → 1 ≤ lost) → others + one_if was ≡ lost
others_are others lost true (inl h) held = let l = held refl in omega (arith, h.1, l)
others_are others lost true (inr h) held = let e = h.0 in cc
others_are others lost false (inl h) held = let e = h.0 in cc
others_are others lost false (inr h) held = omega (arith, h.1)
