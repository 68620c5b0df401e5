-- Steps that were found, one by one; and at which places no step depends directly on one of them.
use Rattle.std.proofs.Common.{◌≡◌, ◌<◌, ◌≤◌, ◌+◌, arith, ℕ, zero, suc, Bool, true, false, cond, All, List, [], ◌∷◌, ◌++◌, ◌-◌, drop, get_or, length, reverse, Option, None, Some, refl, ap, ap₂, sym, subst, ◌∙◌, inl, inr, ◌⊎◌}
use Rattle.std.specs.Prelude.{◌||◌, slice_get, option_map}
use Rattle.std.specs.List.{count_by, list_any}
use Rattle.std.proofs.Math.Seq.{drop-cons}
use Rattle.std.proofs.lemmas.List.{length-append, map-append}
use Rattle.std.proofs.lemmas.List.Elements.{All-push}
use Rattle.std.proofs.lemmas.List.Folds.{list_any-append}
use Rattle.std.proofs.lemmas.List.Sorted.{IsPermutation-reverse, list_any-IsPermutation}
use Rattle.std.proofs.lemmas.List.Sums.{sum_by-cons}
use Rattle.std.proofs.lemmas.Option.{get_or_from_slice_get, same_Some, slice_get-map, slice_get_within}
use Rattle.saved_steps.specs.declared.fact.Fact.{Fact}
use Rattle.saved_steps.specs.declared.record.StepRecord.{StepRecord}
use Rattle.depends.specs.Dependence.{depends_directly}
use Rattle.depends.specs.Plans.{consequences_at, depends_on, depends_on_some}
use Rattle.depends.specs.Marks.{AreMarksOf}
use Rattle.step_index.specs.Due.{AreDue, IsFurther, HasOpenClasses, IsPlaceTaken, is_due}
use Rattle.step_index.specs.Finding.{AreFound, IsFree, IsNextDue, IsNextDueAt, pick, records_at}
use Rattle.step_index.specs.Near.{is_near, shares, shares_at}
use Rattle.step_index.specs.Walks.{needed_by}
use Rattle.step_index.specs.declared.found.FoundSteps.{FoundSteps}
use Rattle.step_index.proofs.Opened.{due_if_needed, open_kept}
use Rattle.step_index.proofs.Listed.{there}
use Rattle.step_index.proofs.Queued.{or_true}
use Rattle.step_index.proofs.Following.{IsPassedOn, any_none, facts, finished, found_from, passed_on, skipped}

-- ---- the records at some places

any_in_facts : (later : Fact) (rs : List StepRecord) → list_any (λ g. depends_directly g later) (facts rs) ≡ list_any (needed_by later) rs
any_in_facts later [] = refl
any_in_facts later (r ∷ rs) = ap (λ b. depends_directly r.fact later || b) (any_in_facts later rs)

module _ (rs : List StepRecord) where
  picked_more : (places : List ℕ) (p : ℕ) (r : StepRecord) → slice_get rs p ≡ Some r → records_at rs (places ++ p ∷ []) ≡ records_at rs places ++ r ∷ []
  picked_more [] p r is = ap (λ o. pick o []) is
  picked_more (q ∷ places) p r is = ap (pick (slice_get rs q)) (picked_more places p r is) ∙ then (slice_get rs q) (records_at rs places)
    where
      then : (o : Option StepRecord) (l : List StepRecord) → pick o (l ++ r ∷ []) ≡ pick o l ++ r ∷ []
      then None l = refl
      then (Some x) l = refl

  rest : (q : ℕ) (places : List ℕ) → All (λ p. p < length rs) (q ∷ places) → All (λ p. p < length rs) places
  rest q places within = λ i d l. within (suc i) d (omega (arith, l))

  picked_any : (places : List ℕ) (later : Fact) → All (λ p. p < length rs) places → depends_on_some (facts rs) places later ≡ list_any (needed_by later) (records_at rs places)
  picked_any [] later within = refl
  picked_any (q ∷ places) later within =
      let r = there rs q (within 0 0 (omega arith)) in
      let fact = slice_get-map (λ (x : StepRecord). x.fact) rs q ∙ ap (option_map (λ (x : StepRecord). x.fact)) r.1 in
      ap₂ (λ (o : Option Fact) (b : Bool). depends_on o later || b) fact (picked_any places later (rest q places within)) ∙ ap (λ o. list_any (needed_by later) (pick o (records_at rs places))) (sym r.1)

  -- what is told of the records at some places is told of the places
  pub decided : (places : List ℕ) (later : Fact) (b : Bool) → All (λ p. p < length rs) places → b ≡ list_any (λ g. depends_directly g later) (facts (records_at rs places)) → b ≡ depends_on_some (facts rs) places later
  decided places later b within e = e ∙ any_in_facts later (records_at rs places) ∙ sym (picked_any places later within)

-- ---- what was found, and one more

pub none_found : (rs : List StepRecord) (from : ℕ) (s : FoundSteps) → s.places.items ≡ [] → AreMarksOf [] s.marks → AreDue rs from s.due → ((k : ℕ) → is_due s.due k ≡ false) → AreFound rs from s
none_found rs from s e marked due none = record {
  within = λ i d l. absurd (let x = ap length e in omega (arith, l, x));
  marked = subst (λ l. AreMarksOf (facts (records_at rs l)) s.marks) (sym e) marked;
  due = due;
  opened = λ k r is. absurd (let x : None ≡ Some r = sym (ap (λ l. slice_get (records_at rs l) k) e) ∙ is in cc);
  near = λ k g is h. absurd (let x : false ≡ true = sym (none k) ∙ h in cc);
}

-- a place in a list with one more at its end
last_or_before : (xs : List StepRecord) (y x : StepRecord) (k : ℕ) → slice_get (xs ++ y ∷ []) k ≡ Some x → (slice_get xs k ≡ Some x) ⊎ (y ≡ x)
last_or_before [] y x zero is = inr (same_Some y x is)
last_or_before [] y x (suc k) is = absurd (let e : None ≡ Some x = is in cc)
last_or_before (z ∷ xs) y x zero is = inl is
last_or_before (z ∷ xs) y x (suc k) is = last_or_before xs y x k is

pub more_found : (rs : List StepRecord) (s t : FoundSteps) (place : ℕ) (r : StepRecord) → slice_get rs place ≡ Some r → t.places.items ≡ s.places.items ++ place ∷ []
    → (AreMarksOf (facts (records_at rs s.places.items)) s.marks → AreMarksOf (facts (records_at rs s.places.items) ++ r.fact ∷ []) t.marks)
    → HasOpenClasses t.due r.fact → IsFurther (shares r.fact) rs place s.due t.due → AreFound rs (place + 1) s → AreFound rs (place + 1) t
more_found rs s t place r at added marks opened further found =
    let all = ap (records_at rs) added ∙ picked_more rs s.places.items place r at in
    record {
      within = subst (All (λ p. p < length rs)) (sym added) (All-push (λ p. p < length rs) s.places.items place found.within (slice_get_within rs place r at));
      marked = subst (λ l. AreMarksOf l t.marks) (sym (ap facts all ∙ map-append (λ (x : StepRecord). x.fact) (records_at rs s.places.items) (r ∷ []))) (marks found.marked);
      due = further.due found.due;
      opened = λ k x is. elim (last_or_before (records_at rs s.places.items) r x k (sym (ap (λ l. slice_get l k) all) ∙ is)) [
        | inl h ↦ open_kept s.due t.due x.fact further.kept (found.opened k x h)
        | inr e ↦ subst (λ (y : StepRecord). HasOpenClasses t.due y.fact) e opened
      ];
      near = λ k g is h. ap (λ l. is_near rs l g) added ∙ list_any-append (λ p. shares_at (slice_get rs p) g) s.places.items (place ∷ []) ∙ elim (further.grown.others k h) [
        | inl x ↦ ap (λ b. b || (shares_at (slice_get rs place) g || false)) (found.near k g is x)
        | inr x ↦ or_true (is_near rs s.places.items g) (shares_at (slice_get rs place) g || false) (ap (λ o. shares_at o g || false) at ∙ ap (λ b. b || false) (x g is))
      ];
    }

-- ---- a place that is not due

pub not_due : (rs : List StepRecord) (from : ℕ) (s : FoundSteps) (k : ℕ) → AreFound rs from s → from ≤ k → is_due s.due k ≡ false → IsFree rs s.places.items k
not_due rs from s k found late free g is = picked_any rs s.places.items g.fact found.within ∙ any_none (needed_by g.fact) fs (λ i f at. on i f at (needed_by g.fact f) refl)
  where
    fs : List StepRecord
    fs = records_at rs s.places.items

    on : (i : ℕ) (f : StepRecord) → slice_get fs i ≡ Some f → (b : Bool) → needed_by g.fact f ≡ b → needed_by g.fact f ≡ false
    on i f at false e = e
    on i f at true e = absurd (let x : false ≡ true = sym free ∙ due_if_needed rs from s.due found.due k g is late f (found.opened i f at) e in cc)

-- the least due place is the next at which a step may depend directly on one of them
pub next_due : (rs : List StepRecord) (from : ℕ) (s t : FoundSteps) (r : Option ℕ) → AreFound rs from s → t.places.items ≡ s.places.items → AreMarksOf (facts (records_at rs s.places.items)) t.marks → IsPlaceTaken rs from s.due t.due r → IsNextDue rs from s t r
next_due rs from s t None found same marks taken = λ k late. not_due rs from s k found late (taken k)
next_due rs from s t (Some place) found same marks taken = record {
  low = taken.low;
  within = taken.within;
  free = λ k late before. not_due rs from s k found late (taken.least k before);
  near = λ g is. found.near place g is taken.there;
  found = record {
    within = subst (All (λ p. p < length rs)) (sym same) found.within;
    marked = subst (λ l. AreMarksOf (facts (records_at rs l)) t.marks) (sym same) marks;
    due = taken.due;
    opened = λ k r is. open_kept s.due t.due r.fact taken.kept (found.opened k r (ap (λ l. slice_get (records_at rs l) k) (sym same) ∙ is));
    near = λ k g is h. ap (λ l. is_near rs l g) same ∙ found.near k g is (taken.fewer k h);
  };
}

-- ---- up to a place all steps were found

-- looks were `before` at first, and no place was looked at twice
pub record IsUpTo (rs : List StepRecord) (at from : ℕ) (s : FoundSteps) (before looks : ℕ) : Type 0 where
  pub all : s.places.items ++ found_from rs s.places.items from ≡ consequences_at (facts rs) at
  pub found : AreFound rs from s
  pub low : from ≤ length rs
  pub few : looks + at ≤ before + from
  pub many : before + length s.places.items ≤ looks
  pub near : (q : StepRecord → Bool) → ((g : StepRecord) → is_near rs s.places.items g ≡ true → q g ≡ true) → looks + count_by q (drop from rs) ≤ (before + 1) + count_by q (drop (at + 1) rs)

-- how many pass a test from a place on
module _ (q : StepRecord → Bool) where
  count_at : (rs : List StepRecord) (i : ℕ) (g : StepRecord) → slice_get rs i ≡ Some g → count_by q (drop i rs) ≡ cond (q g) 1 0 + count_by q (drop (i + 1) rs)
  count_at rs i g is =
      let n : i + 1 ≡ suc i = omega arith in
      ap (count_by q) (drop-cons rs i g (slice_get_within rs i g is))
      ∙ sum_by-cons (λ (r : StepRecord). cond (q r) 1 0) (get_or rs i g) (drop (suc i) rs)
      ∙ ap (λ (r : StepRecord). cond (q r) 1 0 + count_by q (drop (suc i) rs)) (get_or_from_slice_get rs i g g is)
      ∙ ap (λ (k : ℕ). cond (q g) 1 0 + count_by q (drop k rs)) (sym n)

  pub count_here : (rs : List StepRecord) (i : ℕ) (g : StepRecord) → slice_get rs i ≡ Some g → q g ≡ true → count_by q (drop i rs) ≡ 1 + count_by q (drop (i + 1) rs)
  count_here rs i g is h = count_at rs i g is ∙ ap (λ b. cond b 1 0 + count_by q (drop (i + 1) rs)) h

  falls : (n i : ℕ) (rs : List StepRecord) → i + n ≤ length rs → count_by q (drop (i + n) rs) ≤ count_by q (drop i rs)
  falls zero i rs low = let e : i + 0 ≡ i = omega arith in let s = ap (λ (k : ℕ). count_by q (drop k rs)) e in omega (arith, s)
  falls (suc n) i rs low =
      let g = there rs i (omega (arith, low)) in
      let here = count_at rs i g.0 g.1 in
      let further = falls n (i + 1) rs (omega (arith, low)) in
      let e : (i + 1) + n ≡ i + suc n = omega arith in
      let s = ap (λ (k : ℕ). count_by q (drop k rs)) e in
      omega (arith, here, further, s)

  pub count_falls : (rs : List StepRecord) (i place : ℕ) → i ≤ place → place ≤ length rs → count_by q (drop place rs) ≤ count_by q (drop i rs)
  count_falls rs i place low within =
      let e : i + (place - i) ≡ place = omega (arith, low) in
      let f = falls (place - i) i rs (omega (arith, e, within)) in
      let s = ap (λ (k : ℕ). count_by q (drop k rs)) e in
      omega (arith, f, s)

pub up_to_first : (rs : List StepRecord) (at : ℕ) (s : FoundSteps) (before looks : ℕ) → at < length rs → s.places.items ≡ at ∷ [] → AreFound rs (at + 1) s → looks ≡ before + 1 → IsUpTo rs at (at + 1) s before looks
up_to_first rs at s before looks within first found counted = record {
  all = ap (λ (l : List ℕ). l ++ found_from rs l (at + 1)) first;
  found = found;
  low = omega (arith, within);
  few = omega (arith, counted);
  many = (let n = ap length first in omega (arith, n, counted));
  near = λ q more. omega (arith, counted);
}

module _ (rs : List StepRecord) (at from : ℕ) (s t : FoundSteps) (before looks : ℕ) (old : IsUpTo rs at from s before looks) (same : t.places.items ≡ s.places.items) where
  longer : (b : Bool) (places : List ℕ) (p : ℕ) → length (cond b (places ++ p ∷ []) places) ≤ length places + 1
  longer true places p = let n = length-append places (p ∷ []) in omega (arith, n)
  longer false places p = omega arith

  pub up_to_next : (place : ℕ) (u : FoundSteps) (g : StepRecord) (now : ℕ) → IsNextDueAt rs from s t place → slice_get rs place ≡ Some g
      → u.places.items ≡ cond (depends_on_some (facts rs) t.places.items g.fact) (t.places.items ++ place ∷ []) t.places.items → AreFound rs (place + 1) u → now ≡ looks + 1 → IsUpTo rs at (place + 1) u before now
  up_to_next place u g now next is added found counted = record {
    all = passed.all;
    found = found;
    low = (let w = next.within in omega (arith, w));
    few = (let a = old.few in let b = next.low in omega (arith, a, b, counted));
    near = λ q more.
        let mine : (h : StepRecord) → is_near rs s.places.items h ≡ true → q h ≡ true = (λ h n. more h (grew h n)) in
        let here = count_here q rs place g is (mine g (next.near g is)) in
        let fall = count_falls q rs from place next.low (let w = next.within in omega (arith, w)) in
        let a = old.near q mine in
        omega (arith, here, fall, a, counted);
    many = (let a = old.many in let b = longer (depends_on_some (facts rs) t.places.items g.fact) t.places.items place in let c = ap length added in let d = ap length same in omega (arith, a, b, c, d, counted));
  }
    where
      up : t.places.items ++ found_from rs t.places.items place ≡ consequences_at (facts rs) at
      up = ap (λ (l : List ℕ). l ++ found_from rs l place) same ∙ skipped rs at from place s.places.items next.low (let w = next.within in omega (arith, w)) next.free old.all

      -- what is near stays so
      grew : (h : StepRecord) → is_near rs s.places.items h ≡ true → is_near rs u.places.items h ≡ true
      grew h n = ap (λ l. is_near rs l h) added ∙ by (depends_on_some (facts rs) t.places.items g.fact)
        where
          was : is_near rs t.places.items h ≡ true
          was = ap (λ l. is_near rs l h) same ∙ n

          by : (b : Bool) → is_near rs (cond b (t.places.items ++ place ∷ []) t.places.items) h ≡ true
          by true = list_any-append (λ p. shares_at (slice_get rs p) h) t.places.items (place ∷ []) ∙ ap (λ b. b || (shares_at (slice_get rs place) h || false)) was
          by false = was

      passed : IsPassedOn rs at place u.places.items
      passed = passed_on rs at place g t.places.items u.places.items next.within is (subst (All (λ p. p < length rs)) (sym same) old.found.within) up added

  -- the places turned round
  pub near_in_all : (p : List ℕ) → p ≡ reverse t.places.items → looks ≤ (before + 1) + count_by (is_near rs p) (drop (at + 1) rs)
  near_in_all p e = let a = old.near (is_near rs p) turned in omega (arith, a)
    where
      turned : (g : StepRecord) → is_near rs s.places.items g ≡ true → is_near rs p g ≡ true
      turned g n =
          ap (λ l. is_near rs l g) e
          ∙ sym (list_any-IsPermutation (λ k. shares_at (slice_get rs k) g) t.places.items (reverse t.places.items) (IsPermutation-reverse t.places.items))
          ∙ ap (λ l. is_near rs l g) same
          ∙ n

  pub up_to_last : IsNextDue rs from s t None → t.places.items ≡ consequences_at (facts rs) at
  up_to_last none = same ∙ finished rs at from s.places.items old.low none old.all
