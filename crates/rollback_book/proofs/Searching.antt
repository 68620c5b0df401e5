-- Steps that are looked up by their names, and by their places.
use Rattle.std.proofs.Common.{◌≡◌, ◌<◌, ◌≤◌, arith, ℕ, ◌+◌, ◌-◌, Bool, true, false, cond, List, [], ◌∷◌, drop, length, zero, suc, refl, ap, sym, subst, ◌∙◌, Option, None, Some}
use Rattle.std.specs.Prelude.{slice_get, position}
use Rattle.std.specs.List.{find, position_from}
use Rattle.std.proofs.lemmas.Iterator.Adapters.{position_from-zero}
use Rattle.std.proofs.lemmas.Option.{same_Some}
use Rattle.step_names.specs.declared.step.StepName.{StepName}
use Rattle.trace_theory.proofs.Lists.{by_bool}
use Rattle.saved_steps.specs.World.{is_same_step}
use Rattle.saved_steps.specs.declared.fact.Fact.{Fact}
use Rattle.saved_steps.specs.declared.record.StepRecord.{StepRecord}
use Rattle.depends.specs.Dependence.{depends_directly}
use Rattle.depends.specs.Plans.{first_dependent}
use Rattle.depends.proofs.Searching.{facts}
use Rattle.book_log.specs.Answers.{from_step}
use Rattle.book_log.proofs.Standing.{step_same}

-- ---- places

-- the first place at which it holds, of elements that stand from a number on
pub record FoundAt {A : Type 0} (p : A → Bool) (xs : List A) (from at : ℕ) : Type 0 where
  pub element : A
  pub past_start : from ≤ at
  pub within : at < from + length xs
  pub there : slice_get xs (at - from) ≡ Some element
  pub holds : p element ≡ true
  pub found : find p xs ≡ Some element

module _ {A : Type 0} (p : A → Bool) where
  at_first : (x : A) (xs : List A) (from at : ℕ) → p x ≡ true → from ≡ at → FoundAt p (x ∷ xs) from at
  at_first x xs from at k e =
      let z : at - from ≡ 0 = omega (arith, e) in
      record { element = x; past_start = omega (arith, e); within = omega (arith, e); there = ap (slice_get (x ∷ xs)) z; holds = k; found = ap (λ (b : Bool). cond b (Some x) (find p xs)) k }

  later : (x : A) (xs : List A) (from at : ℕ) → p x ≡ false → FoundAt p xs (from + 1) at → FoundAt p (x ∷ xs) from at
  later x xs from at k h =
      let a = h.past_start in
      let b = h.within in
      let n : at - from ≡ suc (at - (from + 1)) = omega (arith, a) in
      record { element = h.element; past_start = omega (arith, a); within = omega (arith, b); there = ap (slice_get (x ∷ xs)) n ∙ h.there; holds = h.holds; found = ap (λ (b : Bool). cond b (Some x) (find p xs)) k ∙ h.found }

  pub found_at : (xs : List A) (from at : ℕ) → position_from p from xs ≡ Some at → FoundAt p xs from at
  found_at [] from at h = cc
  found_at (x ∷ xs) from at h =
      by_bool (p x) _ (λ k. at_first x xs from at k (same_Some from at (rw k at h))) (λ k. later x xs from at k (found_at xs (from + 1) at (rw k at h)))

  pub none_found : (xs : List A) (from : ℕ) → position_from p from xs ≡ None → find p xs ≡ None
  none_found [] from h = refl
  none_found (x ∷ xs) from h =
      by_bool (p x) _ (λ k. let e : ◌≡◌ {A = Option ℕ} (Some from) None = rw k at h in cc) (λ k. ap (λ (b : Bool). cond b (Some x) (find p xs)) k ∙ none_found xs (from + 1) (rw k at h))

-- ---- steps by their names

pub same_either : (a b : StepName) → is_same_step a b ≡ is_same_step b a
same_either a b =
    by_bool (is_same_step a b) _ (λ k. subst (λ (x : StepName). is_same_step a x ≡ is_same_step x a) (step_same a b k) refl)
    (λ k. by_bool (is_same_step b a) _ (λ l. subst (λ (x : StepName). is_same_step x b ≡ is_same_step b x) (step_same b a l) refl) (λ l. k ∙ sym l))

abbrev pub is_named : StepName → Fact → Bool
is_named name f = is_same_step f.name name

-- the step of a name, at its place
pub record StepAt (name : StepName) (fs : List Fact) (from at : ℕ) : Type 0 where
  pub fact : Fact
  pub past_start : from ≤ at
  pub within : at < from + length fs
  pub there : slice_get fs (at - from) ≡ Some fact
  pub named : fact.name ≡ name
  pub answer : from_step name fs ≡ Some (fact, drop (suc (at - from)) fs)

step_first : (name : StepName) (f : Fact) (fs : List Fact) (from at : ℕ) → is_named name f ≡ true → from ≡ at → StepAt name (f ∷ fs) from at
step_first name f fs from at k e =
    let z : at - from ≡ 0 = omega (arith, e) in
    let n = sym (same_either f.name name) ∙ k in
    record {
      fact = f;
      past_start = omega (arith, e);
      within = omega (arith, e);
      there = ap (slice_get (f ∷ fs)) z;
      named = step_same f.name name k;
      answer = ap (λ (b : Bool). cond b (Some (f, fs)) (from_step name fs)) n ∙ ap (λ (i : ℕ). let q : Fact × List Fact = (f, drop (suc i) (f ∷ fs)) in Some q) (sym z);
    }

step_later : (name : StepName) (f : Fact) (fs : List Fact) (from at : ℕ) → is_named name f ≡ false → StepAt name fs (from + 1) at → StepAt name (f ∷ fs) from at
step_later name f fs from at k h =
    let a = h.past_start in
    let b = h.within in
    let i : at - from ≡ suc (at - (from + 1)) = omega (arith, a) in
    let n = sym (same_either f.name name) ∙ k in
    record {
      fact = h.fact;
      past_start = omega (arith, a);
      within = omega (arith, b);
      there = ap (slice_get (f ∷ fs)) i ∙ h.there;
      named = h.named;
      answer = ap (λ (x : Bool). cond x (Some (f, fs)) (from_step name fs)) n ∙ h.answer ∙ ap (λ (j : ℕ). let q : Fact × List Fact = (h.fact, drop (suc j) (f ∷ fs)) in Some q) (sym i);
    }

step_from : (name : StepName) (fs : List Fact) (from at : ℕ) → position_from (is_named name) from fs ≡ Some at → StepAt name fs from at
step_from name [] from at h = cc
step_from name (f ∷ fs) from at h =
    by_bool (is_named name f) _ (λ k. step_first name f fs from at k (same_Some from at (rw k at h))) (λ k. step_later name f fs from at k (step_from name fs (from + 1) at (rw k at h)))

no_step_from : (name : StepName) (fs : List Fact) (from : ℕ) → position_from (is_named name) from fs ≡ None → from_step name fs ≡ None
no_step_from name [] from h = refl
no_step_from name (f ∷ fs) from h =
    by_bool (is_named name f) _ (λ k. let e : ◌≡◌ {A = Option ℕ} (Some from) None = rw k at h in cc)
    (λ k. ap (λ (b : Bool). cond b (Some (f, fs)) (from_step name fs)) (sym (same_either f.name name) ∙ k) ∙ no_step_from name fs (from + 1) (rw k at h))

by_facts : (q : Fact → Bool) (rs : List StepRecord) (from : ℕ) → position_from (λ (r : StepRecord). q r.fact) from rs ≡ position_from q from (facts rs)
by_facts q [] from = refl
by_facts q (r ∷ rs) from = ap (λ (o : Option ℕ). cond (q r.fact) (Some from) o) (by_facts q rs (from + 1))

place_is : (name : StepName) (rs : List StepRecord) → position (λ (r : StepRecord). is_same_step r.fact.name name) rs ≡ position_from (is_named name) 0 (facts rs)
place_is name rs = position_from-zero (λ (r : StepRecord). is_named name r.fact) rs ∙ by_facts (is_named name) rs 0

-- the step of this name among some records
pub step_at : (name : StepName) (rs : List StepRecord) (at : ℕ) → position (λ (r : StepRecord). is_same_step r.fact.name name) rs ≡ Some at → StepAt name (facts rs) 0 at
step_at name rs at h = step_from name (facts rs) 0 at (sym (place_is name rs) ∙ h)

pub no_step : (name : StepName) (rs : List StepRecord) → position (λ (r : StepRecord). is_same_step r.fact.name name) rs ≡ None → from_step name (facts rs) ≡ None
no_step name rs h = no_step_from name (facts rs) 0 (sym (place_is name rs) ∙ h)

-- ---- dependents

abbrev pub behind : List Fact → ℕ → List Fact
behind fs at = drop (suc at) fs

dependent_is : (fs : List Fact) (at : ℕ) (f : Fact) (o : Option ℕ) → slice_get fs at ≡ Some f → first_dependent fs at ≡ o → position_from (depends_directly f) (suc at) (behind fs at) ≡ o
dependent_is fs at f o here h =
    let n : at + 1 ≡ suc at = omega arith in
    let e = rw here at h in
    ap (λ (i : ℕ). position_from (depends_directly f) i (drop i fs)) (sym n) ∙ e

dropped_at : {A : Type 0} (n i : ℕ) (xs : List A) → slice_get (drop n xs) i ≡ slice_get xs (n + i)
dropped_at zero i xs = let e : i ≡ 0 + i = omega arith in ap (slice_get xs) e
dropped_at (suc n) i [] = refl
dropped_at (suc n) i (x ∷ xs) = let e : suc (n + i) ≡ suc n + i = omega arith in dropped_at n i xs ∙ ap (slice_get (x ∷ xs)) e

-- the first dependent stands at its place among all
pub record DependentAt (fs : List Fact) (f : Fact) (at dependent : ℕ) : Type 0 where
  pub fact : Fact
  pub there : slice_get fs dependent ≡ Some fact
  pub found : find (depends_directly f) (behind fs at) ≡ Some fact

pub dependent_at : (fs : List Fact) (at dependent : ℕ) (f : Fact) → slice_get fs at ≡ Some f → first_dependent fs at ≡ Some dependent → DependentAt fs f at dependent
dependent_at fs at dependent f here h =
    let g = found_at (depends_directly f) (behind fs at) (suc at) dependent (dependent_is fs at f (Some dependent) here h) in
    let a = g.past_start in
    let n : suc at + (dependent - suc at) ≡ dependent = omega (arith, a) in
    record { fact = g.element; there = ap (slice_get fs) (sym n) ∙ sym (dropped_at (suc at) (dependent - suc at) fs) ∙ g.there; found = g.found }

pub no_dependent_at : (fs : List Fact) (at : ℕ) (f : Fact) → slice_get fs at ≡ Some f → first_dependent fs at ≡ None → find (depends_directly f) (behind fs at) ≡ None
no_dependent_at fs at f here h = none_found (depends_directly f) (behind fs at) (suc at) (dependent_is fs at f None here h)
