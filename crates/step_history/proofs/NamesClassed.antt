-- Names in classes, as one more comes; and a walk forward through a class.
use Rattle.std.proofs.Common.{◌≡◌, ◌<◌, ◌+◌, ◌-◌, ◌==◌, arith, eq-eqb, ℕ, zero, suc, Bool, true, false, cond, List, [], ◌∷◌, ◌++◌, length, length-append, Option, None, Some, refl, ap, sym, subst, ◌∙◌, inl, inr}
use Rattle.std.specs.Prelude.{◌||◌, slice_get, option_map, IfSome}
use Rattle.std.specs.List.{list_any}
use Rattle.std.proofs.lemmas.Bool.{cases_lt, eqb-true}
use Rattle.std.proofs.lemmas.Option.{same_Some}
use Rattle.linked_classes.specs.Classes.{Classes, class_of}
use Rattle.linked_classes.specs.Linked.{IsNext, IsFirst, updated}
use Rattle.step_names.specs.declared.step.StepName.{StepName}
use Rattle.step_history.specs.SettledNames.{bucket, AreClassed}

-- ---- one more

at_end : (ns : List StepName) (name : StepName) → slice_get (ns ++ name ∷ []) (length ns) ≡ Some name
at_end [] name = refl
at_end (n ∷ ns) name = at_end ns name

not_at_end : (ns : List StepName) (name : StepName) (k : ℕ) → (k ≡ length ns → ⊥) → slice_get (ns ++ name ∷ []) k ≡ slice_get ns k
not_at_end [] name zero h = absurd (h refl)
not_at_end [] name (suc k) h = refl
not_at_end (n ∷ ns) name zero h = refl
not_at_end (n ∷ ns) name (suc k) h = not_at_end ns name k (λ e. h (ap suc e))

class_more : (ns : List StepName) (name : StepName) (k : ℕ) → cond (k == length ns) (Some (bucket name)) (option_map bucket (slice_get ns k)) ≡ option_map bucket (slice_get (ns ++ name ∷ []) k)
class_more ns name k = by (k == length ns) refl
  where
    by : (b : Bool) → (k == length ns) ≡ b → cond b (Some (bucket name)) (option_map bucket (slice_get ns k)) ≡ option_map bucket (slice_get (ns ++ name ∷ []) k)
    by true e = ap (option_map bucket) (sym (ap (slice_get (ns ++ name ∷ [])) (eqb-true k (length ns) e) ∙ at_end ns name))
    by false e = ap (option_map bucket) (sym (not_at_end ns name k (λ same. let clash : true ≡ false = sym (eq-eqb k (length ns) same) ∙ e in cc)))

pub one_more : (ns : List StepName) (v w : Classes) (name : StepName) → AreClassed ns v → class_of w ≡ updated (length ns) (class_of v) (Some (bucket name)) → length w.classes ≡ length ns + 1 → AreClassed (ns ++ name ∷ []) w
one_more ns v w name is classes long = record {
  long = long ∙ sym (length-append ns (name ∷ []));
  classed = λ k. ap (λ (f : ℕ → Option ℕ). f k) classes ∙ ap (cond (k == length ns) (Some (bucket name))) (is.classed k) ∙ class_more ns name k;
}

-- ---- a walk

-- a number comes before the one at which a walk is, if it is at one
abbrev pub IsBelow : ℕ → Option ℕ → Type 0
IsBelow k None = Unit {0}
IsBelow k (Some n) = k < n

-- how many numbers a walk may come to
abbrev pub ahead : ℕ → Option ℕ → ℕ
ahead len None = 0
ahead len (Some n) = len - n

-- a walk is at a number of class c, and at none before it a name of the class passes the test
pub record IsPassed (v : Classes) (c : ℕ) (p : StepName → Bool) (ns : List StepName) (next : Option ℕ) : Type 0 where
  pub here : IfSome next (λ n. class_of v n ≡ Some c)
  pub passed : (k : ℕ) (n : StepName) → slice_get ns k ≡ Some n → IsBelow k next → class_of v k ≡ Some c → p n ≡ false

some_at : (ns : List StepName) (k c : ℕ) → option_map bucket (slice_get ns k) ≡ Some c → k < length ns
some_at [] zero c h = cc
some_at [] (suc k) c h = cc
some_at (n ∷ ns) zero c h = omega arith
some_at (n ∷ ns) (suc k) c h = let e = some_at ns k c h in omega (arith, e)

any_false : (p : StepName → Bool) (ns : List StepName) → ((k : ℕ) (n : StepName) → slice_get ns k ≡ Some n → p n ≡ false) → list_any p ns ≡ false
any_false p [] h = refl
any_false p (n ∷ ns) h = let e = h 0 n refl in rw e (any_false p ns (λ k m at. h (suc k) m at))

pub any_true : (p : StepName → Bool) (ns : List StepName) (k : ℕ) (n : StepName) → slice_get ns k ≡ Some n → p n ≡ true → list_any p ns ≡ true
any_true p [] zero n at h = cc
any_true p [] (suc k) n at h = cc
any_true p (m ∷ ns) zero n at h = let e : p m ≡ true = ap p (same_Some m n at) ∙ h in rw e refl
any_true p (m ∷ ns) (suc k) n at h = or_true (p m) (list_any p ns) (any_true p ns k n at h)
  where
    or_true : (a b : Bool) → b ≡ true → (a || b) ≡ true
    or_true true b e = refl
    or_true false b e = e

module _ (v : Classes) (c : ℕ) (p : StepName → Bool) (ns : List StepName) (is : AreClassed ns v) where
  -- a number of a class is that of a name
  pub within : (r : Option ℕ) → IfSome r (λ n. class_of v n ≡ Some c) → IfSome r (λ n. n < length ns)
  within None h = tt
  within (Some n) h = some_at ns n c (sym (is.classed n) ∙ h)

  pub begun : (r : Option ℕ) → IsFirst (class_of v) c r → IsPassed v c p ns r
  begun None h = record { here = tt; passed = λ k n at b e. absurd (h k e) }
  begun (Some i) h = record { here = h.0; passed = λ k n at b e. absurd (h.1 k b e) }

  pub went_on : (i : ℕ) (x : StepName) → IsPassed v c p ns (Some i) → slice_get ns i ≡ Some x → p x ≡ false → (r : Option ℕ) → IsNext (class_of v) c i r → IsPassed v c p ns r
  went_on i x old at h None next = record {
    here = tt;
    passed = λ k n is b e. elim (cases_lt k i) [
      | inl w ↦ old.passed k n is w e
      | inr w ↦ elim (cases_lt i k) [ inl l ↦ absurd (next k l e) | inr l ↦ same k n is (omega (arith, w, l)) ]
    ];
  }
    where
      same : (k : ℕ) (n : StepName) → slice_get ns k ≡ Some n → k ≡ i → p n ≡ false
      same k n is e = subst (λ y. p y ≡ false) (same_Some x n (sym at ∙ ap (slice_get ns) (sym e) ∙ is)) h
  went_on i x old at h (Some m) next = record {
    here = next.1;
    passed = λ k n is b e. elim (cases_lt k i) [
      | inl w ↦ old.passed k n is w e
      | inr w ↦ elim (cases_lt i k) [ inl l ↦ absurd (next.2 k l b e) | inr l ↦ same k n is (omega (arith, w, l)) ]
    ];
  }
    where
      same : (k : ℕ) (n : StepName) → slice_get ns k ≡ Some n → k ≡ i → p n ≡ false
      same k n is e = subst (λ y. p y ≡ false) (same_Some x n (sym at ∙ ap (slice_get ns) (sym e) ∙ is)) h

  -- where no name of the class passes, and each name that passes is of the class, none passes
  pub none_passes : ((n : StepName) → p n ≡ true → bucket n ≡ c) → IsPassed v c p ns None → list_any p ns ≡ false
  none_passes own old = any_false p ns (λ k n at. by_value k n at (p n) refl)
    where
      by_value : (k : ℕ) (n : StepName) → slice_get ns k ≡ Some n → (b : Bool) → p n ≡ b → p n ≡ false
      by_value k n at false e = e
      by_value k n at true e = old.passed k n at tt (is.classed k ∙ ap (option_map bucket) at ∙ ap Some (own n e))
