-- A walk forward through the places of a class.
use Rattle.std.proofs.Common.{◌≡◌, ◌<◌, ◌≤◌, ◌+◌, ◌-◌, arith, ℕ, Bool, true, false, List, Option, None, Some, ap, sym, subst, ◌∙◌, inl, inr}
use Rattle.std.specs.Prelude.{slice_get, IfSome}
use Rattle.std.proofs.lemmas.Bool.{cases_lt}
use Rattle.std.proofs.lemmas.Option.{same_Some}
use Rattle.linked_classes.specs.Linked.{IsNext, IsFirst}
use Rattle.saved_steps.specs.declared.record.StepRecord.{StepRecord}
use Rattle.step_index.specs.Walks.{IsFirstFrom}

-- a place comes before the one at which a walk is, if it is at one
abbrev pub IsBelow : ℕ → Option ℕ → Type 0
IsBelow k None = Unit {0}
IsBelow k (Some n) = k < n

-- how many places a walk may come to
abbrev pub ahead : ℕ → Option ℕ → ℕ
ahead len None = 0
ahead len (Some n) = len - n

-- a walk is at a place of class c, and passed those before it: at none of these, from a place on, a record passes the test
pub record IsPassed (g : ℕ → Option ℕ) (c : ℕ) (p : StepRecord → Bool) (rs : List StepRecord) (low : ℕ) (next : Option ℕ) : Type 0 where
  pub here : IfSome next (λ n. (g n ≡ Some c) × (low ≤ n))
  pub passed : (k : ℕ) (r : StepRecord) → slice_get rs k ≡ Some r → low ≤ k → IsBelow k next → g k ≡ Some c → p r ≡ false

module _ (g : ℕ → Option ℕ) (c : ℕ) (p : StepRecord → Bool) (rs : List StepRecord) where
  pub begun : (r : Option ℕ) → IsFirst g c r → IsPassed g c p rs 0 r
  begun None h = record { here = tt; passed = λ k r at l b is. absurd (h k is) }
  begun (Some n) h = record { here = (h.0, omega arith); passed = λ k r at l b is. absurd (h.1 k b is) }

  pub begun_after : (i : ℕ) (r : Option ℕ) → IsNext g c i r → IsPassed g c p rs (i + 1) r
  begun_after i None h = record { here = tt; passed = λ k r at l b is. absurd (h k (omega (arith, l)) is) }
  begun_after i (Some n) h = record { here = (h.1, let x = h.0 in omega (arith, x)); passed = λ k r at l b is. absurd (h.2 k (omega (arith, l)) b is) }

  module _ (low n : ℕ) (old : IsPassed g c p rs low (Some n)) (x : StepRecord) (at : slice_get rs n ≡ Some x) where
    pub stopped : p x ≡ true → IsFirstFrom (λ k. g k ≡ Some c) p rs low (Some n)
    stopped h = (old.here.1, (x, at, h), λ k r is l b q. old.passed k r is l b q)

    pub went_on : p x ≡ false → (r : Option ℕ) → IsNext g c n r → IsPassed g c p rs low r
    went_on h None next = record {
      here = tt;
      passed = λ k r is l b q. elim (cases_lt k n) [
        | inl w ↦ old.passed k r is l w q
        | inr w ↦ elim (cases_lt n k) [
          | inl v ↦ absurd (next k v q)
          | inr v ↦ same k r is (omega (arith, w, v))
        ]
      ];
    }
      where
        same : (k : ℕ) (r : StepRecord) → slice_get rs k ≡ Some r → k ≡ n → p r ≡ false
        same k r is e = subst (λ y. p y ≡ false) (same_Some x r (sym at ∙ ap (slice_get rs) (sym e) ∙ is)) h
    went_on h (Some m) next = record {
      here = (next.1, let a = old.here.1 in let b = next.0 in omega (arith, a, b));
      passed = λ k r is l b q. elim (cases_lt k n) [
        | inl w ↦ old.passed k r is l w q
        | inr w ↦ elim (cases_lt n k) [
          | inl v ↦ absurd (next.2 k v b q)
          | inr v ↦ same k r is (omega (arith, w, v))
        ]
      ];
    }
      where
        same : (k : ℕ) (r : StepRecord) → slice_get rs k ≡ Some r → k ≡ n → p r ≡ false
        same k r is e = subst (λ y. p y ≡ false) (same_Some x r (sym at ∙ ap (slice_get rs) (sym e) ∙ is)) h

  pub ended : (low : ℕ) → IsPassed g c p rs low None → IsFirstFrom (λ k. g k ≡ Some c) p rs low None
  ended low old = λ k r is l q. old.passed k r is l tt q
