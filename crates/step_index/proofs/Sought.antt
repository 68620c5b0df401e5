-- A walk back through the places of a class.
use Rattle.std.proofs.Common.{◌≡◌, ◌<◌, ◌≤◌, ◌+◌, arith, ℕ, Bool, true, false, cond, List, Option, None, Some, refl, ap, sym, subst, ◌∙◌, inl, inr, ◌⊎◌}
use Rattle.std.specs.Prelude.{nat_lt, option_map, slice_get, IfSome}
use Rattle.std.proofs.lemmas.Bool.{cases_lt, le-ltb, lt-ltb}
use Rattle.std.proofs.lemmas.Option.{same_Some}
use Rattle.linked_classes.specs.Linked.{IsBefore, IsLast}
use Rattle.saved_steps.specs.declared.record.StepRecord.{StepRecord}
use Rattle.step_index.specs.Walks.{IsFirstFrom}

-- a place comes behind the one at which a walk is, if it is at one
abbrev pub IsAbove : ℕ → Option ℕ → Type 0
IsAbove k None = Unit {0}
IsAbove k (Some n) = n < k

-- how many places a walk may come to
abbrev pub behind : Option ℕ → ℕ
behind None = 0
behind (Some n) = n + 1

-- what holds of the first at some places holds of it at fewer
pub first_fewer : (Q S : ℕ → Type 0) (p : StepRecord → Bool) (rs : List StepRecord) (low : ℕ) (r : Option ℕ) → ((k : ℕ) → low ≤ k → S k → Q k) → IsFirstFrom Q p rs low r → IsFirstFrom S p rs low r
first_fewer Q S p rs low None fewer h = λ k g is l q. h k g is l (fewer k l q)
first_fewer Q S p rs low (Some i) fewer h = (h.0, h.1, λ k g is l b q. h.2 k g is l b (fewer k l q))

module _ (g : ℕ → Option ℕ) (c n : ℕ) where
  -- no place of the class is between one there and the one before it
  pub between : (last : Option ℕ) → IsBefore g c n last → (k : ℕ) → g k ≡ Some c → IsAbove k last → (k ≡ n) ⊎ (n < k)
  between None h k is above = elim (cases_lt k n) [
    | inl w ↦ absurd (h k w is)
    | inr w ↦ elim (cases_lt n k) [ inl v ↦ inr v | inr v ↦ inl (omega (arith, w, v)) ]
  ]
  between (Some m) h k is above = elim (cases_lt k n) [
    | inl w ↦ absurd (h.2 k w above is)
    | inr w ↦ elim (cases_lt n k) [ inl v ↦ inr v | inr v ↦ inl (omega (arith, w, v)) ]
  ]

  pub has_class : (last : Option ℕ) → IsBefore g c n last → IfSome last (λ m. g m ≡ Some c)
  has_class None h = tt
  has_class (Some m) h = h.1

-- a walk is at a place of class c, and knows the first record that passes the test among those behind it
pub record IsSought (g : ℕ → Option ℕ) (c : ℕ) (p : StepRecord → Bool) (rs : List StepRecord) (low : ℕ) (found last : Option ℕ) : Type 0 where
  pub here : IfSome last (λ n. g n ≡ Some c)
  pub sought : IsFirstFrom (λ k. (g k ≡ Some c) × IsAbove k last) p rs low found

module _ (g : ℕ → Option ℕ) (c : ℕ) (p : StepRecord → Bool) (rs : List StepRecord) (low : ℕ) where
  pub set_out : (last : Option ℕ) → IsLast g c last → IsSought g c p rs low None last
  set_out None h = record { here = tt; sought = λ k r is l q. absurd (h k q.0) }
  set_out (Some n) h = record { here = h.0; sought = λ k r is l q. absurd (h.1 k q.1 q.0) }

  pub came_back : (found : Option ℕ) → IsSought g c p rs low found None → IsFirstFrom (λ k. g k ≡ Some c) p rs low found
  came_back found h = first_fewer (λ k. (g k ≡ Some c) × IsAbove k None) (λ k. g k ≡ Some c) p rs low found (λ k l q. (q, tt)) h.sought

  module _ (n : ℕ) (found : Option ℕ) (old : IsSought g c p rs low found (Some n)) where
    pub broke_off : n < low → IsFirstFrom (λ k. g k ≡ Some c) p rs low found
    broke_off w = first_fewer (λ k. (g k ≡ Some c) × IsAbove k (Some n)) (λ k. g k ≡ Some c) p rs low found (λ k l q. (q, omega (arith, l, w))) old.sought

    module _ (x : StepRecord) (at : slice_get rs n ≡ Some x) (far : low ≤ n) where
      pub found_here : p x ≡ true → (last : Option ℕ) → IsBefore g c n last → IsSought g c p rs low (Some n) last
      found_here h last before = record {
        here = has_class g c n last before;
        sought = (far, (x, at, h), λ k r is l b q. absurd (elim (between g c n last before k q.0 q.1) [ inl e ↦ omega (arith, e, b) | inr w ↦ omega (arith, w, b) ]));
      }

      same : p x ≡ false → (k : ℕ) (r : StepRecord) → slice_get rs k ≡ Some r → k ≡ n → p r ≡ false
      same h k r is e = subst (λ y. p y ≡ false) (same_Some x r (sym at ∙ ap (slice_get rs) (sym e) ∙ is)) h

      kept : p x ≡ false → (last : Option ℕ) → IsBefore g c n last → (o : Option ℕ) → IsFirstFrom (λ k. (g k ≡ Some c) × IsAbove k (Some n)) p rs low o → IsFirstFrom (λ k. (g k ≡ Some c) × IsAbove k last) p rs low o
      kept h last before None s = λ k r is l q. elim (between g c n last before k q.0 q.1) [ inl e ↦ same h k r is e | inr w ↦ s k r is l (q.0, w) ]
      kept h last before (Some i) s = (s.0, s.1, λ k r is l b q. elim (between g c n last before k q.0 q.1) [ inl e ↦ same h k r is e | inr w ↦ s.2 k r is l b (q.0, w) ])

      pub not_here : p x ≡ false → (last : Option ℕ) → IsBefore g c n last → IsSought g c p rs low found last
      not_here h last before = record { here = has_class g c n last before; sought = kept h last before found old.sought }

      pub sought_on : (now last : Option ℕ) → now ≡ cond (p x) (Some n) found → IsBefore g c n last → IsSought g c p rs low now last
      sought_on now last e before = by (p x) refl
        where
          by : (b : Bool) → p x ≡ b → IsSought g c p rs low now last
          by true k = subst (λ o. IsSought g c p rs low o last) (sym (e ∙ ap (λ b. cond b (Some n) found) k)) (found_here k last before)
          by false k = subst (λ o. IsSought g c p rs low o last) (sym (e ∙ ap (λ b. cond b (Some n) found) k)) (not_here k last before)

-- ---- the order of two places, and a choice, as they were told

pub not_less : (a b : ℕ) → nat_lt a b ≡ false → b ≤ a
not_less a b h = elim (cases_lt a b) [ inl w ↦ absurd (let e = sym h ∙ lt-ltb a b w in cc) | inr w ↦ w ]

pub is_less : (a b : ℕ) → nat_lt a b ≡ true → a < b
is_less a b h = elim (cases_lt a b) [ inl w ↦ w | inr w ↦ absurd (let e = sym h ∙ le-ltb a b w in cc) ]

pub map_chosen : (f : ℕ → ℕ) (b : Bool) (n : ℕ) (o : Option ℕ) → option_map f (cond b (Some n) o) ≡ cond b (Some (f n)) (option_map f o)
map_chosen f true n o = refl
map_chosen f false n o = refl

pub holds_chosen : (P : ℕ → Type 0) (b : Bool) (n : ℕ) (o : Option ℕ) → P n → IfSome o P → IfSome (cond b (Some n) o) P
holds_chosen P true n o h g = h
holds_chosen P false n o h g = g
