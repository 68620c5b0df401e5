-- A heap of places, of which the least is on top.
use Rattle.std.proofs.Common.{◌≡◌, ◌==◌, ◌≤◌, arith, ℕ, Bool, true, false, List, [], ◌∷◌, Option, None, Some, eq-eqb, eqb-true, refl, ap, sym, subst, ◌∙◌}
use Rattle.std.specs.Prelude.{◌||◌, slice_get, IfNone, IfSome}
use Rattle.std.specs.BinaryHeap.{IsUpperBound}
use Rattle.std.specs.List.Sorted.{IsPermutation}
use Rattle.std.specs.Ordering.{nat_cmp}
use Rattle.std.specs.declared.cmp.Ordering.{Ordering}
use Rattle.std.specs.declared.cmp.Reverse.{Reverse}
use Rattle.std.specs.Cmp.{both_ways}
use Rattle.std.proofs.lemmas.Option.{same_Some}
use Rattle.std.proofs.lemmas.List.Sorted.{list_any-IsPermutation}
use Rattle.std.proofs.lemmas.Map.Keys.{ge_from_not_lt}
use Rattle.step_index.specs.Queue.{has_place}

-- the order of the heap
abbrev pub backward : Reverse ℕ → Reverse ℕ → Ordering
backward x y = nat_cmp y.0 x.0

pub or_true : (a b : Bool) → b ≡ true → (a || b) ≡ true
or_true true b h = refl
or_true false b h = h

-- what is no greater than each is no greater than one of them
pub bounded : (x : Reverse ℕ) (xs : List (Reverse ℕ)) → IsUpperBound backward x xs → (k : ℕ) → has_place xs k ≡ true → x.0 ≤ k
bounded x [] h k is = absurd (let e : false ≡ true = is in cc)
bounded x (y ∷ xs) h k is = by (y.0 == k) refl (bounded x xs h.1 k)
  where
    by : (b : Bool) → (y.0 == k) ≡ b → (has_place xs k ≡ true → x.0 ≤ k) → x.0 ≤ k
    by true e rest = let low = ge_from_not_lt y.0 x.0 h.0 in let same = eqb-true y.0 k e in omega (arith, low, same)
    by false e rest = rest (sym (ap (λ b. b || has_place xs k) e) ∙ is)

-- one came, or went
pub one_of : (x : Reverse ℕ) (xs ys : List (Reverse ℕ)) → IsPermutation (x ∷ xs) ys → (k : ℕ) → has_place ys k ≡ (x.0 == k || has_place xs k)
one_of x xs ys h k = sym (list_any-IsPermutation (λ (y : Reverse ℕ). y.0 == k) (x ∷ xs) ys h)

pub one_from : (x : Reverse ℕ) (xs ys : List (Reverse ℕ)) → IsPermutation ys (x ∷ xs) → (k : ℕ) → has_place ys k ≡ (x.0 == k || has_place xs k)
one_from x xs ys h k = list_any-IsPermutation (λ (y : Reverse ℕ). y.0 == k) ys (x ∷ xs) h

-- the first is there
pub first_there : (x : Reverse ℕ) (xs : List (Reverse ℕ)) → slice_get xs 0 ≡ Some x → has_place xs x.0 ≡ true
first_there x [] h = absurd (let e : None ≡ Some x = h in cc)
first_there x (y ∷ xs) h = ap (λ b. b || has_place xs x.0) (ap (λ (z : Reverse ℕ). z.0 == x.0) (same_Some y x h) ∙ eq-eqb x.0 x.0 refl)

-- of places that were in a heap, those that are left while copies of the least go
pub record AreBut (place : ℕ) (old now : List (Reverse ℕ)) : Type 0 where
  pub others : (k : ℕ) → (place == k) ≡ false → has_place now k ≡ has_place old k
  pub low : (k : ℕ) → has_place now k ≡ true → place ≤ k

module _ (place : ℕ) (old now : List (Reverse ℕ)) where
  pub but_top : (x : Reverse ℕ) → x.0 ≡ place → IsPermutation old (x ∷ now) → IsUpperBound backward x now → AreBut place old now
  but_top x same h bound = record {
    others = λ k apart. sym (one_from x now old h k ∙ ap (λ (n : ℕ). n == k || has_place now k) same ∙ ap (λ b. b || has_place now k) apart);
    low = λ k is. let l = bounded x now bound k is in omega (arith, l, same);
  }

  -- a copy of it goes
  pub but_copy : (new : List (Reverse ℕ)) (n m : ℕ) (r : Option (Reverse ℕ)) → AreBut place old now → has_place now place ≡ true → IfSome r (λ x. IsPermutation now (x ∷ new)) → IfSome r (λ x. IsUpperBound backward x now) → IfNone r ((new ≡ now) × (n ≡ m)) → AreBut place old new
  but_copy new n m None h there perm bound same = subst (AreBut place old) (sym same.0) h
  but_copy new n m (Some x) h there perm bound same = record {
    others = λ k apart. sym (went k ∙ ap (λ (n : ℕ). n == k || has_place new k) is ∙ ap (λ b. b || has_place new k) apart) ∙ h.others k apart;
    low = λ k was. h.low k (went k ∙ or_true (x.0 == k) (has_place new k) was);
  }
    where
      went : (k : ℕ) → has_place now k ≡ (x.0 == k || has_place new k)
      went = one_from x new now perm

      is : x.0 ≡ place
      is =
          let high = bounded x now bound place there in
          let low = h.low x.0 (went x.0 ∙ ap (λ b. b || has_place new x.0) (eq-eqb x.0 x.0 refl)) in
          omega (arith, high, low)

-- it is first exactly if it is there
pub first_is_there : (x : Reverse ℕ) (xs : List (Reverse ℕ)) (place : ℕ) → slice_get xs 0 ≡ Some x → IsUpperBound backward x xs → ((k : ℕ) → has_place xs k ≡ true → place ≤ k) → (x.0 == place) ≡ has_place xs place
first_is_there x xs place first bound low =
    both_ways (x.0 == place) (has_place xs place) (λ e. ap (has_place xs) (sym (eqb-true x.0 place e)) ∙ first_there x xs first)
    (λ h. let a = bounded x xs bound place h in let b = low x.0 (first_there x xs first) in eq-eqb x.0 place (omega (arith, a, b)))
