-- How the threads of the small machine lie under each other's forks.
use Rattle.std.proofs.Common.{◌≡◌, ℕ, ◌==◌, Bool, true, false, List, [], ◌∷◌, ◌++◌, refl, ap, ap₂, sym, ◌∙◌, inl, inr, eq-eqb}
use Rattle.std.specs.Prelude.{◌⊎◌, ◌||◌}
use Rattle.std.proofs.lemmas.Bool.{and_parts, eqb-true}
use Rattle.trace_theory.specs.Counters.{counter_same_branch, counter_same_thread, counter_is_under}

pub either : (b c : Bool) → (b || c) ≡ true → (b ≡ true) ⊎ (c ≡ true)
either true c h = inl refl
either false c h = inr h

pub itself : (n : ℕ) → (n == n) ≡ true
itself n = eq-eqb n n refl

same_branch-true : (a b : ℕ × ℕ) → counter_same_branch a b ≡ true → a ≡ b
same_branch-true a b h = let k = and_parts (a.0 == b.0) (a.1 == b.1) h in ap₂ (λ (x y : ℕ). let p : ℕ × ℕ = (x, y) in p) (eqb-true a.0 b.0 k.0) (eqb-true a.1 b.1 k.1)

branch_itself : (a : ℕ × ℕ) → counter_same_branch a a ≡ true
branch_itself a = rw (itself a.0, itself a.1)

pub same_thread-true : (p q : List (ℕ × ℕ)) → counter_same_thread p q ≡ true → p ≡ q
same_thread-true [] [] h = refl
same_thread-true [] (b ∷ q) h = cc
same_thread-true (a ∷ p) [] h = cc
same_thread-true (a ∷ p) (b ∷ q) h = let k = and_parts (counter_same_branch a b) (counter_same_thread p q) h in ap₂ (λ (x : ℕ × ℕ) (xs : List (ℕ × ℕ)). x ∷ xs) (same_branch-true a b k.0) (same_thread-true p q k.1)

pub thread_itself : (p : List (ℕ × ℕ)) → counter_same_thread p p ≡ true
thread_itself [] = refl
thread_itself (a ∷ p) = rw (branch_itself a, thread_itself p)

pub never_under_itself : (p : List (ℕ × ℕ)) (n : ℕ) → counter_is_under p n p ≡ true → ⊥
never_under_itself [] n h = cc
never_under_itself (a ∷ p) n h = never_under_itself p n (and_parts (counter_same_branch a a) (counter_is_under p n p) h).1

pub under_under : (p q r : List (ℕ × ℕ)) (n k : ℕ) → counter_is_under p n q ≡ true → counter_is_under q k r ≡ true → counter_is_under p n r ≡ true
under_under [] [] r n k h g = cc
under_under (a ∷ p) [] r n k h g = cc
under_under p (b ∷ q) [] n k h g = cc
under_under [] (b ∷ q) (c ∷ r) n k h g = ap (λ (x : ℕ × ℕ). x.0 == n) (sym (same_branch-true b c (and_parts (counter_same_branch b c) (counter_is_under q k r) g).0)) ∙ h
under_under (a ∷ p) (b ∷ q) (c ∷ r) n k h g =
    let e = and_parts (counter_same_branch a b) (counter_is_under p n q) h in
    let f = and_parts (counter_same_branch b c) (counter_is_under q k r) g in
    let first : counter_same_branch a c ≡ true = ap (counter_same_branch a) (sym (same_branch-true b c f.0)) ∙ e.0 in
    let rest = under_under p q r n k e.1 f.1 in
    rw (first, rest)

pub branch_is_under : (p : List (ℕ × ℕ)) (n i : ℕ) → counter_is_under p n (p ++ (n, i) ∷ []) ≡ true
branch_is_under [] n i = itself n
branch_is_under (a ∷ p) n i = rw (branch_itself a, branch_is_under p n i)

-- what a branch lies under is its own fork, or one that its fork's thread lies under
pub above_branch : (p q : List (ℕ × ℕ)) (n k i : ℕ) → counter_is_under p n (q ++ (k, i) ∷ []) ≡ true → (p ≡ q) × (n ≡ k) ⊎ (counter_is_under p n q ≡ true)
above_branch [] [] n k i h = inl (refl, sym (eqb-true k n h))
above_branch (a ∷ []) [] n k i h = let e = (and_parts (counter_same_branch a (k, i)) false h).1 in cc
above_branch (a ∷ b ∷ p) [] n k i h = let e = (and_parts (counter_same_branch a (k, i)) false h).1 in cc
above_branch [] (b ∷ q) n k i h = inr h
above_branch (a ∷ p) (b ∷ q) n k i h =
    let e = and_parts (counter_same_branch a b) (counter_is_under p n (q ++ (k, i) ∷ [])) h in
    elim (above_branch p q n k i e.1) [
      | inl f ↦ inl (ap₂ (λ (x : ℕ × ℕ) (xs : List (ℕ × ℕ)). x ∷ xs) (same_branch-true a b e.0) f.0, f.1)
      | inr f ↦ inr (let g = e.0 in rw (g, f))
    ]

-- of two forks over one thread, one is the other's, or it stands over the other's thread
pub over_one : (p q r : List (ℕ × ℕ)) (n k : ℕ) → counter_is_under p n r ≡ true → counter_is_under q k r ≡ true → (p ≡ q) ⊎ ((counter_is_under p n q ≡ true) ⊎ (counter_is_under q k p ≡ true))
over_one [] [] r n k h g = inl refl
over_one p (b ∷ q) [] n k h g = cc
over_one (a ∷ p) [] [] n k h g = cc
over_one [] (b ∷ q) (c ∷ r) n k h g = inr (inl (ap (λ (x : ℕ × ℕ). x.0 == n) (same_branch-true b c (and_parts (counter_same_branch b c) (counter_is_under q k r) g).0) ∙ h))
over_one (a ∷ p) [] (c ∷ r) n k h g = inr (inr (ap (λ (x : ℕ × ℕ). x.0 == k) (same_branch-true a c (and_parts (counter_same_branch a c) (counter_is_under p n r) h).0) ∙ g))
over_one (a ∷ p) (b ∷ q) (c ∷ r) n k h g =
    let e = and_parts (counter_same_branch a c) (counter_is_under p n r) h in
    let f = and_parts (counter_same_branch b c) (counter_is_under q k r) g in
    let first : a ≡ b = same_branch-true a c e.0 ∙ sym (same_branch-true b c f.0) in
    let ab : counter_same_branch a b ≡ true = ap (counter_same_branch a) (sym first) ∙ branch_itself a in
    let ba : counter_same_branch b a ≡ true = ap (counter_same_branch b) first ∙ branch_itself b in
    elim (over_one p q r n k e.1 f.1) [
      | inl d ↦ inl (ap₂ (λ (x : ℕ × ℕ) (xs : List (ℕ × ℕ)). x ∷ xs) first d)
      | inr d ↦ elim d [ inl d ↦ inr (inl (rw (ab, d))) | inr d ↦ inr (inr (rw (ba, d))) ]
    ]
