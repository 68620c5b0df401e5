-- How threads lie under each other's forks, as the test tells it.
use Rattle.std.proofs.Common.{arith, ◌≡◌, ◌+◌, ◌==◌, ℕ, suc, Bool, true, false, List, [], ◌∷◌, ◌++◌, length, length-append, refl, ap, ap₂, sym, ◌∙◌, inl, inr, Some}
use Rattle.std.specs.Prelude.{◌⊎◌, ◌||◌}
use Rattle.std.proofs.lemmas.Bool.{and_parts, eqb-true}
use Rattle.std.proofs.lemmas.Option.{same_Some}
use Rattle.saved_steps.specs.Paths.{Path, same_branch, rest_after}
use Rattle.step_names.specs.Thread.{Thread, child_of}
use Rattle.step_names.specs.Under.{IsUnder, is_under}
use Rattle.step_names.proofs.UnderFacts as law
use Rattle.step_names.proofs.UnderLaws.{under_Decides}
use Rattle.trace_theory.proofs.Lists.{by_bool}

pub either : (b c : Bool) → (b || c) ≡ true → (b ≡ true) ⊎ (c ≡ true)
either true c h = inl refl
either false c h = inr h

pub or_left : (b c : Bool) → b ≡ true → (b || c) ≡ true
or_left b c h = rw h refl

pub or_right : (b c : Bool) → c ≡ true → (b || c) ≡ true
or_right true c h = refl
or_right false c h = h

lies : (t a : Thread) (n : ℕ) → is_under t a n ≡ true → IsUnder t a n
lies t a n h = (under_Decides t a n).0 h

told : (t a : Thread) (n : ℕ) → IsUnder t a n → is_under t a n ≡ true
told t a n u = (under_Decides t a n).1 u

pub never_under_itself : (t : Thread) (n : ℕ) → is_under t t n ≡ true → ⊥
never_under_itself t n h = law.under_below t n (lies t t n h)

-- low lies under a fork of the middle one, and that under one of the high one
pub under_under : (low middle high : Thread) (n k : ℕ) → is_under low middle n ≡ true → is_under middle high k ≡ true → is_under low high k ≡ true
under_under low middle high n k h g = told low high k (law.under_transitive low middle high n k (lies low middle n h) (lies middle high k g))

pub child_is_under : (t : Thread) (n i : ℕ) → is_under (child_of t n i) t n ≡ true
child_is_under t n i = told (child_of t n i) t n (law.child_under t n i)

-- of two forks over one thread, one is the other's, or it stands over the other's thread
pub over_one : (low a b : Thread) (n k : ℕ) → is_under low a n ≡ true → is_under low b k ≡ true → (a ≡ b) ⊎ ((is_under b a n ≡ true) ⊎ (is_under a b k ≡ true))
over_one low a b n k h g =
    elim (law.above_in_line low a b n k (lies low a n h) (lies low b k g)) [
      | inl e ↦ inl e
      | inr u ↦ elim u [ inl v ↦ inr (inr (told a b k v)) | inr v ↦ inr (inl (told b a n v)) ]
    ]

-- nothing is above an execution's own thread
pub nothing_over : (t above : Thread) (n : ℕ) → t.path ≡ [] → is_under t above n ≡ true → ⊥
nothing_over t above n e h =
    let u = lies t above n h in
    let k : 0 ≡ length above.path + suc (length u.1.1) = ap length (sym e ∙ u.1.2) ∙ length-append above.path ((n, u.1.0) ∷ u.1.1) in
    omega (arith, k)

-- a thread below one that is not the execution's own lies under it
pub not_between : (t below : Thread) (n k i : ℕ) → is_under below t n ≡ true → is_under (child_of t n i) below k ≡ true → ⊥
not_between t below n k i h g =
    let u = lies below t n h in
    let v = lies (child_of t n i) below k g in
    let a = ap length u.1.2 ∙ length-append t.path ((n, u.1.0) ∷ u.1.1) in
    let b = sym (length-append t.path ((n, i) ∷ [])) ∙ ap length v.1.2 ∙ length-append below.path ((k, v.1.0) ∷ v.1.1) in
    omega (arith, a, b)

-- what a branch lies under is its own fork, or one that its fork's thread lies under
pub above_child : (above t : Thread) (n k i : ℕ) → is_under (child_of t k i) above n ≡ true → ((above ≡ t) × (n ≡ k)) ⊎ (is_under t above n ≡ true)
above_child above t n k i h =
    elim (over_one (child_of t k i) above t n k h (child_is_under t k i)) [
      | inl e ↦ inl (e, law.under_one (child_of t k i) t n k (lies (child_of t k i) t n (ap (λ (a : Thread). is_under (child_of t k i) a n) (sym e) ∙ h)) (law.child_under t k i))
      | inr o ↦ elim o [ inl u ↦ inr u | inr u ↦ absurd (not_between t above k n i u h) ]
    ]

-- ---- what a path goes on by

pub one_branch : (b c : ℕ × ℕ) → same_branch b c ≡ true → b ≡ c
one_branch b c h =
    let s = and_parts (b.0 == c.0) (b.1 == c.1) h in
    ap₂ (λ (m n : ℕ). let p : ℕ × ℕ = (m, n) in p) (eqb-true b.0 c.0 s.0) (eqb-true b.1 c.1 s.1)

pub whole_of : (p q r : Path) → rest_after p q ≡ Some r → q ≡ p ++ r
whole_of [] q r h = same_Some q r h
whole_of (b ∷ p) [] r h = cc
whole_of (b ∷ p) (c ∷ q) r h =
    by_bool (same_branch b c) _
    (λ k. ap₂ (λ (x : ℕ × ℕ) (xs : Path). x ∷ xs) (sym (one_branch b c k)) (whole_of p q r (rw k at h)))
    (λ k. let f = rw k at h in cc)

-- the branch of a fork by which a thread goes on, and no further
pub child_by : (t below : Thread) (n k i : ℕ) → is_under below t n ≡ true → rest_after t.path below.path ≡ Some ((k, i) ∷ []) → below ≡ child_of t n i
child_by t below n k i h e =
    let u = lies below t n h in
    let w = whole_of t.path below.path ((k, i) ∷ []) e in
    let same : k ≡ n = law.under_one below t k n (u.0, (i, [], w)) u in
    ap₂ (λ (exec : List ℕ) (path : Path). let x : Thread = record { exec = exec; path = path } in x) u.0 (w ∙ ap (λ (m : ℕ). t.path ++ (m, i) ∷ []) same)
