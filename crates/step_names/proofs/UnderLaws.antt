-- The test `is_under` and the relation `IsUnder` are one.
use Rattle.std.proofs.Common.{arith, get_or, ◌<◌, ◌≤◌, ◌≡◌, ℕ, Bool, true, false, ◌&&◌, List, [], ◌∷◌, ◌++◌, ◌↔◌, refl, sym, ap, ap₂, ◌∙◌, subst, length, take, drop, nat_eq, eqb-true, eq-eqb, IsTrue}
use Rattle.std.specs.Bool.{Decides}
use Rattle.std.proofs.lemmas.Bool.{and_parts}
use Rattle.std.specs.Cmp.Lexicographic.{pointwise, bytes_decides}
use Rattle.step_names.specs.Thread.{Thread}
use Rattle.step_names.specs.Under.{IsUnder, is_under, goes_on_by}

abbrev pub same_branch : ℕ × ℕ → ℕ × ℕ → Bool
same_branch x y = nat_eq x.0 y.0 && nat_eq x.1 y.1

pub and_apart : (x y z : Bool) → x && y ≡ false → (y ≡ false → z ≡ false) → x && z ≡ false
and_apart true y z h k = k h
and_apart false y z h k = refl

pub and_rest : (x y z w : Bool) → x && y ≡ true → (y ≡ true → z ≡ w) → x && z ≡ w
and_rest true y z w h k = k h
and_rest false y z w h k = cc

pub same_branch_one : (x y : ℕ × ℕ) → same_branch x y ≡ true → x ≡ y
same_branch_one x y h = let s = and_parts (nat_eq x.0 y.0) (nat_eq x.1 y.1) h in ap₂ (λ (m : ℕ) (n : ℕ). let p : ℕ × ℕ = (m, n) in p) (eqb-true x.0 y.0 s.0) (eqb-true x.1 y.1 s.1)

pub same_branch_itself : (x : ℕ × ℕ) → same_branch x x ≡ true
same_branch_itself x = rw (eq-eqb x.0 x.0 refl, eq-eqb x.1 x.1 refl)

-- where the path does not begin with the one above, it does not go on from it
pub apart_goes_on : (path above : List (ℕ × ℕ)) (fork : ℕ) → pointwise same_branch (take (length above) path) above ≡ false → goes_on_by path above fork ≡ false
apart_goes_on [] [] fork h = refl
apart_goes_on (b ∷ path) [] fork h = cc
apart_goes_on [] (a ∷ above) fork h = refl
apart_goes_on (b ∷ path) (a ∷ above) fork h =
    and_apart (same_branch b a) (pointwise same_branch (take (length above) path) above) (goes_on_by path above fork) h (apart_goes_on path above fork)

-- and where it does, what is left of it begins with the branch
pub rest_goes_on : (path above : List (ℕ × ℕ)) (fork : ℕ) → pointwise same_branch (take (length above) path) above ≡ true → goes_on_by path above fork ≡ goes_on_by (drop (length above) path) [] fork
rest_goes_on path [] fork h = refl
rest_goes_on [] (a ∷ above) fork h = refl
rest_goes_on (b ∷ path) (a ∷ above) fork h =
    and_rest (same_branch b a) (pointwise same_branch (take (length above) path) above) (goes_on_by path above fork) (goes_on_by (drop (length above) path) [] fork) h (rest_goes_on path above fork)

pub goes_on_to : (path above : List (ℕ × ℕ)) (fork : ℕ) → goes_on_by path above fork ≡ true → (branch : ℕ) × (rest : List (ℕ × ℕ)) × (path ≡ above ++ (fork, branch) ∷ rest)
goes_on_to [] above fork h = cc
goes_on_to (b ∷ path) [] fork h = (b.1, path, ap (λ (n : ℕ). let p : ℕ × ℕ = (n, b.1) in p ∷ path) (eqb-true b.0 fork h))
goes_on_to (b ∷ path) (a ∷ above) fork h =
    let s = and_parts (same_branch b a) (goes_on_by path above fork) h in
    let k = goes_on_to path above fork s.1 in
    (k.0, k.1, ap₂ (λ (p : ℕ × ℕ) (ps : List (ℕ × ℕ)). p ∷ ps) (same_branch_one b a s.0) k.2)

pub goes_on_from : (above : List (ℕ × ℕ)) (fork branch : ℕ) (rest : List (ℕ × ℕ)) → goes_on_by (above ++ (fork, branch) ∷ rest) above fork ≡ true
goes_on_from [] fork branch rest = eq-eqb fork fork refl
goes_on_from (a ∷ above) fork branch rest = rw (same_branch_itself a, goes_on_from above fork branch rest)

pub under_Decides : (thread above : Thread) (fork : ℕ) → Decides (is_under thread above fork) (IsUnder thread above fork)
under_Decides thread above fork = (
  λ h. let s = and_parts (pointwise nat_eq thread.exec above.exec) (goes_on_by thread.path above.path fork) h in
      ((bytes_decides thread.exec above.exec).0 s.0, goes_on_to thread.path above.path fork s.1),
  λ u. rw ((bytes_decides thread.exec above.exec).1 u.0)
      (subst (λ (path : List (ℕ × ℕ)). goes_on_by path above.path fork ≡ true) (sym u.1.2) (goes_on_from above.path fork u.1.0 u.1.1)),
)

-- what a test of the two answers says
pub under_by : (r : Bool) (thread above : Thread) (fork : ℕ) → r ≡ is_under thread above fork → IsTrue r ↔ IsUnder thread above fork
under_by r thread above fork e = (λ h. (under_Decides thread above fork).0 (sym e ∙ h), λ u. e ∙ (under_Decides thread above fork).1 u)

-- the path without the one above it begins with the branch
pub goes_on_by_first : (path above rest : List (ℕ × ℕ)) (fork : ℕ) → pointwise same_branch (take (length above) path) above ≡ true → rest ≡ drop (length above) path → goes_on_by path above fork ≡ goes_on_by rest [] fork
goes_on_by_first path above rest fork h e = rest_goes_on path above fork h ∙ ap (λ (ps : List (ℕ × ℕ)). goes_on_by ps [] fork) (sym e)

pub first_is : (rest : List (ℕ × ℕ)) (fork : ℕ) (d : ℕ × ℕ) → 1 ≤ length rest → goes_on_by rest [] fork ≡ nat_eq (get_or rest 0 d).0 fork
first_is [] fork d h = absurd (omega arith)
first_is (b ∷ rest) fork d h = refl

pub none_is : (rest : List (ℕ × ℕ)) (fork : ℕ) → length rest < 1 → goes_on_by rest [] fork ≡ false
none_is [] fork h = refl
none_is (b ∷ rest) fork h = absurd (omega arith)
