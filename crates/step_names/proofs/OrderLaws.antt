-- The order of names tells all names apart, so that `==` and look-ups are of values.
use Rattle.std.proofs.Common.{◌≡◌, ◌≢◌, ℕ, Bool, true, false, List, [], ◌∷◌, ◌++◌, refl, ap, ap₂, sym, subst, Option}
use Rattle.std.specs.Bool.{Decides}
use Rattle.std.specs.declared.cmp.Ordering.{Ordering}
use Rattle.std.specs.declared.cmp.Ordering.TheVariants.{Less, Equal, Greater}
use Rattle.std.specs.Ordering.{nat_cmp, ordering_then, eq_by_cmp, is_eq}
use Rattle.std.specs.Map.{update}
use Rattle.std.specs.Cmp.{tied_itself, Equal-is, nat_cmp_total}
use Rattle.std.specs.Cmp.Lexicographic.{slice_cmp, lists_total}
use Rattle.std.proofs.lemmas.Map.Lookups.{CmpEqualImpliesEq, exact_unsigned, exact_bytes, exact_pairs}
use Rattle.step_names.specs.Thread.{Thread}
use Rattle.step_names.specs.Laws.{UnderComesLater}
use Rattle.step_names.specs.Order.{branch_cmp, thread_cmp, step_cmp, branch_cmp_total, thread_cmp_total, step_cmp_total}
use Rattle.step_names.specs.declared.step.StepName.{StepName}

then_equal : (a b : Ordering) → ordering_then a b ≡ Equal → (a ≡ Equal) × (b ≡ Equal)
then_equal Less b h = cc
then_equal Equal b h = (refl, h)
then_equal Greater b h = cc

-- where the elements' order tells them apart, so does the lists'
lists_exact : {A : Type 0} (R : A → A → Ordering) → CmpEqualImpliesEq R → CmpEqualImpliesEq (slice_cmp R)
lists_exact R each [] [] h = refl
lists_exact R each [] (y ∷ ys) h = cc
lists_exact R each (x ∷ xs) [] h = cc
lists_exact {A} R each (x ∷ xs) (y ∷ ys) h =
    let s = then_equal (R x y) (slice_cmp R xs ys) h in
    ap₂ (λ (z : A) (zs : List A). z ∷ zs) (each x y s.0) (lists_exact R each xs ys s.1)

pub branch_exact : CmpEqualImpliesEq branch_cmp
branch_exact = exact_pairs nat_cmp nat_cmp exact_unsigned exact_unsigned

pub thread_exact : CmpEqualImpliesEq thread_cmp
thread_exact a b h =
    let s = then_equal (slice_cmp nat_cmp a.exec b.exec) (slice_cmp branch_cmp a.path b.path) h in
    ap₂ (λ (bytes : List ℕ) (path : List (ℕ × ℕ)). let t : Thread = record { exec = bytes; path = path } in t) (exact_bytes a.exec b.exec s.0) (lists_exact branch_cmp branch_exact a.path b.path s.1)

pub step_exact : CmpEqualImpliesEq step_cmp
step_exact a b h =
    let s = then_equal (thread_cmp a.thread b.thread) (nat_cmp a.no b.no) h in
    ap₂ (λ (t : Thread) (n : ℕ). let name : StepName = record { thread = t; no = n } in name) (thread_exact a.thread b.thread s.0) (exact_unsigned a.no b.no s.1)

-- `==` of names
pub thread_same : (a b : Thread) → eq_by_cmp thread_cmp a b ≡ true → a ≡ b
thread_same a b h = thread_exact a b ((Equal-is (thread_cmp a b)).0 h)

pub thread_itself : (a : Thread) → eq_by_cmp thread_cmp a a ≡ true
thread_itself a = ap is_eq (tied_itself thread_cmp_total a)

pub thread_eq : (a b : Thread) → a ≡ b → eq_by_cmp thread_cmp a b ≡ true
thread_eq a b e = subst (λ (c : Thread). eq_by_cmp thread_cmp a c ≡ true) e (thread_itself a)

pub thread_Decides : (a b : Thread) → Decides (eq_by_cmp thread_cmp a b) (a ≡ b)
thread_Decides a b = (thread_same a b, thread_eq a b)

pub step_same : (a b : StepName) → eq_by_cmp step_cmp a b ≡ true → a ≡ b
step_same a b h = step_exact a b ((Equal-is (step_cmp a b)).0 h)

pub step_itself : (a : StepName) → eq_by_cmp step_cmp a a ≡ true
step_itself a = ap is_eq (tied_itself step_cmp_total a)

pub step_eq : (a b : StepName) → a ≡ b → eq_by_cmp step_cmp a b ≡ true
step_eq a b e = subst (λ (c : StepName). eq_by_cmp step_cmp a c ≡ true) e (step_itself a)

pub step_Decides : (a b : StepName) → Decides (eq_by_cmp step_cmp a b) (a ≡ b)
step_Decides a b = (step_same a b, step_eq a b)

-- names that are not one are told apart
not_same : (r : Bool) → (r ≡ true → ⊥) → r ≡ false
not_same true h = absurd (h refl)
not_same false h = refl

pub thread_apart : (a b : Thread) → a ≢ b → eq_by_cmp thread_cmp a b ≡ false
thread_apart a b h = not_same (eq_by_cmp thread_cmp a b) (λ e. h (thread_same a b e))

pub step_apart : (a b : StepName) → a ≢ b → eq_by_cmp step_cmp a b ≡ false
step_apart a b h = not_same (eq_by_cmp step_cmp a b) (λ e. h (step_same a b e))

-- a map as a function, changed at a name
pub thread_update_here : {X : Type 0} (f : Thread → Option X) (k : Thread) (w : Option X) → update (eq_by_cmp thread_cmp) f k w k ≡ w
thread_update_here f k w = rw (thread_itself k)

pub thread_update_apart : {X : Type 0} (f : Thread → Option X) (k : Thread) (w : Option X) (q : Thread) → q ≢ k → update (eq_by_cmp thread_cmp) f k w q ≡ f q
thread_update_apart f k w q h = rw (thread_apart k q (λ e. h (sym e)))

pub step_update_here : {X : Type 0} (f : StepName → Option X) (k : StepName) (w : Option X) → update (eq_by_cmp step_cmp) f k w k ≡ w
step_update_here f k w = rw (step_itself k)

pub step_update_apart : {X : Type 0} (f : StepName → Option X) (k : StepName) (w : Option X) (q : StepName) → q ≢ k → update (eq_by_cmp step_cmp) f k w q ≡ f q
step_update_apart f k w q h = rw (step_apart k q (λ e. h (sym e)))

-- ---- a thread comes before those under its forks

path_longer : (path rest : List (ℕ × ℕ)) (b : ℕ × ℕ) → slice_cmp branch_cmp path (path ++ b ∷ rest) ≡ Less
path_longer [] rest b = refl
path_longer (a ∷ path) rest b = rw (tied_itself branch_cmp_total a, path_longer path rest b)

pub under_later : UnderComesLater
under_later low high fork u =
    let exec : slice_cmp nat_cmp high.exec low.exec ≡ Equal = rw u.0 (tied_itself (lists_total nat_cmp_total) high.exec) in
    rw (exec, u.1.2, path_longer high.path u.1.1 (fork, u.1.0))
