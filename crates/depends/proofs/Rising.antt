-- The forks above a thread are those under which it lies.
use Rattle.std.proofs.Common.{◌≡◌, ℕ, Bool, true, List, [], ◌∷◌, ◌++◌, append_assoc, append-nil, refl, ap, sym, subst, ◌∙◌, inl, inr}
use Rattle.std.specs.List.{list_any}
use Rattle.std.specs.Ordering.{eq_by_cmp}
use Rattle.std.proofs.lemmas.Bool.{and_from, and_parts, or_cases, or_left, or_right}
use Rattle.step_names.proofs.OrderLaws.{step_eq, step_same}
use Rattle.step_names.proofs.UnderLaws.{under_Decides}
use Rattle.step_names.specs.Order.{step_cmp}
use Rattle.step_names.specs.Thread.{Thread}
use Rattle.step_names.specs.Under.{is_under}
use Rattle.step_names.specs.declared.step.StepName.{StepName}
use Rattle.depends.specs.Above.{fork_above, forks_above, forks_from, goes_by}
use Rattle.depends.specs.declared.above.Above.{Above}
use Rattle.depends.proofs.Anyone.{any_same, same_bool}

module _ (passes : Above → Bool) (exec : List ℕ) where
  -- where a path is parted at a branch whose fork passes
  pub record Parted (front path : List (ℕ × ℕ)) : Type 0 where
    pub before : List (ℕ × ℕ)
    pub branch : ℕ × ℕ
    pub rest : List (ℕ × ℕ)
    pub whole : path ≡ before ++ branch ∷ rest
    pub there : passes (fork_above exec (front ++ before) branch) ≡ true

  pub parted : (front path : List (ℕ × ℕ)) → list_any passes (forks_from exec front path) ≡ true → Parted front path
  parted front [] h = cc
  parted front (b ∷ path) h =
      elim (or_cases (passes (fork_above exec front b)) (list_any passes (forks_from exec (front ++ b ∷ []) path)) h) [
        | inl k ↦ record {
          before = [];
          branch = b;
          rest = path;
          whole = refl;
          there = ap (λ l. passes (fork_above exec l b)) (append-nil front) ∙ k;
        }
        | inr k ↦
            let p = parted (front ++ b ∷ []) path k in
            record {
              before = b ∷ p.before;
              branch = p.branch;
              rest = p.rest;
              whole = ap (λ (l : List (ℕ × ℕ)). b ∷ l) p.whole;
              there = ap (λ l. passes (fork_above exec l p.branch)) (sym (append_assoc front (b ∷ []) p.before)) ∙ p.there;
            }
      ]

  pub joined : (front before : List (ℕ × ℕ)) (branch : ℕ × ℕ) (rest : List (ℕ × ℕ)) → passes (fork_above exec (front ++ before) branch) ≡ true → list_any passes (forks_from exec front (before ++ branch ∷ rest)) ≡ true
  joined front [] branch rest h = or_left _ _ (ap (λ l. passes (fork_above exec l branch)) (sym (append-nil front)) ∙ h)
  joined front (b ∷ before) branch rest h = or_right _ _ (joined (front ++ b ∷ []) before branch rest (ap (λ l. passes (fork_above exec l branch)) (append_assoc front (b ∷ []) before) ∙ h))

-- a thread lies under a fork by a branch whose index passes
pub record LiesBy (t : Thread) (s : StepName) (test : ℕ → Bool) : Type 0 where
  pub exec : t.exec ≡ s.thread.exec
  pub branch : ℕ
  pub rest : List (ℕ × ℕ)
  pub path : t.path ≡ s.thread.path ++ (s.no, branch) ∷ rest
  pub passes : test branch ≡ true

pub lies_to : (t : Thread) (s : StepName) (test : ℕ → Bool) → list_any (goes_by s test) (forks_above t) ≡ true → LiesBy t s test
lies_to t s test h =
    let p = parted (goes_by s test) t.exec [] t.path h in
    let x = fork_above t.exec p.before p.branch in
    let k = and_parts (eq_by_cmp step_cmp x.fork s) (test x.branch) p.there in
    let same = step_same x.fork s k.0 in
    record {
      exec = ap (λ (y : StepName). y.thread.exec) same;
      branch = p.branch.1;
      rest = p.rest;
      path = p.whole ∙ ap (λ (y : StepName). y.thread.path ++ (y.no, p.branch.1) ∷ p.rest) same;
      passes = k.1;
    }

pub lies_from : (t : Thread) (s : StepName) (test : ℕ → Bool) → LiesBy t s test → list_any (goes_by s test) (forks_above t) ≡ true
lies_from t s test l =
    subst (λ path. list_any (goes_by s test) (forks_from t.exec [] path) ≡ true) (sym l.path)
    (joined (goes_by s test) t.exec [] s.thread.path (s.no, l.branch) l.rest
    (and_from _ (test l.branch) (step_eq (fork_above t.exec s.thread.path (s.no, l.branch)).fork s (ap (λ (e : List ℕ). (fork_above e s.thread.path (s.no, l.branch)).fork) l.exec)) l.passes))

-- by any branch
pub lies_under : (t : Thread) (s : StepName) → list_any (goes_by s (λ i. true)) (forks_above t) ≡ is_under t s.thread s.no
lies_under t s =
    same_bool _ _
    (λ h. let l = lies_to t s (λ i. true) h in (under_Decides t s.thread s.no).1 (l.exec, (l.branch, l.rest, l.path)))
    (λ h.
    let u = (under_Decides t s.thread s.no).0 h in
    lies_from t s (λ i. true) (record { exec = u.0; branch = u.1.0; rest = u.1.1; path = u.1.2; passes = refl }))

turned : (s : StepName) (x : Above) → eq_by_cmp step_cmp s x.fork ≡ goes_by s (λ i. true) x
turned s x = same_bool _ _ (λ h. and_from _ true (step_eq x.fork s (sym (step_same s x.fork h))) refl) (λ h. step_eq s x.fork (sym (step_same x.fork s (and_parts (eq_by_cmp step_cmp x.fork s) true h).0)))

pub is_above : (t : Thread) (s : StepName) → list_any (λ x. eq_by_cmp step_cmp s x.fork) (forks_above t) ≡ is_under t s.thread s.no
is_above t s = any_same (λ (x : Above). eq_by_cmp step_cmp s x.fork) (goes_by s (λ i. true)) (forks_above t) (turned s) ∙ lies_under t s
