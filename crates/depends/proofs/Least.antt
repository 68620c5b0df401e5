-- Of each fork the least index is kept.
use Rattle.std.proofs.Common.{◌≡◌, ◌+◌, arith, ℕ, Bool, true, false, cond, Option, None, Some, nat_le, leb-false, leb-true, refl, ap, sym, subst, ◌∙◌, inl, inr}
use Rattle.std.specs.Prelude.{◌||◌, ◌&&◌}
use Rattle.std.specs.BTreeMap.{is_at}
use Rattle.std.specs.Ordering.{eq_by_cmp}
use Rattle.std.proofs.lemmas.Bool.{or_cases, or_left, or_right}
use Rattle.step_names.proofs.OrderLaws.{step_same}
use Rattle.step_names.specs.Order.{step_cmp}
use Rattle.step_names.specs.declared.step.StepName.{StepName}
use Rattle.depends.specs.Above.{IsDownward, goes_by, passes}
use Rattle.depends.specs.declared.above.Above.{Above}
use Rattle.depends.proofs.Anyone.{or_false, same_bool}

kept_at : (o : Option ℕ) (b : ℕ) (test : ℕ → Bool) → IsDownward test → passes (λ i. nat_le (i + 0) b) o ≡ true → passes test o ≡ (passes test o || test b)
kept_at None b test down h = absurd (let e : false ≡ true = h in cc)
kept_at (Some i) b test down h = same_bool (test i) (test i || test b) (λ k. or_left _ _ k) (λ k. elim (or_cases (test i) (test b) k) [ inl x ↦ x | inr x ↦ down i b (let l = leb-true (i + 0) b h in omega (arith, l)) x ])

new_at : (o : Option ℕ) (b : ℕ) (test : ℕ → Bool) → IsDownward test → passes (λ i. nat_le (i + 0) b) o ≡ false → test b ≡ (passes test o || test b)
new_at None b test down h = refl
new_at (Some i) b test down h = same_bool (test b) (test i || test b) (λ k. or_right _ _ k) (λ k. elim (or_cases (test i) (test b) k) [ inl x ↦ down b i (let l = leb-false (i + 0) b h in omega (arith, l)) x | inr x ↦ x ])

module _ (g : StepName → Option ℕ) (x : Above) (s : StepName) (test : ℕ → Bool) (down : IsDownward test) where
  pub least_kept : passes (λ i. nat_le (i + 0) x.branch) (g x.fork) ≡ true → passes test (g s) ≡ (passes test (g s) || goes_by s test x)
  least_kept h = by (eq_by_cmp step_cmp x.fork s) refl
    where
      by : (b : Bool) → eq_by_cmp step_cmp x.fork s ≡ b → passes test (g s) ≡ (passes test (g s) || (eq_by_cmp step_cmp x.fork s && test x.branch))
      by true e = rw e (subst (λ f. passes test (g f) ≡ (passes test (g f) || test x.branch)) (step_same x.fork s e) (kept_at (g x.fork) x.branch test down h))
      by false e = rw e (sym (or_false (passes test (g s))))

  pub least_new : (o : Option ℕ) → passes (λ i. nat_le (i + 0) x.branch) (g x.fork) ≡ false → o ≡ cond (is_at (step_cmp x.fork) s) (Some x.branch) (g s) → passes test o ≡ (passes test (g s) || goes_by s test x)
  least_new o h is = ap (passes test) is ∙ by (eq_by_cmp step_cmp x.fork s) refl
    where
      by : (b : Bool) → eq_by_cmp step_cmp x.fork s ≡ b → passes test (cond (eq_by_cmp step_cmp x.fork s) (Some x.branch) (g s)) ≡ (passes test (g s) || (eq_by_cmp step_cmp x.fork s && test x.branch))
      by true e = rw e (subst (λ f. test x.branch ≡ (passes test (g f) || test x.branch)) (step_same x.fork s e) (new_at (g x.fork) x.branch test down h))
      by false e = rw e (sym (or_false (passes test (g s))))
