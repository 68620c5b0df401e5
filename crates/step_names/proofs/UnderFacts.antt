-- What follows from lying under a fork.
use Rattle.std.proofs.Common.{arith, ◌≡◌, ℕ, ◌<◌, ◌⊎◌, inl, inr, List, [], ◌∷◌, ◌++◌, length, length-append, append_assoc, refl, ap, ap₂, sym, ◌∙◌}
use Rattle.step_names.specs.Thread.{Thread}
use Rattle.step_names.specs.Under.{IsUnder}
use Rattle.step_names.specs.Laws.{ChildIsUnder, UnderIsTransitive, UnderIsOne, UnderIsBelow, UnderIsOneWay, AboveIsInLine}

pub child_under : ChildIsUnder
child_under thread fork branch = (refl, (branch, [], refl))

pub under_transitive : UnderIsTransitive
under_transitive low middle high fork outer u v = (
  u.0 ∙ v.0,
  (
    v.1.0,
    v.1.1 ++ (fork, u.1.0) ∷ u.1.1,
    u.1.2 ∙ ap (λ (path : List (ℕ × ℕ)). path ++ (fork, u.1.0) ∷ u.1.1) v.1.2 ∙ append_assoc high.path ((outer, v.1.0) ∷ v.1.1) ((fork, u.1.0) ∷ u.1.1),
  ),
)

-- two lists that go on from one front by a branch each
next_same : (front : List (ℕ × ℕ)) (a b : ℕ × ℕ) (xs ys : List (ℕ × ℕ)) → front ++ a ∷ xs ≡ front ++ b ∷ ys → a ≡ b
next_same [] a b xs ys h = cc
next_same (x ∷ front) a b xs ys h = next_same front a b xs ys cc

pub under_one : UnderIsOne
under_one low high fork other u v = ap (λ (b : ℕ × ℕ). b.0) (next_same high.path (fork, u.1.0) (other, v.1.0) u.1.1 v.1.1 (sym u.1.2 ∙ v.1.2))

longer : (low high : Thread) (fork : ℕ) → IsUnder low high fork → length high.path < length low.path
longer low high fork u = rw (u.1.2, length-append) (omega arith)

pub under_below : UnderIsBelow
under_below thread fork u = omega (arith, longer thread thread fork u)

pub under_one_way : UnderIsOneWay
under_one_way a b fork other u v = omega (arith, longer a b fork u, longer b a other v)

-- two fronts of one list
lined : (ps qs : List (ℕ × ℕ)) (a b : ℕ × ℕ) (xs ys : List (ℕ × ℕ)) → ps ++ a ∷ xs ≡ qs ++ b ∷ ys
    → (ps ≡ qs) ⊎ (((rest : List (ℕ × ℕ)) × (ps ≡ qs ++ b ∷ rest)) ⊎ ((rest : List (ℕ × ℕ)) × (qs ≡ ps ++ a ∷ rest)))
lined [] [] a b xs ys h = inl refl
lined [] (y ∷ qs) a b xs ys h = let e : a ≡ y = cc in inr (inr (qs, ap (λ (c : ℕ × ℕ). c ∷ qs) (sym e)))
lined (x ∷ ps) [] a b xs ys h = let e : x ≡ b = cc in inr (inl (ps, ap (λ (c : ℕ × ℕ). c ∷ ps) e))
lined (x ∷ ps) (y ∷ qs) a b xs ys h =
    let e : x ≡ y = cc in
    elim (lined ps qs a b xs ys cc) [
      | inl same ↦ inl (ap₂ (λ (c : ℕ × ℕ) (cs : List (ℕ × ℕ)). c ∷ cs) e same)
      | inr under ↦ elim under [
        | inl w ↦ inr (inl (w.0, ap₂ (λ (c : ℕ × ℕ) (cs : List (ℕ × ℕ)). c ∷ cs) e w.1))
        | inr w ↦ inr (inr (w.0, ap₂ (λ (c : ℕ × ℕ) (cs : List (ℕ × ℕ)). c ∷ cs) (sym e) w.1))
      ]
    ]

pub above_in_line : AboveIsInLine
above_in_line low a b fork other u v =
    let exec : a.exec ≡ b.exec = sym u.0 ∙ v.0 in
    elim (lined a.path b.path (fork, u.1.0) (other, v.1.0) u.1.1 v.1.1 (sym u.1.2 ∙ v.1.2)) [
      | inl same ↦ inl (ap₂ (λ (bytes : List ℕ) (path : List (ℕ × ℕ)). let t : Thread = record { exec = bytes; path = path } in t) exec same)
      | inr under ↦ elim under [
        | inl w ↦ inr (inl (exec, (v.1.0, w.0, w.1)))
        | inr w ↦ inr (inr (sym exec, (u.1.0, w.0, w.1)))
      ]
    ]
