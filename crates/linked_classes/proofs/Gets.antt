-- Elements of lists that change.
use Rattle.std.proofs.Common.{◌≡◌, ◌≢◌, ◌<◌, arith, ℕ, zero, suc, List, [], ◌∷◌, ◌++◌, Some, length, take, refl, ap, inl, inr, ◌⊎◌}
use Rattle.std.specs.Prelude.{slice_get, slice_set}
use Rattle.std.proofs.lemmas.Bool.Decides.{eqb_tells}

pub one_or_other : (a b : ℕ) → (a ≡ b) ⊎ (a ≢ b)
one_or_other a b = elim (eqb_tells a b) [ inl w ↦ inl w.1 | inr w ↦ inr w.1 ]

module _ {A : Type 0} where
  pub older : (xs : List A) (x : A) (k : ℕ) → k ≢ length xs → slice_get (xs ++ x ∷ []) k ≡ slice_get xs k
  older [] x zero apart = absurd (apart refl)
  older [] x (suc k) apart = refl
  older (y ∷ ys) x zero apart = refl
  older (y ∷ ys) x (suc k) apart = older ys x k (λ e. apart (ap suc e))

  pub newest : (xs : List A) (x : A) → slice_get (xs ++ x ∷ []) (length xs) ≡ Some x
  newest [] x = refl
  newest (y ∷ ys) x = newest ys x

  pub set_here : (xs : List A) (i : ℕ) (x : A) → i < length xs → slice_get (slice_set xs i x) i ≡ Some x
  set_here [] i x within = absurd (omega (arith, within))
  set_here (y ∷ ys) zero x within = refl
  set_here (y ∷ ys) (suc i) x within = set_here ys i x (omega (arith, within))

  pub set_elsewhere : (xs : List A) (i : ℕ) (x : A) (k : ℕ) → k ≢ i → slice_get (slice_set xs i x) k ≡ slice_get xs k
  set_elsewhere [] i x k apart = refl
  set_elsewhere (y ∷ ys) zero x zero apart = absurd (apart refl)
  set_elsewhere (y ∷ ys) zero x (suc k) apart = refl
  set_elsewhere (y ∷ ys) (suc i) x zero apart = refl
  set_elsewhere (y ∷ ys) (suc i) x (suc k) apart = set_elsewhere ys i x k (λ e. apart (ap suc e))

  pub taken : (n : ℕ) (xs : List A) (k : ℕ) → k < n → slice_get (take n xs) k ≡ slice_get xs k
  taken zero xs k within = absurd (omega (arith, within))
  taken (suc n) [] k within = refl
  taken (suc n) (y ∷ ys) zero within = refl
  taken (suc n) (y ∷ ys) (suc k) within = taken n ys k (omega (arith, within))
