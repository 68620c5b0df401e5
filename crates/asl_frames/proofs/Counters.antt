-- One more use of a retrier, at its place among the counters.
use Rattle.std.proofs.Common.{◌≡◌, ℕ, zero, suc, ◌+◌, ◌<◌, ◌≤◌, List, [], ◌∷◌, length, get_or, set, refl, ap, arith, add-one, sym}
use Rattle.asl_frames.specs.Counters.{one_more}

pub one_more_within : (xs : List ℕ) (i d : ℕ) → i < length xs → one_more xs i ≡ set xs i (get_or xs i d + 1)
one_more_within [] i d h =
    let none : ⊥ = omega (arith, h) in
    absurd none
one_more_within (x ∷ xs) zero d h = ap (λ n. n ∷ xs) (sym (add-one x))
one_more_within (x ∷ xs) (suc i) d h = ap (λ ns. x ∷ ns) (one_more_within xs i d (omega (arith, h)))

pub one_more_past : (xs : List ℕ) (i : ℕ) → length xs ≤ i → one_more xs i ≡ xs
one_more_past [] i h = refl
one_more_past (x ∷ xs) zero h =
    let none : ⊥ = omega (arith, h) in
    absurd none
one_more_past (x ∷ xs) (suc i) h = ap (λ ns. x ∷ ns) (one_more_past xs i (omega (arith, h)))
