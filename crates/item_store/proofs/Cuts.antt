-- What `split_once` gives is what the cut is.
use Rattle.std.proofs.Common.{◌≡◌, ◌<◌, ℕ, suc, ◌+◌, ◌==◌, Bool, true, false, not, cond, List, [], ◌∷◌, length, take, drop, Option, None, Some, option_map, MatchOption, Bor, refl, sym, ◌∙◌, arith}
use Rattle.std.specs.List.{position_or_len, before_first, after_first}
use Rattle.item_store.specs.Condition.{cut_at_byte}

abbrev pub both : List ℕ → List ℕ → Option (List ℕ × List ℕ)
both a b = Some (a, b)

none_by : (b : Bool) (n len c : ℕ) (s : List ℕ) (rest : Option (List ℕ × List ℕ)) → cond (not b) (1 + n) 0 ≡ suc len → (n ≡ len → rest ≡ None)
    → cond b (both [] s) (option_map (λ x. (c ∷ x.0, x.1)) rest) ≡ None
none_by true n len c s rest h k = absurd (omega arith)
none_by false n len c s rest h k = rw (k (omega arith)) refl

pub cut_none : (p : ℕ) (s : List ℕ) → position_or_len (λ b. b == p) s ≡ length s → cut_at_byte p s ≡ None
cut_none p [] h = refl
cut_none p (c ∷ s) h = none_by (c == p) (position_or_len (λ b. b == p) s) (length s) c s (cut_at_byte p s) h (cut_none p s)

shifted : (n c : ℕ) (s : List ℕ) (m : ℕ) → m ≡ suc n → both (c ∷ take n s) (drop (n + 1) s) ≡ both (take m (c ∷ s)) (drop (m + 1) (c ∷ s))
shifted n c s m e =
    let f : suc (n + 1) ≡ m + 1 = omega arith in
    λ j. both (take (sym e j) (c ∷ s)) (drop (f j) (c ∷ s))

some_by : (b : Bool) (n c : ℕ) (s : List ℕ) (rest : Option (List ℕ × List ℕ)) → cond (not b) (1 + n) 0 < suc (length s)
    → (n < length s → rest ≡ both (take n s) (drop (n + 1) s))
    → cond b (both [] s) (option_map (λ x. (c ∷ x.0, x.1)) rest)
    ≡ both (take (cond (not b) (1 + n) 0) (c ∷ s)) (drop (cond (not b) (1 + n) 0 + 1) (c ∷ s))
some_by true n c s rest h k = refl
some_by false n c s rest h k = rw (k (omega arith)) (shifted n c s (1 + n) (omega arith))

pub cut_some : (p : ℕ) (s : List ℕ) → position_or_len (λ b. b == p) s < length s → cut_at_byte p s ≡ both (before_first (λ b. b == p) s) (after_first (λ b. b == p) s)
cut_some p [] h = absurd (omega arith)
cut_some p (c ∷ s) h = some_by (c == p) (position_or_len (λ b. b == p) s) c s (cut_at_byte p s) h (cut_some p s)

-- what `split_once` gives
pub cut_is : (p : ℕ) (s : List ℕ) (r : Option (Bor (List ℕ) × Bor (List ℕ)))
    → MatchOption r (position_or_len (λ b. b == p) s ≡ length s)
    (λ x. (x.0.now ≡ before_first (λ b. b == p) s) × (x.1.now ≡ after_first (λ b. b == p) s) × (position_or_len (λ b. b == p) s < length s))
    → MatchOption r (cut_at_byte p s ≡ None) (λ x. cut_at_byte p s ≡ Some (x.0.now, x.1.now))
cut_is p s None h = cut_none p s h
cut_is p s (Some x) h = cut_some p s h.2 ∙ (λ j. both (sym h.0 j) (sym h.1 j))
