-- Places in a list, and the numbers that they have.
use Rattle.std.specs.Prelude.{◌≡◌, ◌==◌, ◌<◌, ℕ, zero, suc, List, [], ◌∷◌, Some, cond, slice_get}

-- a number that stands later is greater
pub record IsRising (ns : List ℕ) : Type 0 where
  pub rises : (i j m n : ℕ) → i < j → slice_get ns i ≡ Some m → slice_get ns j ≡ Some n → m < n

-- the place of a number, and behind all where it is none
abbrev pub place_in : List ℕ → ℕ → ℕ
place_in [] n = zero
place_in (m ∷ ms) n = cond (m == n) zero (suc (place_in ms n))

-- a number is one of a place
abbrev pub IsNumber : List ℕ → ℕ → Type 0
IsNumber ns n = slice_get ns (place_in ns n) ≡ Some n
