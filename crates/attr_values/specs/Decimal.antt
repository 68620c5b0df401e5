-- Decimal numbers, and their order.
use Rattle.std.specs.Prelude.{ℕ, ℤ, pos, ◌*ℤ◌, ◌^◌, ◌<◌, ◌≤◌, ◌≢◌, ◌%◌, unsigned_abs}
use Rattle.std.specs.declared.cmp.Ordering.{Ordering}
use Rattle.std.specs.Ordering.{nat_cmp, int_cmp, ordering_then}

-- the number that is the coefficient divided by ten to the places
pub record Decimal : Type 0 where
  pub coefficient : ℤ
  pub places : ℕ

-- the form that each number has once: no zero at the end of the fraction; and the bounds that a number keeps
pub record IsNormal (d : Decimal) : Type 0 where
  pub digits : unsigned_abs d.coefficient < 10 ^ 38
  pub places : d.places ≤ 100
  pub shortest : 0 < d.places → unsigned_abs d.coefficient % 10 ≢ 0

-- the order of the two numbers: their fractions are brought to one denominator
abbrev pub value_cmp : Decimal → Decimal → Ordering
value_cmp a b = int_cmp (a.coefficient *ℤ pos (10 ^ b.places)) (b.coefficient *ℤ pos (10 ^ a.places))

-- the same order on all pairs, where two forms of one number go by their places; numbers in normal form have one form
abbrev pub decimal_cmp : Decimal → Decimal → Ordering
decimal_cmp a b = ordering_then (value_cmp a b) (nat_cmp a.places b.places)
