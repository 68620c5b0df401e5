-- The entries of the table: a number and a line each. A table has no order, so they are compared but for their order.
use Rattle.std.specs.Prelude.{◌≡◌, ◌≢◌, ℕ, ℤ, pos, ◌+ℤ◌, false, List, [], ◌∷◌, ◌++◌, length, map, slice_get, All, Contains, Option, Some, None, IsPermutation, IsSorted}
use Rattle.std.specs.Borrow.{Bor}
use Rattle.std.specs.Ordering.{is_lt}
use Rattle.sqlite.specs.declared.types.Value.{Value}
use Rattle.sqlite.specs.declared.types.Value.TheVariants.{Int, Text}
use Rattle.sqlite.specs.Order.{Row, column, value_cmp}
use Rattle.sqlite.specs.Tree.{Trees}

-- the number and the line of a row of the table
abbrev pub shown : Row → Row
shown row = column row 0 ∷ column row 2 ∷ []

abbrev pub entries : Trees → List Row
entries trees = map shown (trees 0)

abbrev pub entry : ℤ → List ℕ → Row
entry number line = Int number ∷ Text line ∷ []

abbrev pub texts : List (Bor (List ℕ)) → List (List ℕ)
texts lines = map (λ line. line.now) lines

-- these lines, numbered from this number on
abbrev pub numbered : ℤ → List (List ℕ) → List Row
numbered from [] = []
numbered from (line ∷ lines) = entry from line ∷ numbered (from +ℤ pos 1) lines

-- the entries are these lines, numbered from 0 on
abbrev pub HoldLines : List Row → List (List ℕ) → Type 0
HoldLines rows lines = IsPermutation (numbered (pos 0) lines) rows

abbrev pub row_number : Row → Value
row_number row = column row 0

abbrev pub row_numbers : List Row → List Value
row_numbers rows = map row_number rows

-- this is the number of an entry, and none is greater
pub record IsGreatest (rows : List Row) (number : ℤ) : Type 0 where
  pub held : Contains (row_numbers rows) (Int number)
  pub top : All (λ v. is_lt (value_cmp (Int number) v) ≡ false) (row_numbers rows)

-- the greatest number, none where there is no entry
abbrev pub IsLastNumber : List Row → Option ℤ → Type 0
IsLastNumber rows None = rows ≡ []
IsLastNumber rows (Some number) = IsGreatest rows number

abbrev pub number_after : Option ℤ → ℤ
number_after None = pos 0
number_after (Some number) = number +ℤ pos 1

-- the greatest number once these lines are added
abbrev pub last_after : Option ℤ → List (List ℕ) → Option ℤ
last_after last [] = last
last_after last (line ∷ lines) = last_after (Some (number_after last)) lines

-- the lines are added to the entries, with the numbers that go on from the last
pub record AddLines (old : List Row) (lines : List (List ℕ)) (new : List Row) : Type 0 where
  pub last : Option ℤ
  pub is_last : IsLastNumber old last
  pub added : IsPermutation (old ++ numbered (number_after last) lines) new

-- the same entries, in the order of their numbers
pub record AreInOrder (rows ordered : List Row) : Type 0 where
  pub same : IsPermutation rows ordered
  pub rising : IsSorted value_cmp (row_numbers ordered)

-- of rows, the first whose number isn't its position
pub record HaveGapAt (position : ℕ) (rows : List Row) : Type 0 where
  pub before : List (List ℕ)
  pub first : Row
  pub after : List Row
  pub parts : rows ≡ numbered (pos 0) before ++ first ∷ after
  pub position_is : position ≡ length before
  pub differs : row_number first ≢ Int (pos position)

-- of entries, in the order of their numbers
abbrev pub HaveGap : List Row → ℕ → Type 0
HaveGap rows position = (ordered : List Row) × AreInOrder rows ordered × HaveGapAt position ordered

-- the number that a query showed of the last of the entries, in a row of its own, or no row where there is no entry
pub record ShowLast (rows shown : List Row) : Type 0 where
  pub none : slice_get shown 0 ≡ None → rows ≡ []
  pub some : (row : Row) (number : ℤ) → slice_get shown 0 ≡ Some row → row_number row ≡ Int number → IsGreatest rows number
  pub held : (row : Row) → slice_get shown 0 ≡ Some row → Contains (row_numbers rows) (row_number row)

-- the first two values of a row that a query showed
abbrev pub pair : Row → Row
pair row = column row 0 ∷ column row 1 ∷ []
