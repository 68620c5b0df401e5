-- What contracts see of numbers in classes.
use Rattle.std.specs.Prelude.{ℕ, List, Option}
use Rattle.linked_classes.specs.Cells.{cell_at}

-- the class of each number; how many classes there are; for which numbers there is room, and for how many more members
pub record Classes : Type 0 where
  pub classes : List (Option ℕ)
  pub width : ℕ
  pub room : ℕ
  pub spare : ℕ

-- the class of a number, if it is in one
abbrev pub class_of : Classes → ℕ → Option ℕ
class_of v = cell_at v.classes
