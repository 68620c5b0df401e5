-- Members of classes, and their neighbours in each class.
use Rattle.std.specs.Prelude.{◌≡◌, ◌==◌, ◌<◌, ℕ, Option, None, Some, cond}

-- ---- f gives the class of each number; R is ◌<◌ where one looks towards the greater numbers, and else its converse

-- r is the member of c nearest to i beyond it
abbrev pub IsNearest : (ℕ → ℕ → Type 0) → (ℕ → Option ℕ) → ℕ → ℕ → Option ℕ → Type 0
IsNearest R f c i None = (k : ℕ) → R i k → f k ≡ Some c → ⊥
IsNearest R f c i (Some j) = R i j × (f j ≡ Some c) × ((k : ℕ) → R i k → R k j → f k ≡ Some c → ⊥)

-- r is the member of c that one meets before all others
abbrev pub IsForemost : (ℕ → ℕ → Type 0) → (ℕ → Option ℕ) → ℕ → Option ℕ → Type 0
IsForemost R f c None = (k : ℕ) → f k ≡ Some c → ⊥
IsForemost R f c (Some j) = (f j ≡ Some c) × ((k : ℕ) → R k j → f k ≡ Some c → ⊥)

abbrev pub Rises : ℕ → ℕ → Type 0
Rises a b = a < b

abbrev pub Falls : ℕ → ℕ → Type 0
Falls a b = b < a

-- the least member of c that is greater than i, which need be none itself; the greatest that is less; the least; the greatest
abbrev pub IsNext : (ℕ → Option ℕ) → ℕ → ℕ → Option ℕ → Type 0
IsNext = IsNearest Rises

abbrev pub IsBefore : (ℕ → Option ℕ) → ℕ → ℕ → Option ℕ → Type 0
IsBefore = IsNearest Falls

abbrev pub IsFirst : (ℕ → Option ℕ) → ℕ → Option ℕ → Type 0
IsFirst = IsForemost Rises

abbrev pub IsLast : (ℕ → Option ℕ) → ℕ → Option ℕ → Type 0
IsLast = IsForemost Falls

-- ---- functions that are changed at one number

abbrev pub updated : {A : Type 0} → ℕ → (ℕ → A) → A → ℕ → A
updated i f v k = cond (k == i) v (f k)

-- the link of a number, if there is one
abbrev pub relinked : Option ℕ → (ℕ → Option ℕ) → Option ℕ → ℕ → Option ℕ
relinked None f v = f
relinked (Some i) f v = updated i f v

-- the end of a class, where nothing is beyond the one that comes or goes
abbrev pub reended : Option ℕ → ℕ → (ℕ → Option ℕ) → Option ℕ → ℕ → Option ℕ
reended None c f v = updated c f v
reended (Some i) c f v = f

-- ---- the links of all members and the ends of all classes; classes are below a width
pub record AreLinked (f next before first last : ℕ → Option ℕ) (width : ℕ) : Type 0 where
  pub known : (k c : ℕ) → f k ≡ Some c → c < width
  pub nexts : (k c : ℕ) → f k ≡ Some c → IsNext f c k (next k)
  pub befores : (k c : ℕ) → f k ≡ Some c → IsBefore f c k (before k)
  pub firsts : (c : ℕ) → IsFirst f c (first c)
  pub lasts : (c : ℕ) → IsLast f c (last c)
