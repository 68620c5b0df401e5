-- What is kept of each member.
use Rattle.std.specs.Prelude.{◌≡◌, ◌≤◌, ℕ, List, Option, None, Some, length}
use Rattle.linked_classes.specs.Cells.{cell_at}
use Rattle.linked_classes.specs.Linked.{IsBefore, IsNext, AreLinked}
use Rattle.linked_classes.specs.declared.member.Member.{Member}

-- f gives the class of each number: these are the neighbours of i in the member's class, whether or not i is in it
pub record FitsAt (f : ℕ → Option ℕ) (i : ℕ) (m : Member) : Type 0 where
  pub before : IsBefore f m.class i m.before
  pub next : IsNext f m.class i m.next

-- this is what there is to tell of i
abbrev pub StandsAt : (ℕ → Option ℕ) → ℕ → Member → Type 0
StandsAt f i m = (f i ≡ Some m.class) × FitsAt f i m

abbrev pub class_in : Option Member → Option ℕ
class_in None = None
class_in (Some m) = Some m.class

abbrev pub next_in : Option Member → Option ℕ
next_in None = None
next_in (Some m) = m.next

abbrev pub before_in : Option Member → Option ℕ
before_in None = None
before_in (Some m) = m.before

abbrev pub member_classes : (ℕ → Option Member) → ℕ → Option ℕ
member_classes cell k = class_in (cell k)

abbrev pub nexts_in : (ℕ → Option Member) → ℕ → Option ℕ
nexts_in cell k = next_in (cell k)

abbrev pub befores_in : (ℕ → Option Member) → ℕ → Option ℕ
befores_in cell k = before_in (cell k)

pub record AreMembers (cell : ℕ → Option Member) (first last : List (Option ℕ)) : Type 0 where
  pub linked : AreLinked (member_classes cell) (nexts_in cell) (befores_in cell) (cell_at first) (cell_at last) (length first)
  pub ends : length first ≤ length last
