-- Names in the order in which they came, with the room for more; and the class in which each is.
use Rattle.std.specs.Prelude.{◌≡◌, ◌≤◌, ◌<◌, ◌+◌, ◌^◌, ◌%◌, ◌++◌, ℕ, Bool, List, option_map, length, slice_get}
use Rattle.std.specs.Hash as fed
use Rattle.std.specs.Hash.FoldHasher as folding
use Rattle.std.specs.List.{fold, list_any}
use Rattle.std.specs.Ordering.{eq_by_cmp}
use Rattle.linked_classes.specs.Classes.{Classes, class_of}
use Rattle.step_names.specs.Order.{step_cmp}
use Rattle.step_names.specs.declared.step.StepName.{StepName}

-- of the hash only this is used, that it is a function
unfoldable pub bucket : StepName → ℕ
bucket name =
    folding.finish (fold folding.write (fold folding.write (fold folding.write folding.initial (fed.str name.thread.exec)) (fed.slice (λ b. fed.u32 b.0 ++ fed.u32 b.1) name.thread.path)) (fed.u32 name.no)) % 8191

-- the names; for how many there is room in their list, for which numbers and for how many more members there is room in the classes,
-- and how many classes there are
pub record SettledNamesView : Type 0 where
  pub items : List StepName
  pub capacity : ℕ
  pub room : ℕ
  pub spare : ℕ
  pub width : ℕ

-- there is room for so many more
pub record HasRoomFor (v : SettledNamesView) (more : ℕ) : Type 0 where
  pub listed : length v.items + more ≤ v.capacity
  pub numbered : length v.items + more ≤ v.room
  pub linked : more ≤ v.spare
  pub classed : 8191 ≤ v.width
  pub few : length v.items + more < 2 ^ 32

-- one of some names is this
abbrev pub is_name_among : StepName → List StepName → Bool
is_name_among name ns = list_any (λ n. eq_by_cmp step_cmp n name) ns

-- each name is in its class, by its number, and no other number is in one
pub record AreClassed (ns : List StepName) (v : Classes) : Type 0 where
  pub long : length v.classes ≡ length ns
  pub classed : (k : ℕ) → class_of v k ≡ option_map bucket (slice_get ns k)
