-- What contracts see of the steps that are left of a hold, by their places among records; and the classes in which they are.
use Rattle.std.specs.Prelude.{◌≡◌, ◌<◌, ◌==◌, ℕ, Bool, true, false, ◌&&◌, nat_le, List, [], ◌∷◌, filter, length, map, Option, None, Some, slice_get, if◌then◌else◌}
use Rattle.linked_classes.specs.Sets.{Classed, set_of}
use Rattle.saved_steps.specs.declared.fact.Fact.{Fact}
use Rattle.saved_steps.specs.declared.record.StepRecord.{StepRecord}
use Rattle.step_index.specs.Buckets.{by_home, by_exec, by_key, by_write}

-- which places are left; the classes of the steps there, of the other places none; and whether there is room for one more place
pub record Held : Type 0 where
  pub marks : List Bool
  pub threads : List (Option ℕ)
  pub execs : List (Option ℕ)
  pub keys : List (Option ℕ)
  pub writes : List (Option ℕ)
  pub has_room : Bool

-- the classes of those records alone that are left
abbrev pub classes_left : (Fact → Option ℕ) → List Bool → List StepRecord → List (Option ℕ)
classes_left by [] rs = []
classes_left by (m ∷ ms) [] = []
classes_left by (m ∷ ms) (r ∷ rs) = (if m then by r.fact else None) ∷ classes_left by ms rs

-- these are the places that are left of these records
pub record AreLeft (rs : List StepRecord) (h : Held) : Type 0 where
  pub many : length h.marks ≡ length rs
  pub homed : h.threads ≡ classes_left by_home h.marks rs
  pub run : h.execs ≡ classes_left by_exec h.marks rs
  pub keyed : h.keys ≡ classes_left by_key h.marks rs
  pub wrote : h.writes ≡ classes_left by_write h.marks rs

-- the step at a place is left
abbrev pub IsLeftAt : Held → ℕ → Type 0
IsLeftAt h k = slice_get h.marks k ≡ Some true

-- and it is one on which a later one depends for such a reason
abbrev pub LeftFor : (Fact → Bool) → List StepRecord → Held → ℕ → Type 0
LeftFor why rs h k = IsLeftAt h k × ((g : StepRecord) × (slice_get rs k ≡ Some g) × (why g.fact ≡ true))

-- how many are left
abbrev pub count_left : List Bool → ℕ
count_left ms = length (filter (λ (m : Bool). m) ms)

-- the last place that is left
abbrev pub IsLastLeft : List Bool → Option ℕ → Type 0
IsLastLeft ms None = (k : ℕ) → slice_get ms k ≡ Some true → ⊥
IsLastLeft ms (Some i) = (slice_get ms i ≡ Some true) × ((k : ℕ) → i < k → slice_get ms k ≡ Some true → ⊥)

-- the classes of a step that is left, in six sets: that of those that are left, its home's, its execution's, none, its key's and
-- that of the key that it wrote
abbrev pub left_classes : Fact → List (Option ℕ)
left_classes f = Some 0 ∷ by_home f ∷ by_exec f ∷ None ∷ by_key f ∷ by_write f ∷ []

-- ---- inside, the places that are left are in class 0 of the first set

abbrev pub is_mark : Option ℕ → Bool
is_mark None = false
is_mark (Some c) = c == 0

pub record AreAlongside (v : Classed Bool) (count : ℕ) : Type 0 where
  pub counted : count ≡ count_left v.items
  pub left : map is_mark (set_of v 0) ≡ v.items

-- there is room for one more place, and there is each class
abbrev pub has_place_room : Classed Bool → Bool
has_place_room v = v.has_room && nat_le 16381 v.width
