-- What a walk through a class finds, by places.
use Rattle.std.specs.Prelude.{◌≡◌, ◌<◌, ◌≤◌, ℕ, Bool, true, false, ◌||◌, List, Option, Some, None, nat_lt, if◌then◌else◌, slice_get}
use Rattle.saved_steps.specs.Steps.{makes, closes}
use Rattle.saved_steps.specs.World.{is_same_thread}
use Rattle.saved_steps.specs.declared.fact.Fact.{Fact}
use Rattle.saved_steps.specs.declared.record.StepRecord.{StepRecord}
use Rattle.depends.specs.Dependence.{begins, awaits, conflicts, depends_directly}

-- Q tells some places: r is the first of these, not below a place, at which a record passes a test
abbrev pub IsFirstFrom : (ℕ → Type 0) → (StepRecord → Bool) → List StepRecord → ℕ → Option ℕ → Type 0
IsFirstFrom Q p rs low None = (k : ℕ) (g : StepRecord) → slice_get rs k ≡ Some g → low ≤ k → Q k → p g ≡ false
IsFirstFrom Q p rs low (Some i) =
    (low ≤ i) × ((g : StepRecord) × (slice_get rs i ≡ Some g) × (p g ≡ true)) × ((k : ℕ) (g : StepRecord) → slice_get rs k ≡ Some g → low ≤ k → k < i → Q k → p g ≡ false)

-- a later step depends directly on one
abbrev pub record_needs : StepRecord → StepRecord → Bool
record_needs f g = depends_directly f.fact g.fact

-- a step is one on which a later one depends directly
abbrev pub needed_by : Fact → StepRecord → Bool
needed_by later r = depends_directly r.fact later

-- a later step depends on one for another reason than an item that both access
abbrev pub names_need : Fact → Fact → Bool
names_need a b = is_same_thread a.name.thread b.name.thread || (begins a b.name.thread || (makes a b.name.thread || (closes b a.name.thread || awaits b a.name.thread)))

-- the record at a place depends on one for such a reason
abbrev pub NeedsByName : List StepRecord → StepRecord → ℕ → Type 0
NeedsByName rs f k = (g : StepRecord) × (slice_get rs k ≡ Some g) × (names_need f.fact g.fact ≡ true)

-- the record at a place depends on one for an item that both access
abbrev pub ConflictsAt : List StepRecord → StepRecord → ℕ → Type 0
ConflictsAt rs f k = (g : StepRecord) × (slice_get rs k ≡ Some g) × (conflicts f.fact.access g.fact.access ≡ true)

-- the lesser of two places, as far as there are any
abbrev pub earlier : Option ℕ → Option ℕ → Option ℕ
earlier None b = b
earlier (Some i) None = Some i
earlier (Some i) (Some j) = if nat_lt i j then Some i else Some j
