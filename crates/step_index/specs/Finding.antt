-- Steps that a plan found, and the next place that is due for them.
use Rattle.std.specs.Prelude.{◌≡◌, ◌<◌, ◌≤◌, ◌+◌, All, ℕ, true, false, List, [], ◌∷◌, length, map, Option, None, Some, slice_get}
use Rattle.saved_steps.specs.declared.record.StepRecord.{StepRecord}
use Rattle.depends.specs.Plans.{depends_on_some}
use Rattle.depends.specs.Marks.{AreMarksOf}
use Rattle.step_index.specs.Due.{AreDue, HasOpenClasses, is_due}
use Rattle.step_index.specs.Near.{is_near}
use Rattle.step_index.specs.declared.found.FoundSteps.{FoundSteps}

abbrev pub pick : Option StepRecord → List StepRecord → List StepRecord
pick None rs = rs
pick (Some r) rs = r ∷ rs

-- the records at some places
abbrev pub records_at : List StepRecord → List ℕ → List StepRecord
records_at rs [] = []
records_at rs (p ∷ ps) = pick (slice_get rs p) (records_at rs ps)

-- the marks are those of the steps that were found; the classes of each are open, and the places there, from one on, are due
pub record AreFound (rs : List StepRecord) (from : ℕ) (s : FoundSteps) : Type 0 where
  pub within : All (λ p. p < length rs) s.places.items
  pub marked : AreMarksOf (map (λ r. r.fact) (records_at rs s.places.items)) s.marks
  pub due : AreDue rs from s.due
  pub opened : (k : ℕ) (r : StepRecord) → slice_get (records_at rs s.places.items) k ≡ Some r → HasOpenClasses s.due r.fact
  pub near : (k : ℕ) (g : StepRecord) → slice_get rs k ≡ Some g → is_due s.due k ≡ true → is_near rs s.places.items g ≡ true

-- the step at a place depends directly on none that was found
abbrev pub IsFree : List StepRecord → List ℕ → ℕ → Type 0
IsFree rs places k = (g : StepRecord) → slice_get rs k ≡ Some g → depends_on_some (map (λ r. r.fact) rs) places g.fact ≡ false

-- the next place at which a step may depend directly on one that was found; this was taken
pub record IsNextDueAt (rs : List StepRecord) (from : ℕ) (old new : FoundSteps) (place : ℕ) : Type 0 where
  pub low : from ≤ place
  pub within : place < length rs
  pub free : (k : ℕ) → from ≤ k → k < place → IsFree rs old.places.items k
  pub near : (g : StepRecord) → slice_get rs place ≡ Some g → is_near rs old.places.items g ≡ true
  pub found : AreFound rs (place + 1) new

abbrev pub IsNextDue : List StepRecord → ℕ → FoundSteps → FoundSteps → Option ℕ → Type 0
IsNextDue rs from old new None = (k : ℕ) → from ≤ k → IsFree rs old.places.items k
IsNextDue rs from old new (Some place) = IsNextDueAt rs from old new place
