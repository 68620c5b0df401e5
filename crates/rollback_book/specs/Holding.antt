-- What a book keeps of a hold: its step, and which of the remaining steps are left.
use Rattle.std.specs.Prelude.{◌≡◌, ◌<◌, ◌≤◌, ◌⊎◌, ℕ, ◌-◌, Bool, true, false, List, [], ◌∷◌, ◌++◌, length, map, IfSome, Option, None, Some}
use Rattle.std.specs.List.{list_any, remove}
use Rattle.saved_steps.specs.Steps.{name_of}
use Rattle.saved_steps.specs.World.{is_same_step}
use Rattle.saved_steps.specs.declared.record.StepRecord.{StepRecord}
use Rattle.saved_steps.specs.declared.fact.Fact.{Fact}
use Rattle.step_index.specs.Held.{Held, AreLeft, IsLeftAt, count_left}
use Rattle.step_index.specs.Walks.{IsFirstFrom, needed_by}
use Rattle.step_history.specs.History.{TakenStep}
use Rattle.step_names.specs.declared.step.StepName.{StepName}
use Rattle.book_log.specs.Log.{Log, step_on_hold, left_of, past_of, consequences_of}
use Rattle.book_log.specs.declared.refusal.Refusal.{Refusal}
use Rattle.book_log.specs.declared.refusal.Refusal.TheVariants as refusal
use Rattle.rollback_book.specs.declared.hold.Hold.{Hold}

-- of each remaining step, whether it is one of these
abbrev pub marks_by : List TakenStep → List TakenStep → List Bool
marks_by left past = map (λ t. list_any (λ x. is_same_step (name_of x.step) (name_of t.step)) left) past

-- nothing is held; or this step is, and what is left is marked
abbrev pub IsHoldOf : Log → List StepRecord → Option Hold → Type 0
IsHoldOf log rs None = step_on_hold log ≡ None
IsHoldOf log rs (Some h) = (step_on_hold log ≡ Some h.step) × AreLeft rs h.left × (h.left.marks ≡ marks_by (left_of log) (past_of log))

-- it would be so of a step and its consequences
abbrev pub IsHoldFor : Log → List StepRecord → StepName → Hold → Type 0
IsHoldFor log rs name h = (h.step ≡ name) × AreLeft rs h.left × (h.left.marks ≡ marks_by (consequences_of log name) (past_of log))

-- why nothing more can be held, and nothing settled: this step is held, or memory is wanting to tell it
abbrev pub IsHoldRefusal : Log → Refusal → Type 0
IsHoldRefusal log e = (name : StepName) × (step_on_hold log ≡ Some name) × ((e ≡ refusal.Held name) ⊎ (e ≡ refusal.Memory))

-- the earliest place that is left and on whose step a later one of this fact would depend directly
abbrev pub IsFirstNeeded : List StepRecord → Held → Fact → Option ℕ → Type 0
IsFirstNeeded rs h f found = IsFirstFrom (IsLeftAt h) (needed_by f) rs 0 found × IfSome found (IsLeftAt h)

-- there is no room, and nothing is held
abbrev pub full_unheld : Option Hold → Bool → Bool
full_unheld None full = full
full_unheld (Some h) full = false

-- ---- beside what is done to the records

-- there is room for one more step
abbrev pub HasHeldRoom : Option Hold → Type 0
HasHeldRoom None = Unit {0}
HasHeldRoom (Some h) = h.left.has_room ≡ true

-- the same is held
abbrev pub KeepsHold : Option Hold → Option Hold → Type 0
KeepsHold None None = Unit {0}
KeepsHold None (Some g) = ⊥
KeepsHold (Some h) None = ⊥
KeepsHold (Some h) (Some g) = (g.step ≡ h.step) × (g.left.marks ≡ h.left.marks) × ((rs : List StepRecord) → AreLeft rs h.left → AreLeft rs g.left)

-- and a step more that isn't held
abbrev pub AddsUnheld : Option Hold → Option Hold → Type 0
AddsUnheld None None = Unit {0}
AddsUnheld None (Some g) = ⊥
AddsUnheld (Some h) None = ⊥
AddsUnheld (Some h) (Some g) =
    (g.step ≡ h.step) × (g.left.marks ≡ h.left.marks ++ false ∷ []) × ((rs : List StepRecord) (r : StepRecord) → AreLeft rs h.left → AreLeft (rs ++ r ∷ []) g.left)

-- what stands at these places goes, one after another
abbrev pub removed_each : {A : Type 0} → List A → List ℕ → List A
removed_each xs [] = xs
removed_each xs (place ∷ places) = removed_each (remove xs place) places

-- there is something at each, at its turn
abbrev pub AreWithin : ℕ → List ℕ → Type 0
AreWithin count [] = Unit {0}
AreWithin count (place ∷ places) = (place < count) × AreWithin (count - 1) places

abbrev pub CanTakeOut : Option Hold → List ℕ → Type 0
CanTakeOut None places = Unit {0}
CanTakeOut (Some h) places = AreWithin (length h.left.marks) places

-- the hold is over where nothing is left then
abbrev pub TakesOut : Option Hold → List ℕ → Option Hold → Type 0
TakesOut None places None = Unit {0}
TakesOut None places (Some g) = ⊥
TakesOut (Some h) places None = count_left (removed_each h.left.marks places) ≡ 0
TakesOut (Some h) places (Some g) =
    (g.step ≡ h.step) × (g.left.marks ≡ removed_each h.left.marks places) × ((rs : List StepRecord) → AreLeft rs h.left → AreLeft (removed_each rs places) g.left) × (1 ≤ count_left g.left.marks)
