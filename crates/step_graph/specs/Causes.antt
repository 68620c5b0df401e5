-- On which earlier steps a step depends, directly or not: those of whose plans it is.
use Rattle.std.specs.Prelude.{◌≡◌, ◌<◌, ◌==◌, ℕ, zero, suc, Bool, List, [], ◌∷◌, Some, map, if◌then◌else◌}
use Rattle.std.specs.List.{list_any}
use Rattle.saved_steps.specs.declared.fact.Fact.{Fact}
use Rattle.saved_steps.specs.declared.record.StepRecord.{StepRecord}
use Rattle.depends.specs.Plans.{plan}
use Rattle.step_graph.specs.Edges.{reason_at}
use Rattle.step_graph.specs.declared.causing.Cause.{Cause}

-- a place is among some
abbrev pub is_in : ℕ → List ℕ → Bool
is_in place places = list_any (λ p. p == place) places

-- a rollback of the step at one place takes back the step at another
abbrev pub is_in_plan : List Fact → ℕ → ℕ → Bool
is_in_plan facts of at = is_in at (plan facts of)

-- the places before one of whose plans the step is, the latest first
abbrev pub causes_below : List Fact → ℕ → ℕ → List ℕ
causes_below facts at zero = []
causes_below facts at (suc n) = if is_in_plan facts n at then n ∷ causes_below facts at n else causes_below facts at n

abbrev pub causes : List Fact → ℕ → List ℕ
causes facts at = causes_below facts at at

abbrev pub causes_of : List StepRecord → ℕ → List ℕ
causes_of rs at = causes (map (λ r. r.fact) rs) at

-- one is needed for a later step, which depends directly on it, for just this reason
abbrev pub IsReason : List StepRecord → Cause → Type 0
IsReason rs c = (c.place < c.needed_for) × (reason_at rs c.place c.needed_for ≡ Some c.reason)

-- the step for which a cause is needed depends directly on it, for just this reason
abbrev pub IsNeeded : List StepRecord → Cause → Type 0
IsNeeded rs c = reason_at rs c.place c.needed_for ≡ Some c.reason
