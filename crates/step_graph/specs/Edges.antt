-- Direct dependences among steps, by their places among the records, from 0.
use Rattle.std.specs.Prelude.{◌≡◌, ◌<◌, ℕ, List, length, slice_get, Option, Some, option_and_then}
use Rattle.saved_steps.specs.declared.record.StepRecord.{StepRecord}
use Rattle.depends.specs.Reasons.{reason_between}
use Rattle.depends.specs.declared.reason.Reason.{Reason}
use Rattle.step_graph.specs.declared.linking.Edge.{Edge}

-- why the step at one place depends directly on the one at another
abbrev pub reason_at : List StepRecord → ℕ → ℕ → Option Reason
reason_at rs a b = option_and_then (λ r. option_and_then (λ s. reason_between r.fact s.fact) (slice_get rs b)) (slice_get rs a)

-- The later step depends directly on the earlier one, for just this reason.
pub record IsEdge (rs : List StepRecord) (e : Edge) : Type 0 where
  pub in_order : e.earlier < e.later
  pub within : e.later < length rs
  pub because : reason_at rs e.earlier e.later ≡ Some e.reason
