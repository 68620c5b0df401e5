use Rattle.std.proofs.Common.{◌≡◌, ◌≤◌, ◌++◌, All, map}
use Rattle.saved_steps.specs.declared.record.StepRecord.{StepRecord}
use Rattle.step_graph.specs.Causes.{causes_below, causes_of, IsNeeded}
use Rattle.step_graph.specs.Members.{OpensMembers}
use Rattle.step_graph.proofs.Inverted.{places_of}
use Rattle.step_graph.proofs.causing.causes.Given as goal

abbrev pub invariant-loop-place : goal.invariant-loop-place
invariant-loop-place l = record {
  before : l.place ≤ l.at;
  found : places_of l.found.items ++ causes_below (map (λ (r : StepRecord). r.fact) l.records.items) l.at l.place ≡ causes_of l.records.items l.at;
  needed : All (IsNeeded l.records.items) l.found.items;
  are_open : OpensMembers l.records.items l.at (places_of l.found.items) l.near;
}

abbrev pub decreases-loop-place : goal.decreases-loop-place
decreases-loop-place l = l.place
