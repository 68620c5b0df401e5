use Rattle.std.proofs.Common.{◌≡◌, take}
use Rattle.step_index.specs.Held.{AreLeft}
use Rattle.step_index.proofs.held.HeldSteps.of_plan.Given as goal

-- the places that were passed stand beside the records there
abbrev pub invariant-loop-place : goal.invariant-loop-place
invariant-loop-place l = record {
  marks : l.held.marks ≡ take l.place l.marks.items;
  left : AreLeft (take l.place l.records.items) l.held;
}
