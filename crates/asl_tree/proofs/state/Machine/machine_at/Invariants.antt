use Rattle.std.proofs.Common.{◌≡◌, drop}
use Rattle.asl_tree.specs.Find.{machine_at}
use Rattle.asl_tree.proofs.state.Machine.machine_at.Given as goal

-- what the steps that are left lead to from here, all lead to
abbrev pub invariant-loop-step : goal.invariant-loop-step
invariant-loop-step l = machine_at (drop l.step-index l.step-items) l.machine ≡ machine_at l.step-items l.self
