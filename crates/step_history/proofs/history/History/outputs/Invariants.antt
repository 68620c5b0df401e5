use Rattle.std.proofs.Common.{◌≡◌}
use Rattle.saved_steps.specs.Effects.{outputs}
use Rattle.step_history.specs.Moves.{branches_of}
use Rattle.step_history.proofs.Closing.{with_rest}
use Rattle.step_history.proofs.history.History.outputs.Given as goal

-- the outputs are those that were shared, and those of the branches from here on
abbrev pub invariant-loop-number : goal.invariant-loop-number
invariant-loop-number l = with_rest l.self.world l.thread l.fork l.branches l.shared.items l.number ≡ outputs (branches_of l.self.world l.thread l.fork 0 l.branches)
