use Rattle.std.proofs.Common.{◌≡◌}
use Rattle.saved_steps.specs.Effects.{first_fault}
use Rattle.step_history.specs.Moves.{branches_of}
use Rattle.step_history.proofs.Closing.{from}
use Rattle.step_history.proofs.history.History.first_fault.Given as goal

-- the first fault is that of the branches from here on
abbrev pub invariant-loop-number : goal.invariant-loop-number
invariant-loop-number l = first_fault (from l.self.world l.thread l.fork l.branches l.number) ≡ first_fault (branches_of l.self.world l.thread l.fork 0 l.branches)
