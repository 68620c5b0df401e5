use Rattle.std.proofs.Common.{◌≡◌, drop}
use Rattle.asl_tree.specs.Targets.{missing_catcher}
use Rattle.asl_tree.proofs.machine.missing_catcher.Given as goal

-- what those that are left miss, all miss
abbrev pub invariant-loop-catcher : goal.invariant-loop-catcher
invariant-loop-catcher l = missing_catcher l.states (drop l.catcher-index l.catcher-items) ≡ missing_catcher l.states l.catcher-items
