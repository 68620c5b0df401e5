use Rattle.std.proofs.Common.{◌≡◌, drop}
use Rattle.asl_tree.specs.Targets.{missing_rule}
use Rattle.asl_tree.proofs.machine.missing_rule.Given as goal

-- what those that are left miss, all miss
abbrev pub invariant-loop-rule : goal.invariant-loop-rule
invariant-loop-rule l = missing_rule l.states (drop l.rule-index l.rule-items) ≡ missing_rule l.states l.rule-items
