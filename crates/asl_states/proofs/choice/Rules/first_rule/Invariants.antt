use Rattle.std.proofs.Common.{◌≡◌, drop}
use Rattle.json_tree.specs.View.{data_of}
use Rattle.asl_states.specs.Holding.{first_rule}
use Rattle.asl_states.proofs.choice.Rules.first_rule.Given as goal

-- what the rest of the rules say, all say
abbrev pub invariant-loop-rule : goal.invariant-loop-rule
invariant-loop-rule l = first_rule (drop l.rule-index l.rule-items) (data_of l.input) ≡ first_rule l.self (data_of l.input)
