use Rattle.std.proofs.Common.{List, [], drop}
use Rattle.serde_json.specs.View.{items_view}
use Rattle.asl_fields.specs.declared.fault.MachineFault.{MachineFault}
use Rattle.asl_states.specs.TestFaults.{SomeRuleFault}
use Rattle.asl_states.specs.TestFields.{RulesAre}
use Rattle.asl_states.specs.declared.choice.Rule.{Rule}
use Rattle.asl_states.proofs.rule_readers.read_each_rule.Given as goal

-- what the rest adds to those that are read is what all are; a fault of the rest is one of all
abbrev pub invariant-loop-item : goal.invariant-loop-item
invariant-loop-item l =
    ((all : List Rule) → RulesAre (items_view (drop l.item-index l.item-items)) l.inner.items all → RulesAre (items_view l.item-items) [] all)
    × ((e : MachineFault) → SomeRuleFault (items_view (drop l.item-index l.item-items)) e → SomeRuleFault (items_view l.item-items) e)
