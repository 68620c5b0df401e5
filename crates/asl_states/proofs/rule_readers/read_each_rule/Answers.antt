use Rattle.std.proofs.Common.{List, subst}
use Rattle.serde_json.specs.View.{items_view}
use Rattle.serde_json.specs.declared.value.Value.{Value}
use Rattle.asl_fields.specs.Refusal.{RefusesForFault}
use Rattle.asl_states.proofs.TestReadings.{rule_refuses}
use Rattle.asl_states.specs.TestFaults.{SomeRuleFault}
use Rattle.asl_states.proofs.rule_readers.read_each_rule.Goals as goal

pub returns-in-Err-clause-fault : goal.returns-in-Err-clause-fault
returns-in-Err-clause-fault c =
    let e = c.in-Err.fault in
    subst (λ (vs : List Value). RefusesForFault e (SomeRuleFault (items_view vs) e)) c.deref-item-items.ensures.value
    (rule_refuses c.deref-item-items.result.now c.loop-item.item-index c.item-item.result e c.item-item.is c.loop-item-test.true c.loop-item.invariant.1 c.in-Err.ensures.fault)
