use Rattle.std.proofs.Common.{List, codes, arith, subst, ◌<◌, ◌≤◌, length, option_and_then}
use Rattle.serde_json.specs.Find.{get}
use Rattle.serde_json.specs.View.{view, items_view, members_view}
use Rattle.serde_json.specs.declared.value.Value.{Value}
use Rattle.asl_fields.specs.Refusal.{RefusesForFault}
use Rattle.asl_machine.specs.Faults.{LevelFault, BranchesFault}
use Rattle.asl_machine.specs.Profile.{IsMachine}
use Rattle.asl_states.specs.Reading.{name_of_two}
use Rattle.asl_machine.proofs.Within.{too_many, branches_listed, branch_refuses, processor_refuses, states_refuse, states_read}
use Rattle.asl_machine.proofs.read.+read.Goals as goal

pub read_branches-returns-then-len-gt-MOST_BRANCHES-clause-fault : goal.read_branches-returns-then-len-gt-MOST_BRANCHES-clause-fault
read_branches-returns-then-len-gt-MOST_BRANCHES-clause-fault t c =
    let vs = c.in-Some.items.now.items in
    let many : 4096 < length vs = omega (arith, c.if-len-gt-MOST_BRANCHES.true, c.len.ensures) in
    too_many (LevelFault c.args.levels) (get (codes "Branches") (view c.args.object.now)) (view c.in_ok-value.value.now) vs c.in_ok-new-2.field-0 c.in_ok-value.ensures.ok c.in-Some.ensures c.in_ok-new-2.ensures many

pub read_branches-returns-clause-ok : goal.read_branches-returns-clause-ok
read_branches-returns-clause-ok t c =
    let vs = c.in-Some.items.now.items in
    let few : length vs ≤ 4096 = omega (arith, c.if-len-gt-MOST_BRANCHES.false, c.len.ensures) in
    branches_listed (IsMachine c.args.levels) (get (codes "Branches") (view c.args.object.now)) (view c.in_ok-value.value.now) vs c.read_each_branch.result c.in_ok-value.ensures.ok c.in-Some.ensures few c.read_each_branch.ensures.ok

pub read_each_branch-returns-in-Err-clause-fault : goal.read_each_branch-returns-in-Err-clause-fault
read_each_branch-returns-in-Err-clause-fault t c =
    let F = LevelFault c.args.levels in
    let from = c.deref-item-items.result.now in
    let e = c.in-Err.fault in
    subst (λ (vs : List Value). RefusesForFault e (BranchesFault F (items_view vs) e)) c.deref-item-items.ensures.value
    (branch_refuses F from c.loop-item.item-index c.item-item.result (members_view c.in-Some.fields.now.entries) e c.item-item.is c.loop-item-test.true c.in-Some.ensures c.loop-item.invariant.1 c.in-Err.ensures.fault)

pub read_processor-returns-clause-fault : goal.read_processor-returns-clause-fault
read_processor-returns-clause-fault t c =
    let d = view c.args.object.now in
    processor_refuses (LevelFault c.args.levels) d (name_of_two (codes "ItemProcessor") (codes "Iterator") d) c.in_ok-name.name.now (view c.in_ok-processor.processor.now) (members_view c.in-Some.fields.now.entries) c.read_machine.result
    c.in_ok-name.ensures.ok c.in_ok-processor.ensures.ok c.in-Some.ensures c.read_machine.ensures.fault

pub read_states-returns-then-levels-gt0-clause-fault : goal.read_states-returns-then-levels-gt0-clause-fault
read_states-returns-then-levels-gt0-clause-fault t c =
    states_refuse c.args.levels (members_view c.args.states.now.entries) c.read_each_state.result c.if-levels-gt0.true c.read_each_state.ensures.fault
