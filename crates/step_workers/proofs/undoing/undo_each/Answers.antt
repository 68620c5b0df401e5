use Rattle.std.proofs.Common.{arith}
use Rattle.step_workers.proofs.TakenBack.{counts_more, stops_so, takes_more, takes_none, takes_within}
use Rattle.step_workers.proofs.undoing.undo_each.Goals as goal

pub loop-done-init : goal.loop-done-init
loop-done-init g c = (takes_none 0 _, omega arith)

pub returns-in-Err-clause-receipts : goal.returns-in-Err-clause-receipts
returns-in-Err-clause-receipts g c =
    let less = c.loop-done-test.true in
    rw c.in-Err.ensures.err.1 (takes_within _ 65536 _ _ (omega (arith, less)) c.loop-done.invariant.0)

pub returns-in-Err-clause-stopped : goal.returns-in-Err-clause-stopped
returns-in-Err-clause-stopped g c = rw c.in-Err.ensures.err.1 (stops_so _ c.args.pass.now _ _ _ c.in-Err.ensures.err.0 c.stopped_by.ensures)

pub loop-done-preserved : goal.loop-done-preserved
loop-done-preserved g c = (takes_more _ _ _ _ _ _ c.loop-done.invariant.0 c.in-Ok.ensures.receipt, counts_more _ _ _ _ _ _ c.loop-done.invariant.1 c.in-Ok.ensures.receipt)

pub returns-clause-receipts : goal.returns-clause-receipts
returns-clause-receipts g c =
    let less = c.loop-done.auto._done-end in
    takes_within _ 65536 _ _ (omega (arith, less)) c.loop-done.invariant.0

pub returns-clause-stopped : goal.returns-clause-stopped
returns-clause-stopped g c =
    let least = c.loop-done-test.false in
    let most = c.loop-done.auto._done-end in
    let number = c.loop-done.invariant.1 in
    omega (arith, least, most, number)
