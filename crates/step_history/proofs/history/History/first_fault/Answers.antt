use Rattle.std.proofs.Common.{sym, ◌∙◌}
use Rattle.step_history.proofs.Closing.{no_fault}
use Rattle.step_history.proofs.history.History.first_fault.Goals as goal

pub loop-number-preserved : goal.loop-number-preserved
loop-number-preserved c =
    let e = rw c.in_default.is at c.in_ok-fault.ensures in
    sym (no_fault c.args.self.now.world c.args.thread.now c.args.fork c.args.branches c.loop-number.number c.loop-number-test.true (sym e)) ∙ c.loop-number.invariant
