use Rattle.std.specs.Prelude.{◌≡◌, ◌+◌, length}
use Rattle.step_workers.specs.Undoings.{TakesBack}
use Rattle.step_workers.proofs.undoing.undo_each.Given as goal

abbrev pub invariant-loop-done : goal.invariant-loop-done
invariant-loop-done g l = TakesBack l._done l.fn.pass l.pass × (length l.pass.receipts ≡ length l.fn.pass.receipts + l._done)
