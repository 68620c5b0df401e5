use Rattle.std.specs.Prelude.{vec_len}
use Rattle.step_workers.proofs.taking_back.+run_undoers.Given as goal

abbrev pub decreases-run_undoers : goal.decreases-run_undoers
decreases-run_undoers g l = vec_len l.passes
