use Rattle.std.specs.Prelude.{vec_len}
use Rattle.step_workers.proofs.gathering.+lay_out.Given as goal

abbrev pub decreases-lay_out : goal.decreases-lay_out
decreases-lay_out g l = vec_len l.served
