use Rattle.std.specs.Prelude.{vec_len}
use Rattle.step_workers.proofs.running.+run_seats.Given as goal

abbrev pub decreases-run_seats : goal.decreases-run_seats
decreases-run_seats g l = vec_len l.seats
