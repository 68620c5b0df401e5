use Rattle.std.specs.Prelude.{vec_len}
use Rattle.step_workers.proofs.seating.+seat_all.Given as goal

abbrev pub decreases-seat_all : goal.decreases-seat_all
decreases-seat_all g l = vec_len l.passes
