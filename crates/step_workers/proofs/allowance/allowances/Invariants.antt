use Rattle.std.proofs.Common.{◌≡◌, ◌≤◌, map}
use Rattle.std.specs.Prelude.{vec_capacity, vec_len}
use Rattle.step_workers.specs.Seats.{AllRoomy, share_in}
use Rattle.step_workers.specs.Shares.{first_shares}
use Rattle.step_workers.proofs.allowance.allowances.Given as goal

abbrev pub invariant-loop-seat : goal.invariant-loop-seat
invariant-loop-seat l = record {
  len : vec_len l.all ≡ l.seat;
  room : l.seats ≤ vec_capacity l.all;
  shares : map share_in l.all.items ≡ first_shares l.budget l.seats l.seat;
  roomy : AllRoomy l.all.items;
}
