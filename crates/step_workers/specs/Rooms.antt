-- The memory of a round, taken before it begins.
use Rattle.std.specs.Prelude.{◌≡◌, ℕ, ◌+◌, ◌≤◌, [], map, vec_capacity, vec_len}
use Rattle.slip_queue.specs.Slips.{IsGiver, all_parts, given_of, parts_of, taken_of}
use Rattle.step_workers.specs.Seats.{AllRoomy, share_in}
use Rattle.step_workers.specs.Shares.{shares_of}
use Rattle.step_workers.specs.declared.gathering.Tray.{Tray}
use Rattle.step_workers.specs.declared.working.Rooms.{Rooms}

module _ {L : Type 0} where
  pub record IsTray (n : ℕ) (t : Tray L) : Type 0 where
    pub passes : (t.passes.items ≡ []) × (n + 1 ≤ vec_capacity t.passes)
    pub stopped : (t.stopped.items ≡ []) × (n ≤ vec_capacity t.stopped)
    pub taken : (t.taken.items ≡ []) × (n ≤ vec_capacity t.taken)

  pub record HasBoardRoom (n budget : ℕ) (r : Rooms L) : Type 0 where
    pub giver : IsGiver r.board.slips r.giver
    pub fresh : (parts_of r.giver ≡ all_parts) × (given_of r.giver ≡ 0) × (taken_of r.giver ≡ [])
    pub allowances : (vec_len r.allowances ≡ n) × (map share_in r.allowances.items ≡ shares_of budget n) × AllRoomy r.allowances.items
    pub seats : (r.seats.items ≡ []) × (n ≤ vec_capacity r.seats)
    pub served : (r.served.items ≡ []) × (n ≤ vec_capacity r.served)
    pub tray : IsTray n r.tray
