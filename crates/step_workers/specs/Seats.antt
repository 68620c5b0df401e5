-- The seats of a round before it, and what each gives.
use Rattle.std.specs.Prelude.{◌≡◌, ℕ, ◌+◌, ◌≤◌, List, [], ◌∷◌, length, vec_capacity}
use Rattle.shared_book.specs.Views.{PassView}
use Rattle.slip_queue.specs.Slips.{IsTaker, taker_numbers}
use Rattle.slip_queue.specs.declared.slips.Slips.{Slips}
use Rattle.step_workers.specs.Work.{AreWrittenTaken, BoxedTicket, PassGoesOn}
use Rattle.step_workers.specs.declared.allowance.Allowance.{Allowance}
use Rattle.step_workers.specs.declared.seat.Seat.{Seat}
use Rattle.step_workers.specs.declared.seat.Served.{Served}
use Rattle.step_workers.specs.declared.worker.NextTicket.{NextTicket}
use Rattle.step_workers.specs.declared.worker.NextTicket.TheVariants as next

-- memory for the numbers of as many tickets as it may take
abbrev pub IsRoomy : Allowance → Type 0
IsRoomy a = (a.taken.items ≡ []) × (a.share ≤ vec_capacity a.taken)

abbrev pub AllRoomy : List Allowance → Type 0
AllRoomy [] = Unit {0}
AllRoomy (a ∷ as_) = IsRoomy a × AllRoomy as_

abbrev pub share_in : Allowance → ℕ
share_in a = a.share

module _ {L : Type 0} where
  abbrev pub share_of : Seat L → ℕ
  share_of s = s.share

  abbrev pub seat_shares : List (Seat L) → ℕ
  seat_shares [] = 0
  seat_shares (s ∷ ss) = s.share + seat_shares ss

  abbrev pub pass_of : Seat L → PassView
  pass_of s = s.pass

  abbrev pub pass_served : Served L → PassView
  pass_served d = d.pass

  abbrev pub count_served : Served L → ℕ
  count_served d = length d.taken.items

  -- it takes of this queue, and has taken nothing so far
  pub record IsSeated (q : Slips BoxedTicket) (s : Seat L) : Type 0 where
    pub taker : IsTaker q s.taker
    pub none : (taker_numbers s.taker ≡ []) × (s.taken.items ≡ [])
    pub room : s.share ≤ vec_capacity s.taken

  abbrev pub AllSeated : Slips BoxedTicket → List (Seat L) → Type 0
  AllSeated q [] = Unit {0}
  AllSeated q (s ∷ ss) = IsSeated q s × AllSeated q ss

  -- it wrote down what it took, no more than its share, for which it has room
  pub record IsTaking (q : Slips BoxedTicket) (s : Seat L) : Type 0 where
    pub taker : IsTaker q s.taker
    pub written : AreWrittenTaken s.taken.items (taker_numbers s.taker)
    pub few : length s.taken.items ≤ s.share
    pub room : s.share ≤ vec_capacity s.taken

  pub record KeepsSeat (s t : Seat L) : Type 0 where
    pub share : t.share ≡ s.share
    pub pass : t.pass ≡ s.pass

  -- a ticket more was written down, or none
  abbrev pub is_more : NextTicket → Seat L → Seat L → Type 0
  is_more (next.Ticket ticket) s t = length t.taken.items ≡ length s.taken.items + 1
  is_more _ s t = length t.taken.items ≡ length s.taken.items

  -- what it wrote down it took of this queue
  pub record IsWell (q : Slips BoxedTicket) (d : Served L) : Type 0 where
    pub taker : IsTaker q d.taker
    pub written : AreWrittenTaken d.taken.items (taker_numbers d.taker)

  abbrev pub AllWell : Slips BoxedTicket → List (Served L) → Type 0
  AllWell q [] = Unit {0}
  AllWell q (d ∷ ds) = IsWell q d × AllWell q ds

  -- it took no more moves than its share
  pub record HasServed (q : Slips BoxedTicket) (s : Seat L) (d : Served L) : Type 0 where
    pub goes : PassGoesOn s.share s.pass d.pass
    pub few : length d.taken.items ≤ s.share
    pub well : IsWell q d

  abbrev pub AllServed : Slips BoxedTicket → List (Seat L) → List (Served L) → Type 0
  AllServed q [] [] = Unit {0}
  AllServed q (s ∷ ss) (d ∷ ds) = HasServed q s d × AllServed q ss ds
  AllServed q _ _ = ⊥
