use Rattle.std.proofs.Common.{refl}
use Rattle.step_workers.proofs.Seated.{seated_more}
use Rattle.step_workers.proofs.Sums.{roomy_back, shares_last}
use Rattle.step_workers.proofs.seating.+seat_all.Goals as goal

pub returns-clause-seated : goal.returns-clause-seated
returns-clause-seated g t c =
    let roomy = roomy_back _ _ _ c.in-Some-pop.ensures.items c.requires.allowances.1 in
    rw c.push_reserved.ensures.items (seated_more _ _ _ c.seat_all-seats.ensures.seated (record {
      taker = c.taker-taker.ensures.taker.0;
      none = (c.taker-taker.ensures.taker.1, roomy.0);
      room = roomy.1;
    }))

pub returns-clause-shares : goal.returns-clause-shares
returns-clause-shares g t c = shares_last _ _ _ _ _ _ c.push_reserved.ensures.items c.in-Some-pop.ensures.items c.seat_all-seats.ensures.shares refl
