use Rattle.std.proofs.Common.{◌≡◌, ◌<◌, ◌≤◌, ◌+◌, ◌∙◌, length, map, ap, subst, arith}
use Rattle.std.specs.Prelude.{vec_len}
use Rattle.slip_queue.specs.Slips.{given_of}
use Rattle.step_workers.specs.Seats.{count_served, seat_shares}
use Rattle.step_workers.specs.Shares.{shares_of}
use Rattle.step_workers.specs.Work.{EachAtMost}
use Rattle.step_workers.proofs.Seated.{all_well, each_took, giver_seated, round_goes_on}
use Rattle.step_workers.proofs.Sums.{given_within, seats_share}
use Rattle.step_workers.proofs.working.work.Goals as goal

pub gather-requires-clause-served : goal.gather-requires-clause-served
gather-requires-clause-served g c = all_well _ _ _ c.run_all-done.ensures.served

pub returns-clause-passes : goal.returns-clause-passes
returns-clause-passes g c =
    let len = c.len.ensures in
    let long = c.args.passes.ok.0 in
    let has = c.requires.some.0 in
    let some : 0 < length c.args.passes.items = omega (arith, has, long) in
    let seat_shares = c.seat_all-seats.ensures.shares ∙ c.in-Ok.ensures.allowances.1 ∙ ap (shares_of c.args.budget) (len ∙ long) in
    rw c.gather.ensures.passes (round_goes_on _ _ _ _ _ _ _ _ c.run_all-done.ensures.served c.run_all-done.ensures.pass seat_shares c.seat_all-seats.ensures.passes
    (giver_seated _ _ _ _ some c.index_mut.ensures.value c.in-Some.ensures.seated.1 c.in-Some.ensures.seated.0))

pub returns-clause-few : goal.returns-clause-few
returns-clause-few g c =
    let seat_shares = c.seat_all-seats.ensures.shares ∙ c.in-Ok.ensures.allowances.1 ∙ ap (shares_of c.args.budget) c.len.ensures in
    rw c.gather.ensures.counts (subst (EachAtMost (map count_served c.run_all-done.result.served.items)) seat_shares (each_took _ _ _ c.run_all-done.ensures.served))

pub returns-clause-once : goal.returns-clause-once
returns-clause-once g c x =
    let len = c.len.ensures in
    let has = c.requires.some.0 in
    let all : seat_shares c.seat_all-seats.result.items ≡ c.args.budget =
    seats_share c.args.budget c.len.result _ (omega (arith, len, has)) (c.seat_all-seats.ensures.shares ∙ c.in-Ok.ensures.allowances.1) in
    let before = c.in-Ok.ensures.fresh.1 in
    let same = c.seat_all-seats.ensures.same.0 in
    let most = c.run_all-done.ensures.giver.few in
    let seats = c.seat_all-seats.ensures.room.0 in
    let few : given_of c.run_all-done.result.giver ≤ c.args.budget + vec_len c.args.passes = omega (arith, all, before, same, most, seats, len) in
    given_within x _ _ _ (c.gather.ensures.once x) few
