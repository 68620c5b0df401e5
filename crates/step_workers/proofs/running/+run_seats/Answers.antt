use Rattle.std.proofs.Common.{ap, refl, arith}
use Rattle.step_workers.specs.declared.dispatching.Dispatcher.{Dispatcher}
use Rattle.step_workers.proofs.Seated.{keeps_within, seated_last}
use Rattle.step_workers.proofs.Sums.{shares_with}
use Rattle.step_workers.proofs.running.+run_seats.Goals as goal

pub start-requires-after_bounds : goal.start-requires-after_bounds
start-requires-after_bounds g t c = λ κs within. (seated_last _ _ _ (rw c.in-Some.ensures.items at c.requires.seats)).1

pub run_seats-done-requires-clause-seats : goal.run_seats-done-requires-clause-seats
run_seats-done-requires-clause-seats g t c = λ κs within. (seated_last _ _ _ (rw c.in-Some.ensures.items at c.requires.seats)).0

pub run_seats-done-requires-in-Err-clause-seats : goal.run_seats-done-requires-in-Err-clause-seats
run_seats-done-requires-in-Err-clause-seats g t c = λ κs within. (seated_last _ _ _ (rw c.in-Some.ensures.items at c.requires.seats)).0

pub returns-in-Ok-clause-giver : goal.returns-in-Ok-clause-giver
returns-in-Ok-clause-giver g t c =
    let seats = shares_with _ _ _ c.in-Some.ensures.items in
    let fewer = c.in-Some.ensures.cases in
    let more = c.one_worker_more-with.ensures.more in
    let tickets = more.0 in
    let workers = more.1 in
    keeps_within _ _ _ _ _ _ (ap (λ (d : Dispatcher _). d.giver) c.one_worker_more-with.ensures.same) (omega (arith, seats, fewer, tickets, workers)) c.run_seats-done.ensures.giver

pub returns-in-Err-clause-giver : goal.returns-in-Err-clause-giver
returns-in-Err-clause-giver g t c =
    let seats = shares_with _ _ _ c.in-Some.ensures.items in
    let fewer = c.in-Some.ensures.cases in
    keeps_within _ _ _ _ _ _ refl (omega (arith, seats, fewer)) c.run_seats-done-in-Err.ensures.giver
