use Rattle.std.proofs.Common.{◌+◌, ◌∙◌, length, arith}
use Rattle.step_workers.proofs.Going.{goes_more, goes_within}
use Rattle.step_workers.proofs.worker.take_all.Goals as goal

pub returns-in-Err-clause-goes : goal.returns-in-Err-clause-goes
returns-in-Err-clause-goes g c =
    let few = c.next_ticket.ensures.taking.few in
    let more = c.in-Ticket.ensures.more in
    let share = c.next_ticket.ensures.same.share ∙ c.loop.invariant.share in
    goes_within (length c.loop.seat.taken.items + 1) _ _ _ (omega (arith, few, more, share)) (goes_more _ 1 _ _ _ c.loop.invariant.goes (rw c.next_ticket.ensures.same.pass at c.take_move.ensures))

pub loop-preserved : goal.loop-preserved
loop-preserved g c = record {
  taking = record { taker = c.next_ticket.ensures.taking.taker; written = c.next_ticket.ensures.taking.written; few = c.next_ticket.ensures.taking.few; room = c.next_ticket.ensures.taking.room };
  goes = rw c.in-Ticket.ensures.more (goes_more _ 1 _ _ _ c.loop.invariant.goes (rw c.next_ticket.ensures.same.pass at c.take_move.ensures));
  share = c.next_ticket.ensures.same.share ∙ c.loop.invariant.share;
}
