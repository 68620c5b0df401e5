use Rattle.std.proofs.Common.{arith}
use Rattle.std.proofs.lemmas.List.{length_push}
use Rattle.step_workers.proofs.Sums.{taken_besides, written_more}
use Rattle.step_workers.proofs.worker.next_ticket.Goals as goal

pub returns-in-Some-None-clause-taking : goal.returns-in-Some-None-clause-taking
returns-in-Some-None-clause-taking g c = record {
  taker = c.take.ensures.taker;
  written = rw c.in-Some-None.ensures.taken (taken_besides _ _ _ c.loop.invariant.taking.written);
  few = c.loop.invariant.taking.few;
  room = c.loop.invariant.taking.room;
}

pub returns-in-Some-Some-clause-taking : goal.returns-in-Some-Some-clause-taking
returns-in-Some-Some-clause-taking g c = record {
  taker = c.take.ensures.taker;
  written = rw c.in-Some-Some.ensures.taken (rw c.push_reserved.ensures.items (written_more _ _ _ c.loop.invariant.taking.written));
  few = rw c.push_reserved.ensures.items (let l = length_push c.loop.seat.taken.items c.in-Some-Some.number in let v = c.loop.seat.taken.ok.0 in let n = c.len.ensures in let t = c.if-len-seat.false in grind (arith, l, v, n, t));
  room = rw c.push_reserved.ensures.capacity c.loop.invariant.taking.room;
}
