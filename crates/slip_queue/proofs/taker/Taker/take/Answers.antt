use Rattle.std.proofs.Common.{ap, arith}
use Rattle.slip_queue.specs.declared.hand.Hand.{Hand}
use Rattle.slip_queue.proofs.Keeps.{takes}
use Rattle.slip_queue.proofs.taker.Taker.take.Goals as goal

pub try_pop_as-requires-clause-rule : goal.try_pop_as-requires-clause-rule
try_pop_as-requires-clause-rule g c = takes _ _ (let e = ap (λ (h : Hand). h.parts) c.requires.taker.knows in omega (arith, e))
