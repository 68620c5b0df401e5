use Rattle.std.proofs.Common.{◌∙◌, ap}
use Rattle.slip_queue.specs.declared.hand.Hand.{Hand}
use Rattle.slip_queue.specs.Slips.{times}
use Rattle.slip_queue.proofs.Keeps.{puts, put_more}
use Rattle.slip_queue.proofs.giver.Giver.give.Goals as goal

pub try_push_as-requires-clause-rule : goal.try_push_as-requires-clause-rule
try_push_as-requires-clause-rule g c = puts _ _ _ _ c.requires.giver.some_part

pub returns-in-Ok-clause-giver : goal.returns-in-Ok-clause-giver
returns-in-Ok-clause-giver g c = record {
  of = (c.try_push_as.ensures.queue.0 ∙ c.requires.giver.of.0, c.try_push_as.ensures.queue.2 ∙ c.requires.giver.of.1);
  put = λ x. ap (λ (h : Hand). times x h.put) c.in-Ok.ensures.rule ∙ rw c.in-Some.ensures.1 (put_more _ _ c.requires.giver.put x);
  some_part = rw c.in-Ok.ensures.rule c.requires.giver.some_part;
}
