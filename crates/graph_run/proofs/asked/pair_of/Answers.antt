use Rattle.std.proofs.Common.{arith}
use Rattle.graph_run.proofs.Asking.{not_a_pair}
use Rattle.graph_run.proofs.asked.pair_of.Goals as goal

pub returns-then-steps-ne2 : goal.returns-then-steps-ne2
returns-then-steps-ne2 c = not_a_pair c.args.steps.now (λ e. absurd (omega (arith, e, c.if-steps-ne2.true)))
