use Rattle.std.proofs.Common.{arith, false}
use Rattle.branch_tree.proofs.Counted.{lead_exact, done_here}
use Rattle.branch_tree.proofs.counts.leading_after.Goals as goal

pub returns-then-not-is_done : goal.returns-then-not-is_done
returns-then-not-is_done c =
    lead_exact c.args.kids.now c.args.index c.requires.there
    (λ j l. c.requires.others j (omega (arith, l, c.if-index-leading.true)) (λ e. absurd (omega (arith, l, e))))
    (done_here c.args.kids.now c.args.index c.index-kids-index.result false c.requires.there c.index-kids-index.is c.if-not-is_done.ensures)
