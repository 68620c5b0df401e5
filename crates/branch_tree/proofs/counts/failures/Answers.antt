use Rattle.std.proofs.Common.{arith, ◌≡◌, ◌+◌, true, false, drop}
use Rattle.branch_tree.specs.Leading.{failures}
use Rattle.branch_tree.proofs.Counted.{fail_on, fail_over}
use Rattle.branch_tree.proofs.counts.failures.Goals as goal
use Rattle.branch_tree.proofs.counts.failures.Goals.{then-has_failed, else-has_failed}

pub loop-kid-preserved : goal.loop-kid-preserved
loop-kid-preserved c =
    let kids = c.args.kids.now in
    let i = c.loop-kid.kid-index in
    let f = fail_on kids i c.kid-item.result c.loop-kid.failed c.has_failed.result c.loop-kid-test.true c.kid-item.is c.has_failed.ensures c.loop-kid.invariant.1 in
    elim c.if-has_failed.branch [
      | then-has_failed w ↦
          let r : c.has_failed.result ≡ true = w.if-has_failed.true in
          let g : (c.loop-kid.failed + 1) + failures (drop (i + 1) kids) ≡ failures kids = rw r at f in
          (omega (arith, w.failed-is, c.loop-kid.invariant.0), omega (arith, w.failed-is, g))
      | else-has_failed w ↦
          let r : c.has_failed.result ≡ false = w.if-has_failed.false in
          let g : (c.loop-kid.failed + 0) + failures (drop (i + 1) kids) ≡ failures kids = rw r at f in
          (omega (arith, w.failed-is, c.loop-kid.invariant.0), omega (arith, w.failed-is, g))
    ]

pub returns : goal.returns
returns c = fail_over c.args.kids.now c.loop-kid.kid-index c.loop-kid.failed (omega (arith, c.loop-kid-test.false)) c.loop-kid.invariant.1
