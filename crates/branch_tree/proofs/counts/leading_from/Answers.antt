use Rattle.std.proofs.Common.{arith, ◌≡◌, ℕ, true, false, inl, inr, sym, subst}
use Rattle.std.proofs.lemmas.Bool.{cases_eq}
use Rattle.branch_tree.specs.Leading.{done_at}
use Rattle.branch_tree.proofs.Counted.{lead_exact, lead_whole, done_here}
use Rattle.branch_tree.proofs.counts.leading_from.Goals as goal

pub returns-then-not-is_done : goal.returns-then-not-is_done
returns-then-not-is_done c =
    let within = c.loop-index-test.true in
    lead_exact c.args.kids.now c.loop-index.index (omega (arith, within)) c.loop-index.invariant.1
    (done_here c.args.kids.now c.loop-index.index c.index-kids-index.result false (omega (arith, within)) c.index-kids-index.is c.if-not-is_done.ensures)

pub loop-index-preserved : goal.loop-index-preserved
loop-index-preserved c =
    let within = c.loop-index-test.true in
    let here : done_at c.args.kids.now c.loop-index.index ≡ true = done_here c.args.kids.now c.loop-index.index c.index-kids-index.result true (omega (arith, within)) c.index-kids-index.is c.if-not-is_done.ensures in (
      omega (arith, within),
      λ j l. elim (cases_eq j c.loop-index.index) [
        | inl e ↦ subst (λ (k : ℕ). done_at c.args.kids.now k ≡ true) (sym e) here
        | inr ne ↦ c.loop-index.invariant.1 j (omega (arith, l, ne))
      ],
    )

pub returns : goal.returns
returns c =
    let past = c.loop-index-test.false in
    lead_whole c.args.kids.now (λ j l. c.loop-index.invariant.1 j (omega (arith, l, past)))
