use Rattle.std.proofs.Common.{arith, ◌≡◌, ◌+◌, ◌∙◌, sym, inl, inr, true, false}
use Rattle.branch_tree.specs.Leading.{one_if, failures}
use Rattle.branch_tree.proofs.Counted.{lead_fits, others_done, index_fits, fail_held, fail_same, fail_le, others_are}
use Rattle.branch_tree.proofs.counts.counts_after.Goals as goal
use Rattle.branch_tree.proofs.counts.counts_after.Goals.{then-failed, else-failed}

pub leading_after-leading-requires-clause-fits : goal.leading_after-leading-requires-clause-fits
leading_after-leading-requires-clause-fits c = lead_fits c.args.kids.now c.args.counts.leading c.args.counts.failed c.args.index c.args.failed c.requires

pub leading_after-leading-requires-clause-others : goal.leading_after-leading-requires-clause-others
leading_after-leading-requires-clause-others c = others_done c.args.kids.now c.args.counts.leading c.args.counts.failed c.args.index c.args.failed c.requires

pub leading_after-leading-requires-clause-there : goal.leading_after-leading-requires-clause-there
leading_after-leading-requires-clause-there c = index_fits c.args.kids.now c.args.counts.leading c.args.counts.failed c.args.index c.args.failed c.requires

pub overflow_sub-others : goal.overflow_sub-others
overflow_sub-others c = fail_held c.args.kids.now c.args.counts.leading c.args.counts.failed c.args.index c.args.failed c.requires c.if-failed.true

pub overflow_add-result : goal.overflow_add-result
overflow_add-result c =
    let others : c.if-failed.others + one_if c.args.failed ≡ c.args.counts.failed = others_are c.if-failed.others c.args.counts.failed c.args.failed
    (elim c.if-failed.branch [ then-failed w ↦ inl (w.if-failed.true, w.others-is) | else-failed w ↦ inr (w.if-failed.false, w.others-is) ])
    (fail_held c.args.kids.now c.args.counts.leading c.args.counts.failed c.args.index c.args.failed c.requires) in
    let s : c.if-failed.others + 1 ≡ failures c.args.kids.now = fail_same c.args.kids.now c.args.counts.leading c.args.counts.failed c.args.index c.args.failed c.requires c.index-kids-index.result true c.if-failed.others c.index-kids-index.is
    (sym c.if-has_failed.true ∙ c.has_failed.ensures) others in
    let l = fail_le c.args.kids.now in
    omega (arith, s, l, c.well_formed.0)

pub returns-then-has_failed : goal.returns-then-has_failed
returns-then-has_failed c =
    let others : c.if-failed.others + one_if c.args.failed ≡ c.args.counts.failed = others_are c.if-failed.others c.args.counts.failed c.args.failed
    (elim c.if-failed.branch [ then-failed w ↦ inl (w.if-failed.true, w.others-is) | else-failed w ↦ inr (w.if-failed.false, w.others-is) ])
    (fail_held c.args.kids.now c.args.counts.leading c.args.counts.failed c.args.index c.args.failed c.requires) in
    record {
      leading = c.leading_after-leading.ensures;
      failed = fail_same c.args.kids.now c.args.counts.leading c.args.counts.failed c.args.index c.args.failed c.requires c.index-kids-index.result true c.if-failed.others c.index-kids-index.is
          (sym c.if-has_failed.true ∙ c.has_failed.ensures) others;
    }

pub returns-else-has_failed : goal.returns-else-has_failed
returns-else-has_failed c =
    let others : c.if-failed.others + one_if c.args.failed ≡ c.args.counts.failed = others_are c.if-failed.others c.args.counts.failed c.args.failed
    (elim c.if-failed.branch [ then-failed w ↦ inl (w.if-failed.true, w.others-is) | else-failed w ↦ inr (w.if-failed.false, w.others-is) ])
    (fail_held c.args.kids.now c.args.counts.leading c.args.counts.failed c.args.index c.args.failed c.requires) in
    let s : c.if-failed.others + 0 ≡ failures c.args.kids.now = fail_same c.args.kids.now c.args.counts.leading c.args.counts.failed c.args.index c.args.failed c.requires c.index-kids-index.result false c.if-failed.others c.index-kids-index.is
    (sym c.if-has_failed.false ∙ c.has_failed.ensures) others in
    record { leading = c.leading_after-leading.ensures; failed = omega (arith, s) }
