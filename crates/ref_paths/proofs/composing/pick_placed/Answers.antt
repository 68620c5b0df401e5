use Rattle.std.proofs.Common.{◌∙◌}
use Rattle.json_tree.specs.View.{data_of}
use Rattle.ref_paths.specs.Composition.{data_or_made}
use Rattle.ref_paths.proofs.Composed.{way_on}
use Rattle.ref_paths.proofs.Inside.{deeper_so}
use Rattle.ref_paths.proofs.composing.pick_placed.Goals as goal

pub loop-step-preserved : goal.loop-step-preserved
loop-step-preserved c =
    way_on c.in-Some.step.now c.in-Some-split_first.other.now c.in-Some.rest.now c.in-Some-split_first.others.now c.loop-step.to_place.now c.loop-step.to_pick.now (data_of c.args.value.now) (data_or_made c.loop-step.current) (data_or_made c.in-Some-open.child)
    c.in-Some.ensures.cases.0 c.in-Some-split_first.ensures.cases.0 (c.is_same.ensures.0 c.if-not-is_same.false) c.in-Some-open.ensures
    ∙ c.loop-step.invariant

pub returns-then-not-is_same-clause-deep : goal.returns-then-not-is_same-clause-deep
returns-then-not-is_same-clause-deep c = λ e. deeper_so c.args.levels _ _ c.loop-step.invariant (c.pick_apart.ensures.deep (data_of c.args.value.now) e)
