use Rattle.std.proofs.Common.{true, sym, subst, Option, None, ap, ◌∙◌}
use Rattle.std.specs.BTreeSet.{contains}
use Rattle.branch_tree.specs.First.{IsFirstFree, NoneBeforePath}
use Rattle.branch_tree.specs.Tree.{Rows, frame_at}
use Rattle.step_names.specs.Order.{thread_cmp}
use Rattle.step_names.specs.Thread.{Thread, execution}
use Rattle.saved_steps.specs.Held.{rows_at}
use Rattle.saved_steps.proofs.Earliest.{in_place}
use Rattle.saved_steps.proofs.first.first_in.Goals as goal

pub returns-then-has_ended : goal.returns-then-has_ended
returns-then-has_ended c =
    let passed = contains thread_cmp c.args.passed.now in
    subst (λ (o : Option Rows). IsFirstFree true (rows_at o) (execution c.args.exec.now) passed None) (sym c.in-Some.is) (c.if-has_ended.ensures (execution c.args.exec.now) passed)

pub first_ready-requires : goal.first_ready-requires
first_ready-requires c =
    let passed = contains thread_cmp c.args.passed.now in
    let there = subst (λ (o : Option Rows). NoneBeforePath true (rows_at o) (execution c.args.exec.now) passed c.args.path.now) c.in-Some.is c.requires in
    subst (λ (t : Thread). NoneBeforePath true (frame_at c.in-Some.tree) t passed c.args.path.now) (sym (c.in-Some-new.ensures.1 ∙ ap execution c.in_ok-new.ensures)) there

pub returns : goal.returns
returns c =
    in_place c.first_ready.result c.args.place.now c.in-Some.tree c.in-Some-new.name (execution c.args.exec.now) (contains thread_cmp c.args.passed.now) c.in-Some.is
    (c.in-Some-new.ensures.1 ∙ ap execution c.in_ok-new.ensures) c.first_ready.ensures
