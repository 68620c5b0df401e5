use Rattle.std.proofs.Common.{ℕ, true, List, ap, subst, ◌∙◌}
use Rattle.std.specs.BTreeSet.{contains}
use Rattle.std.specs.String.{string_bytes}
use Rattle.branch_tree.specs.First.{IsFirstFree}
use Rattle.step_names.specs.Order.{thread_cmp}
use Rattle.step_names.specs.Thread.{execution}
use Rattle.saved_steps.specs.Held.{frames_in, rows_at, tree_in}
use Rattle.saved_steps.proofs.Earliest.{IsGone, before_name, gone_before, goes_by, is_found, none_under, of_name, tree_next}
use Rattle.saved_steps.proofs.first.first_from.Goals as goal

pub returns-in-Some-2 : goal.returns-in-Some-2
returns-in-Some-2 c =
    let m = c.args.trees.now in
    let passed = contains thread_cmp c.args.passed.now in
    let gone = subst (IsGone m passed) c.in-Some.ensures.steps c.loop-exec.invariant in
    let found = subst (λ (exec : List ℕ). IsFirstFree true (rows_at c.in-Some.place.now) (execution exec) passed c.in_ok-found.field-0) c.as_str-name.ensures.value c.in_ok-found.ensures in
    is_found m passed c.in-Some.exec.now c.in-Some.place.now c.next.new.self gone c.in-Some-2.found c.path.ensures.bounds
    (subst (IsFirstFree true (rows_at c.in-Some.place.now) (execution (string_bytes c.in-Some.exec.now)) passed) c.in-Some-2.is found)

pub loop-exec-preserved : goal.loop-exec-preserved
loop-exec-preserved c =
    let m = c.args.trees.now in
    let passed = contains thread_cmp c.args.passed.now in
    let gone = subst (IsGone m passed) c.in-Some.ensures.steps c.loop-exec.invariant in
    let found = subst (λ (exec : List ℕ). IsFirstFree true (rows_at c.in-Some.place.now) (execution exec) passed c.in_ok-found.field-0) c.as_str-name.ensures.value c.in_ok-found.ensures in
    goes_by m passed c.in-Some.exec.now c.in-Some.place.now c.next.new.self gone
    (subst (IsFirstFree true (rows_at c.in-Some.place.now) (execution (string_bytes c.in-Some.exec.now)) passed) c.in_default.is found)

pub loop-exec-init : goal.loop-exec-init
loop-exec-init c =
    gone_before c.args.trees.now (contains thread_cmp c.args.passed.now) (string_bytes c.args.from.now) c.into_iter-exec-iterator.result
    (c.into_iter-exec-iterator.ensures.into_iter_gives ∙ c.range-exec-items.ensures.between tt) c.range-exec-items.ensures.ordered
    (before_name (frames_in c.args.trees.now) (contains thread_cmp c.args.passed.now) (string_bytes c.args.from.now) c.args.path.now c.requires)

pub first_in-requires : goal.first_in-requires
first_in-requires c =
    let m = c.args.trees.now in
    let passed = contains thread_cmp c.args.passed.now in
    let gone = subst (IsGone m passed) c.in-Some.ensures.steps c.loop-exec.invariant in
    none_under m passed c.as_str-name.result.now c.in-Some.place.now (ap (tree_in m) c.as_str-name.ensures.value ∙ tree_next m passed c.in-Some.exec.now c.in-Some.place.now c.next.new.self gone)
    (string_bytes c.args.from.now) c.args.path.now c.path_in-under.result.now c.requires (of_name _ _ _ _ _ c.as_str.ensures.value c.path_in-under.ensures)
