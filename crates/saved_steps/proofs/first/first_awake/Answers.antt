use Rattle.std.proofs.Common.{◌≡◌, ℕ, true, List, Less, Some, ap, ap₂, sym, subst, ◌∙◌}
use Rattle.std.specs.BTreeMap.{get_by_text}
use Rattle.std.specs.BTreeSet.{contains}
use Rattle.std.specs.Cmp.Lexicographic.{slice_cmp}
use Rattle.std.specs.Ordering.{nat_cmp}
use Rattle.std.specs.String.{string_bytes}
use Rattle.branch_tree.specs.First.{IsFirstFree}
use Rattle.step_names.specs.Order.{thread_cmp}
use Rattle.step_names.specs.Thread.{execution}
use Rattle.saved_steps.specs.Held.{placed, rows_at, tree_in}
use Rattle.saved_steps.proofs.Earliest.{awake_found, none_as_early, none_as_late, none_placed, none_there, none_under, of_name}
use Rattle.saved_steps.proofs.first.first_awake.Goals as goal

pub returns-in_default : goal.returns-in_default
returns-in_default c =
    let told = c.cmp.ensures ∙ ap₂ (slice_cmp nat_cmp) c.as_str-awake.ensures.value c.as_str.ensures.value in
    none_as_late c.args.trees.now (string_bytes c.args.quiet.now.name) (string_bytes c.args.quiet.now.awake) (contains thread_cmp c.args.passed.now) c.requires.quiet
    (λ less. c.in_default.not-Less (told ∙ less))

pub returns-in-None : goal.returns-in-None
returns-in-None c =
    let m = c.args.trees.now in
    none_placed m (string_bytes c.args.quiet.now.name) (string_bytes c.args.quiet.now.awake) (contains thread_cmp c.args.passed.now) c.requires.quiet
    (ap (get_by_text m) (sym c.as_str-awake.ensures.value) ∙ sym c.in-None.ensures.value)

pub returns-in-Some-2 : goal.returns-in-Some-2
returns-in-Some-2 c =
    let m = c.args.trees.now in
    let name = string_bytes c.args.quiet.now.name in
    let awake = string_bytes c.args.quiet.now.awake in
    let passed = contains thread_cmp c.args.passed.now in
    let place = c.in-Some.place.now in
    let there = ap (get_by_text m) (sym c.as_str-awake.ensures.value) ∙ sym c.in-Some.ensures.value in
    let below : slice_cmp nat_cmp awake name ≡ Less = sym (ap₂ (slice_cmp nat_cmp) c.as_str-awake.ensures.value c.as_str.ensures.value) ∙ sym c.cmp.ensures ∙ c.in-Less.is in
    let found = subst (λ (exec : List ℕ). IsFirstFree true (rows_at place) (execution exec) passed c.in_ok-found.field-0) c.as_str-awake.ensures.value c.in_ok-found.ensures in
    awake_found m name awake passed c.requires.quiet below place (ap placed there) c.in-Some-2.found c.path.ensures.bounds
    (subst (IsFirstFree true (rows_at place) (execution awake) passed) c.in-Some-2.is found)

pub returns-in-None-2 : goal.returns-in-None-2
returns-in-None-2 c =
    let m = c.args.trees.now in
    let awake = string_bytes c.args.quiet.now.awake in
    let passed = contains thread_cmp c.args.passed.now in
    let place = c.in-Some.place.now in
    let there = ap (get_by_text m) (sym c.as_str-awake.ensures.value) ∙ sym c.in-Some.ensures.value in
    let found = subst (λ (exec : List ℕ). IsFirstFree true (rows_at place) (execution exec) passed c.in_ok-found.field-0) c.as_str-awake.ensures.value c.in_ok-found.ensures in
    none_there m (string_bytes c.args.quiet.now.name) awake passed c.requires.quiet place (ap placed there)
    (subst (IsFirstFree true (rows_at place) (execution awake) passed) c.in-None-2.is found)

pub returns-in-Less-cmp : goal.returns-in-Less-cmp
returns-in-Less-cmp c =
    let early = sym (ap₂ (slice_cmp nat_cmp) c.as_str-awake.ensures.value c.as_str-2.ensures.value) ∙ sym c.cmp-2.ensures ∙ c.in-Less-cmp.is in
    none_as_early c.args.trees.now (string_bytes c.args.quiet.now.name) (string_bytes c.args.quiet.now.awake) (contains thread_cmp c.args.passed.now) c.requires.quiet
    (string_bytes c.args.from.now) c.args.path.now c.requires.from early

pub first_in-requires : goal.first_in-requires
first_in-requires c =
    let m = c.args.trees.now in
    let there = ap (get_by_text m) (sym c.as_str-awake.ensures.value) ∙ sym c.in-Some.ensures.value in
    none_under m (contains thread_cmp c.args.passed.now) c.as_str-awake.result.now c.in-Some.place.now (ap (tree_in m) c.as_str-awake.ensures.value ∙ ap placed there)
    (string_bytes c.args.from.now) c.args.path.now c.path_in-under.result.now c.requires.from (of_name _ _ _ _ _ c.as_str-3.ensures.value c.path_in-under.ensures)
