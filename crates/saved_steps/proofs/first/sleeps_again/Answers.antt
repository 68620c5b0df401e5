use Rattle.std.proofs.Common.{[], ap, ap₂, sym, subst, ◌∙◌}
use Rattle.std.specs.Cmp.Lexicographic.{slice_cmp}
use Rattle.std.specs.Ordering.{nat_cmp}
use Rattle.std.specs.BTreeMap.{get_by_text}
use Rattle.std.specs.String.{string_bytes}
use Rattle.step_names.specs.Thread.{execution}
use Rattle.saved_steps.specs.First.{AreQuiet}
use Rattle.saved_steps.specs.Held.{placed}
use Rattle.saved_steps.proofs.Earliest.{all_sleep, none_as_late, none_placed, none_there, when_so}
use Rattle.saved_steps.proofs.first.sleeps_again.Goals as goal

pub returns-in_default : goal.returns-in_default
returns-in_default c =
    let m = c.args.trees.now in
    let name = string_bytes c.args.quiet.now.name in
    let awake = string_bytes c.args.quiet.now.awake in
    let told = c.cmp.ensures ∙ ap₂ (slice_cmp nat_cmp) c.as_str-awake.ensures.value c.as_str.ensures.value in
    all_sleep m name (λ passed. none_as_late m name awake passed c.requires (λ less. c.in_default.not-Less (told ∙ less)))

pub returns-in-Some : goal.returns-in-Some
returns-in-Some c =
    let m = c.args.trees.now in
    let name = string_bytes c.args.quiet.now.name in
    let awake = string_bytes c.args.quiet.now.awake in
    let place = ap (get_by_text m) (sym c.as_str-awake.ensures.value) ∙ sym c.in-Some.ensures.value in
    when_so c.is_quiet.result _ (AreQuiet m name [])
    (λ calm. all_sleep m name (λ passed. none_there m name awake passed c.requires c.in-Some.place.now (ap placed place) (calm (execution awake) passed))) c.is_quiet.ensures

pub returns-in-None : goal.returns-in-None
returns-in-None c =
    let m = c.args.trees.now in
    let name = string_bytes c.args.quiet.now.name in
    let awake = string_bytes c.args.quiet.now.awake in
    let none = ap (get_by_text m) (sym c.as_str-awake.ensures.value) ∙ sym c.in-None.ensures.value in
    all_sleep m name (λ passed. none_placed m name awake passed c.requires none)
