use Rattle.std.proofs.Common.{List, subst, ◌∙◌}
use Rattle.std.specs.String.{string_bytes}
use Rattle.step_names.specs.Thread.{execution}
use Rattle.saved_steps.proofs.Earliest.{IsGone, gone_before, goes_by, none_but, of, quiet_up_to}
use Rattle.saved_steps.proofs.first.first_with_a_move.Goals as goal

pub loop-exec-init : goal.loop-exec-init
loop-exec-init c =
    let m = c.args.trees.now in
    let name = string_bytes c.args.quiet.now.name in
    let awake = string_bytes c.args.quiet.now.awake in
    gone_before m (of awake) name c.into_iter-exec-iterator.result
    (c.into_iter-exec-iterator.ensures.into_iter_gives ∙ c.range-exec-items.ensures.between tt) c.range-exec-items.ensures.ordered (none_but m name awake c.requires)

pub returns-then-not-is_quiet : goal.returns-then-not-is_quiet
returns-then-not-is_quiet c =
    let m = c.args.trees.now in
    let awake = string_bytes c.args.quiet.now.awake in
    quiet_up_to m awake c.in-Some.exec.now c.in-Some.place.now c.next.new.self (subst (IsGone m (of awake)) c.in-Some.ensures.steps c.loop-exec.invariant)

pub loop-exec-preserved : goal.loop-exec-preserved
loop-exec-preserved c =
    let m = c.args.trees.now in
    let passed = of (string_bytes c.args.quiet.now.awake) in
    goes_by m passed c.in-Some.exec.now c.in-Some.place.now c.next.new.self (subst (IsGone m passed) c.in-Some.ensures.steps c.loop-exec.invariant)
    (c.if-not-is_quiet.ensures (execution (string_bytes c.in-Some.exec.now)) passed)
