use Rattle.std.proofs.Common.{◌≡◌, arith, false, true, Some, map, ap, ◌∙◌}
use Rattle.std.specs.Prelude.{slice_get}
use Rattle.step_index.specs.Held.{is_mark}
use Rattle.step_index.proofs.Left.{count_without}
use Rattle.step_index.proofs.held.HeldSteps.count_without.Goals as goal

pub overflow_sub-result : goal.overflow_sub-result
overflow_sub-result c =
    let ms = c.self.inside.places.items in
    let is : slice_get ms c.args.at ≡ Some c.is_left.result = rw (← c.self.view_is) at c.is_left.ensures in
    let e = count_without ms c.args.at true (is ∙ ap Some c.if-is_left.true) in
    let counted = c.self.invariant.counted in
    omega (arith, e, counted)

pub returns-then-is_left : goal.returns-then-is_left
returns-then-is_left c =
    let ms = c.self.inside.places.items in
    let is : slice_get ms c.args.at ≡ Some c.is_left.result = rw (← c.self.view_is) at c.is_left.ensures in
    let e = count_without ms c.args.at true (is ∙ ap Some c.if-is_left.true) in
    let counted = c.self.invariant.counted in
    rw (← c.self.view_is) (omega (arith, e, counted))

pub returns : goal.returns
returns c =
    let ms = c.self.inside.places.items in
    let is : slice_get ms c.args.at ≡ Some c.is_left.result = rw (← c.self.view_is) at c.is_left.ensures in
    let e = count_without ms c.args.at false (is ∙ ap Some c.if-is_left.false) in
    let counted = c.self.invariant.counted in
    rw (← c.self.view_is) (omega (arith, e, counted))
