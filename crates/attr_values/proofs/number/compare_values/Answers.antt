use Rattle.std.proofs.Common.{arith}
use Rattle.std.specs.Prelude.{pos, ◌≤ℤ◌, ◌<ℤ◌}
use Rattle.std.proofs.lemmas.Int.{ints}
use Rattle.attr_values.proofs.NumberLemmas.{int_cmp-minus_plus, int_cmp-plus_minus, ten_above_zero}
use Rattle.attr_values.proofs.number.compare_values.Goals as goal

pub returns-in-true-false-clause-order : goal.returns-in-true-false-clause-order
returns-in-true-false-clause-order c =
    let below : c.a.inside.coefficient <ℤ pos 0 = grind (arith, ints) in
    let above : pos 0 ≤ℤ c.b.inside.coefficient = grind (arith, ints) in
    rw (← c.a.view_is, ← c.b.view_is) (int_cmp-minus_plus c.a.inside.coefficient c.b.inside.coefficient _ _ (ten_above_zero c.b.inside.places) below above)

pub returns-in-false-true-clause-order : goal.returns-in-false-true-clause-order
returns-in-false-true-clause-order c =
    let above : pos 0 ≤ℤ c.a.inside.coefficient = grind (arith, ints) in
    let below : c.b.inside.coefficient <ℤ pos 0 = grind (arith, ints) in
    rw (← c.a.view_is, ← c.b.view_is) (int_cmp-plus_minus c.a.inside.coefficient c.b.inside.coefficient _ _ (ten_above_zero c.a.inside.places) above below)
