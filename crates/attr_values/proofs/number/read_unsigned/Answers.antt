use Rattle.std.proofs.Common.{◌≡◌, ◌<◌, ◌≤◌, ◌^◌, ◌%◌, ◌++◌, length, sym, ap, ◌∙◌, arith, rules, inl, inr, Some, to_z, of_z, ℤ}
use Rattle.std.specs.Prelude.{FitsSigned}
use Rattle.std.specs.Int.{w128}
use Rattle.std.proofs.lemmas.Int.{to_z-of_z}
use Rattle.attr_values.specs.Decimal.{Decimal}
use Rattle.attr_values.specs.Numeral.{with_sign}
use Rattle.std.specs.Str.Parse.{digits_value}
use Rattle.attr_values.proofs.NumeralLemmas.{read_is, bounded_none, bounded_some, normal_decimal}
use Rattle.attr_values.proofs.number.read_unsigned.Goals as goal

pub returns-then-fraction-gt-MOST_PLACES : goal.returns-then-fraction-gt-MOST_PLACES
returns-then-fraction-gt-MOST_PLACES c =
    let cut = c.without_last_zeros-fraction.ensures in
    let kept = c.without_last_zeros-fraction.result.now in
    let is = read_is c.args.negative c.args.digits.now _ _ kept cut.0 c.in_ok-whole.ensures cut.1 cut.2 in
    sym (is.2 ∙ bounded_none c.args.negative (digits_value 10 (c.in_ok-whole.whole.now ++ kept)) (length kept) (inr (omega arith)))

pub returns-in_err-magnitude : goal.returns-in_err-magnitude
returns-in_err-magnitude c =
    let cut = c.without_last_zeros-fraction.ensures in
    let kept = c.without_last_zeros-fraction.result.now in
    let is = read_is c.args.negative c.args.digits.now _ _ kept cut.0 c.in_ok-whole.ensures cut.1 cut.2 in
    let large : 10 ^ 38 ≤ digits_value 10 (c.in_ok-whole.whole.now ++ kept) = omega (arith, c.in_err-magnitude.ensures) in
    c.from_residual-in_err-magnitude.ensures ∙ sym (is.2 ∙ bounded_none c.args.negative (digits_value 10 (c.in_ok-whole.whole.now ++ kept)) (length kept) (inl large))

pub digits_value_of_both-requires-clause-fraction : goal.digits_value_of_both-requires-clause-fraction
digits_value_of_both-requires-clause-fraction c =
    let cut = c.without_last_zeros-fraction.ensures in
    (read_is c.args.negative c.args.digits.now _ _ _ cut.0 c.in_ok-whole.ensures cut.1 cut.2).0

pub invariant_of-result : goal.invariant_of-result
invariant_of-result c =
    let cut = c.without_last_zeros-fraction.ensures in
    let kept = c.without_last_zeros-fraction.result.now in
    let is = read_is c.args.negative c.args.digits.now _ _ kept cut.0 c.in_ok-whole.ensures cut.1 cut.2 in
    let value : c.in_ok-magnitude.magnitude ≡ digits_value 10 (c.in_ok-whole.whole.now ++ kept) = c.in_ok-magnitude.ensures.1 in
    let fits : FitsSigned w128 c.with_sign.result = search rules in
    let places : length kept ≤ 100 = omega arith in
    let ends : 0 < length kept → 0 < c.in_ok-magnitude.magnitude % 10 = λ some. rw value (is.1 some) in
    rw (to_z-of_z w128 c.with_sign.result fits, c.with_sign.ensures)
    (normal_decimal c.args.negative c.in_ok-magnitude.magnitude (length kept) (rw value c.in_ok-magnitude.ensures.0) places ends)

pub returns : goal.returns
returns c =
    let cut = c.without_last_zeros-fraction.ensures in
    let kept = c.without_last_zeros-fraction.result.now in
    let is = read_is c.args.negative c.args.digits.now _ _ kept cut.0 c.in_ok-whole.ensures cut.1 cut.2 in
    let fits : FitsSigned w128 c.with_sign.result = search rules in
    let places : length kept ≤ 100 = omega arith in
    let coefficient : to_z w128 (of_z w128 c.with_sign.result) ≡ with_sign c.args.negative (digits_value 10 (c.in_ok-whole.whole.now ++ kept)) =
    to_z-of_z w128 c.with_sign.result fits ∙ c.with_sign.ensures ∙ ap (with_sign c.args.negative) c.in_ok-magnitude.ensures.1 in
    ap (λ (z : ℤ). let d : Decimal = record { coefficient = z; places = length kept } in Some d) coefficient
    ∙ sym (is.2 ∙ bounded_some c.args.negative (digits_value 10 (c.in_ok-whole.whole.now ++ kept)) (length kept) c.in_ok-magnitude.ensures.0 places)
