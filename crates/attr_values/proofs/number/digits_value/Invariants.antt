use Rattle.std.proofs.Common.{◌≡◌, ◌<◌, ◌^◌, drop}
use Rattle.std.specs.Str.Parse.{digits_value_after}
use Rattle.attr_values.proofs.number.digits_value.Given as goal

abbrev pub invariant-loop-digit : goal.invariant-loop-digit
invariant-loop-digit l =
    (l.value < 10 ^ 38)
    × (digits_value_after 10 l.start l.digits ≡ digits_value_after 10 l.value (drop l.digit-index l.digits))
