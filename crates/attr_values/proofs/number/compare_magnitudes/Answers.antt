use Rattle.std.proofs.Common.{◌∙◌, ap, arith}
use Rattle.std.specs.Ordering.{ordering_reverse}
use Rattle.attr_values.proofs.NumberLemmas.{nat_cmp-more_places, nat_cmp-fewer_places}
use Rattle.attr_values.proofs.number.compare_magnitudes.Goals as goal

pub returns-then-a_places-b_places : goal.returns-then-a_places-b_places
returns-then-a_places-b_places c =
    c.reverse.ensures ∙ ap ordering_reverse c.compare_with_whole.ensures ∙ nat_cmp-fewer_places c.args.a c.args.b c.args.a_places c.args.b_places (omega arith)

pub returns-else-a_places-b_places : goal.returns-else-a_places-b_places
returns-else-a_places-b_places c =
    c.compare_with_whole-else-a_places-b_places.ensures ∙ nat_cmp-more_places c.args.a c.args.b c.args.a_places c.args.b_places (omega arith)
