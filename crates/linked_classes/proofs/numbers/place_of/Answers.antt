use Rattle.linked_classes.proofs.Numbered.{never_missing, place_found}
use Rattle.linked_classes.proofs.numbers.place_of.Goals as goal

pub unreachable-requires : goal.unreachable-requires
unreachable-requires c = never_missing c.args.numbers.now c.requires.rising c.args.number c.requires.there.0 c.binary_search.result c.binary_search.ensures.position c.requires.there.1 c.in_default.field-0 c.in_default.is

pub returns : goal.returns
returns c = place_found c.args.numbers.now c.requires.rising c.args.number c.binary_search.result c.binary_search.ensures.position c.in-Ok.place c.in-Ok.is
