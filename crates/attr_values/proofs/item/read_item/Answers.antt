use Rattle.json_tree.specs.Data.{members_of}
use Rattle.attr_values.proofs.ProperLemmas.{attributes_are_proper}
use Rattle.attr_values.proofs.item.read_item.Goals as goal

pub invariant_of-result : goal.invariant_of-result
invariant_of-result c = record {
  item = record {
    ordered = c.in-Ok.ensures.ordered;
    proper = attributes_are_proper 32 (members_of c.in-Fields.fields) _ c.in-Ok.ensures.read;
  };
  fields = c.in_ok-written.ensures;
}

pub returns-clause-kept : goal.returns-clause-kept
returns-clause-kept c = record {
  ordered = c.in-Ok.ensures.ordered;
  proper = attributes_are_proper 32 (members_of c.in-Fields.fields) _ c.in-Ok.ensures.read;
}
