use Rattle.std.proofs.Common.{Ok, ap, ◌∙◌}
use Rattle.json_tree.specs.Data.{fields, members_of}
use Rattle.attr_values.specs.Datum.{attributes_of}
use Rattle.attr_values.specs.Reading as spec
use Rattle.attr_values.specs.Writing.{json_members}
use Rattle.attr_values.proofs.ProperLemmas.{attributes_read_back}
use Rattle.attr_values.proofs.WritingLemmas.{members_of-json}
use Rattle.attr_values.proofs.item.write_item.Goals as goal

pub returns-clause-json : goal.returns-clause-json
returns-clause-json c =
    ap (λ ms. fields (members_of ms)) (c.in_ok-copy.ensures ∙ c.item.invariant.fields) ∙ ap fields (members_of-json c.item.inside.attributes)
    ∙ ap (λ ms. fields (json_members (attributes_of ms))) c.item.view_is

pub returns-clause-reads_back : goal.returns-clause-reads_back
returns-clause-reads_back c =
    ap (λ ms. spec.read_attributes 32 (members_of ms)) (c.in_ok-copy.ensures ∙ c.item.invariant.fields) ∙ ap (spec.read_attributes 32) (members_of-json c.item.inside.attributes)
    ∙ attributes_read_back 32 (attributes_of c.item.inside.attributes) c.item.invariant.item.proper ∙ ap (λ ms. Ok (attributes_of ms)) c.item.view_is
