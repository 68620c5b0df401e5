use Rattle.std.proofs.Common.{◌≡◌, codes, ap, ap₂, sym, rules, ◌∙◌}
use Rattle.json_tree.specs.Data as json
use Rattle.json_tree.specs.Data.{items_of, members_of}
use Rattle.json_tree.specs.View.{data_of}
use Rattle.attr_values.specs.View.{datum_of}
use Rattle.attr_values.specs.Writing.{json_of, one_field}
use Rattle.attr_values.proofs.WritingLemmas.{items_of-json, members_of-json}
use Rattle.attr_values.proofs.spelling.+spelled.Goals as goal

pub is_content_spelled-returns-then-eq-4 : goal.is_content_spelled-returns-then-eq-4
is_content_spelled-returns-then-eq-4 t c = λ yes.
    let named : c.args.name.now ≡ codes "L" = search rules in
    let is = ap (λ ds. json.list (items_of ds)) (c.is_list_spelled.ensures yes) ∙ ap json.list (items_of-json c.in-L-List.list) in
    ap₂ one_field named (ap data_of c.in-L-List.is-1 ∙ is) ∙ ap (λ v. json_of (datum_of v)) (sym c.in-L-List.is-0)

pub is_content_spelled-returns-then-eq-5 : goal.is_content_spelled-returns-then-eq-5
is_content_spelled-returns-then-eq-5 t c = λ yes.
    let named : c.args.name.now ≡ codes "M" = search rules in
    let is = ap (λ ms. json.fields (members_of ms)) (c.is_map_spelled.ensures yes) ∙ ap json.fields (members_of-json c.in-M-Fields.map) in
    ap₂ one_field named (ap data_of c.in-M-Fields.is-1 ∙ is) ∙ ap (λ v. json_of (datum_of v)) (sym c.in-M-Fields.is-0)
