use Rattle.std.proofs.Common.{Some, refl, sym, ap, ◌∙◌, subst, arith}
use Rattle.json_tree.specs.Fields.{IsInNameOrder}
use Rattle.json_tree.specs.View.{data_of, fields_of}
use Rattle.json_tree.proofs.Views.{within, field_at, remove_there, order_without, at_named}
use Rattle.json_tree.proofs.fields.take.Goals as goal

pub remove-value-requires : goal.remove-value-requires
remove-value-requires c =
    let items = c.args.fields.now.items in
    omega (arith, within c.args.name.now items c.in-Ok.at (at_named _ _ _ items c.in-Ok.at refl c.as_slice.ensures.value c.in-Ok.ensures.found))

pub returns-in-Ok-clause-value : goal.returns-in-Ok-clause-value
returns-in-Ok-clause-value c =
    let items = c.args.fields.now.items in
    let at = at_named _ c.args.name.now _ items c.in-Ok.at refl c.as_slice.ensures.value c.in-Ok.ensures.found in
    sym (field_at c.args.name.now items c.in-Ok.at c.remove-value.result at ∙ ap (λ f. Some (data_of f.value)) (sym c.remove-value.ensures.value))

pub returns-in-Ok-clause-after : goal.returns-in-Ok-clause-after
returns-in-Ok-clause-after c =
    let items = c.args.fields.now.items in
    let at = at_named _ c.args.name.now _ items c.in-Ok.at refl c.as_slice.ensures.value c.in-Ok.ensures.found in
    ap fields_of c.remove-value.ensures.items ∙ remove_there c.args.name.now items c.in-Ok.at at

pub returns-in-Ok-clause-ordered : goal.returns-in-Ok-clause-ordered
returns-in-Ok-clause-ordered c =
    let items = c.args.fields.now.items in
    let at = at_named _ c.args.name.now _ items c.in-Ok.at refl c.as_slice.ensures.value c.in-Ok.ensures.found in
    subst IsInNameOrder (sym (ap fields_of c.remove-value.ensures.items ∙ remove_there c.args.name.now items c.in-Ok.at at)) (order_without c.args.name.now (fields_of items) c.requires)
