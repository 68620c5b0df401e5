use Rattle.std.proofs.Common.{Some, sym, ap, ◌∙◌, subst, arith}
use Rattle.json_tree.specs.Fields.{with_field, IsInNameOrder}
use Rattle.json_tree.specs.View.{data_of, fields_of}
use Rattle.json_tree.proofs.Views.{within, gap_within, field_at, no_field, set_there, insert_there, order_with, at_named, gap_named}
use Rattle.json_tree.proofs.fields.put.Goals as goal

pub index_mut-requires : goal.index_mut-requires
index_mut-requires c =
    let at = at_named _ c.args.name _ c.args.fields.now.items c.in-Ok.at c.as_str.ensures c.as_slice.ensures.value c.in-Ok.ensures.found in
    omega (arith, within c.args.name c.args.fields.now.items c.in-Ok.at at)

pub insert-requires : goal.insert-requires
insert-requires c =
    let gap = gap_named _ c.args.name _ c.args.fields.now.items c.in-Err.at c.as_str.ensures c.as_slice.ensures.value c.in-Err.ensures.absent in
    omega (arith, gap_within c.args.name c.args.fields.now.items c.in-Err.at gap)

pub returns-in-Ok-clause-ok : goal.returns-in-Ok-clause-ok
returns-in-Ok-clause-ok c =
    let items = c.args.fields.now.items in
    let at = at_named _ c.args.name _ items c.in-Ok.at c.as_str.ensures c.as_slice.ensures.value c.in-Ok.ensures.found in
    set_there c.args.name items c.in-Ok.at c.index_mut.result.now c.replace.new.dest c.index_mut.ensures.value at ∙ ap (λ j. with_field c.args.name (data_of j) (fields_of items)) c.replace.ensures.after

pub returns-in-Ok-clause-replaced : goal.returns-in-Ok-clause-replaced
returns-in-Ok-clause-replaced c =
    let items = c.args.fields.now.items in
    let at = at_named _ c.args.name _ items c.in-Ok.at c.as_str.ensures c.as_slice.ensures.value c.in-Ok.ensures.found in
    sym (field_at c.args.name items c.in-Ok.at c.index_mut.result.now at ∙ ap (λ f. Some (data_of f.value)) (sym c.index_mut.ensures.value) ∙ ap (λ j. Some (data_of j)) (sym c.replace.ensures.value))

pub returns-in-Ok-clause-ordered : goal.returns-in-Ok-clause-ordered
returns-in-Ok-clause-ordered c =
    let items = c.args.fields.now.items in
    let at = at_named _ c.args.name _ items c.in-Ok.at c.as_str.ensures c.as_slice.ensures.value c.in-Ok.ensures.found in
    subst IsInNameOrder (sym (set_there c.args.name items c.in-Ok.at c.index_mut.result.now c.replace.new.dest c.index_mut.ensures.value at)) (order_with c.args.name (data_of c.replace.new.dest) (fields_of items) c.requires)

pub returns-in-Ok-insert-clause-ok : goal.returns-in-Ok-insert-clause-ok
returns-in-Ok-insert-clause-ok c =
    let items = c.args.fields.now.items in
    let gap = gap_named _ c.args.name _ items c.in-Err.at c.as_str.ensures c.as_slice.ensures.value c.in-Err.ensures.absent in
    ap fields_of c.in-Ok-insert.ensures.items ∙ insert_there c.args.name items c.in-Err.at c.args.value gap

pub returns-in-Ok-insert-clause-replaced : goal.returns-in-Ok-insert-clause-replaced
returns-in-Ok-insert-clause-replaced c =
    let items = c.args.fields.now.items in
    let gap = gap_named _ c.args.name _ items c.in-Err.at c.as_str.ensures c.as_slice.ensures.value c.in-Err.ensures.absent in
    sym (no_field c.args.name items c.in-Err.at c.requires gap)

pub returns-in-Ok-insert-clause-ordered : goal.returns-in-Ok-insert-clause-ordered
returns-in-Ok-insert-clause-ordered c =
    let items = c.args.fields.now.items in
    let gap = gap_named _ c.args.name _ items c.in-Err.at c.as_str.ensures c.as_slice.ensures.value c.in-Err.ensures.absent in
    subst IsInNameOrder (sym (ap fields_of c.in-Ok-insert.ensures.items ∙ insert_there c.args.name items c.in-Err.at c.args.value gap)) (order_with c.args.name (data_of c.args.value) (fields_of items) c.requires)
