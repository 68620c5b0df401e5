use Rattle.std.proofs.Common.{◌≡◌, ◌+◌, ◌∷◌, drop, subst, arith}
use Rattle.std.proofs.lemmas.List.{drop_all}
use Rattle.json_tree.specs.Data.{items_of}
use Rattle.json_tree.specs.View.{data_of}
use Rattle.ref_paths.specs.PayloadView.{payload_of, payload_field_of}
use Rattle.ref_paths.specs.Templates.{IsTemplate, FieldIs}
use Rattle.ref_paths.proofs.TemplateReadings.{on_named, passed_on, item_depth, next_field, field_depth, items_step, items_end, item_fault, fields_step, fields_end, object_fault, object_reads}
use Rattle.ref_paths.proofs.template_reading.+read_node.Goals as goal

pub read_fields-loop-field-preserved : goal.read_fields-loop-field-preserved
read_fields-loop-field-preserved t c =
    let l = c.loop-field in
    let from = c.as_slice-field-items.result.now in
    let x = c.field-item.result in
    let f = c.in_ok-read_field.field-0 in
    let reads = subst (λ k. FieldIs c.args.item_paths c.args.fields.now k (data_of x.value) (payload_field_of f) (IsTemplate c.args.item_paths (data_of x.value) (payload_of f.value))) c.as_str.ensures c.in_ok-read_field.ensures.ok in
    fields_step c.args.item_paths c.args.fields.now (drop l.field-index from) (drop (l.field-index + 1) from) x l.inner.items c.push.new.self.items f (next_field from l.field-index x c.field-item.is c.loop-field-test.true) reads c.in_ok-push.ensures.items l.invariant

pub read_fields-returns-clause-ok : goal.read_fields-returns-clause-ok
read_fields-returns-clause-ok t c =
    let from = c.as_slice-field-items.result.now in
    fields_end c.args.item_paths c.args.fields.now (drop c.loop-field.field-index from) c.loop-field.inner.items (drop_all c.loop-field.field-index from c.loop-field-test.false) c.loop-field.invariant

pub read_list-read_node-requires : goal.read_list-read_node-requires
read_list-read_node-requires t c =
    (omega (arith, item_depth c.as_slice-json-items.result.now c.loop-json.json-index c.json-item.result c.args.list.now c.json-item.is c.loop-json-test.true c.as_slice-json-items.ensures, c.decreases), tt)

pub read_list-returns-in_err-read_node-clause-fault : goal.read_list-returns-in_err-read_node-clause-fault
read_list-returns-in_err-read_node-clause-fault t c =
    let e = c.in_err-read_node.field-0.0 in
    passed_on c.from_residual-in_err-read_node.result e _ c.from_residual-in_err-read_node.ensures.1
    (on_named e (item_fault c.args.item_paths c.args.list.now c.as_slice-json-items.result.now c.loop-json.json-index c.json-item.result e c.json-item.is c.loop-json-test.true c.as_slice-json-items.ensures) c.in_err-read_node.ensures.fault)

pub read_list-loop-json-preserved : goal.read_list-loop-json-preserved
read_list-loop-json-preserved t c =
    let l = c.loop-json in
    items_step c.args.item_paths (items_of c.args.list.now) c.as_slice-json-items.result.now l.json-index c.json-item.result l.inner.items c.push.new.self.items c.in_ok-read_node.field-0
    c.json-item.is c.loop-json-test.true c.in_ok-read_node.ensures.ok c.in_ok-push.ensures.items l.invariant

pub read_list-returns-clause-ok : goal.read_list-returns-clause-ok
read_list-returns-clause-ok t c = items_end c.args.item_paths (items_of c.args.list.now) c.as_slice-json-items.result.now c.loop-json.json-index c.loop-json.inner.items c.loop-json-test.false c.loop-json.invariant

pub read_node-returns-in_err-read_fields-in-Fields-clause-fault : goal.read_node-returns-in_err-read_fields-in-Fields-clause-fault
read_node-returns-in_err-read_fields-in-Fields-clause-fault t c =
    let e = c.in_err-read_fields-in-Fields.field-0.0 in
    passed_on c.from_residual-in_err-read_fields-in-Fields.result e _ c.from_residual-in_err-read_fields-in-Fields.ensures.1 (rw c.in-Fields.is (on_named e (object_fault c.args.item_paths c.in-Fields.fields e) c.in_err-read_fields-in-Fields.ensures.fault))

pub read_node-returns-in_ok-read_fields-in-Fields-clause-ok : goal.read_node-returns-in_ok-read_fields-in-Fields-clause-ok
read_node-returns-in_ok-read_fields-in-Fields-clause-ok t c =
    rw c.in-Fields.is (object_reads c.args.item_paths c.in-Fields.fields c.in_ok-read_fields-in-Fields.field-0 c.in_ok-read_fields-in-Fields.ensures.ok)

pub read_fields-read_field-requires : goal.read_fields-read_field-requires
read_fields-read_field-requires t c =
    (omega (arith, field_depth c.as_slice-field-items.result.now c.loop-field.field-index c.field-item.result c.args.fields.now c.field-item.is c.loop-field-test.true c.as_slice-field-items.ensures.fields, c.decreases), tt)
