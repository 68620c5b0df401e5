use Rattle.std.proofs.Common.{ap, ◌∙◌, sym, subst, ◌-◌, drop, inr, Some, Ok}
use Rattle.std.proofs.lemmas.List.{drop_all}
use Rattle.json_tree.specs.Data.{items_of, members_of}
use Rattle.json_tree.specs.View.{data_of}
use Rattle.attr_values.specs.Datum.{list, document, elements_of, attributes_of}
use Rattle.attr_values.specs.Faults.{result_map}
use Rattle.attr_values.specs.Item.{IsItemInNameOrder}
use Rattle.attr_values.specs.Reading as spec
use Rattle.attr_values.specs.View.{datum_list_of, entries_of}
use Rattle.attr_values.specs.declared.reading.Kind.TheVariants.{L, M}
use Rattle.attr_values.proofs.ReadingLemmas.{element_step, elements_end, attributes_start, attribute_step, next_field, attributes_end, attributes_ordered, read_datum-field, read_datum-other, read_kind-none, read_kind-list, read_kind-map, mapped_fault}
use Rattle.attr_values.proofs.reading.+read.Goals as goal

pub read_attributes-loop-field-init : goal.read_attributes-loop-field-init
read_attributes-loop-field-init t c =
    attributes_start c.args.levels c.as_slice-field-items.result.now c.args.fields.now c.in_ok-inner.inner.items c.in_ok-inner.ensures.items c.as_slice-field-items.ensures.fields c.as_slice-field-items.ensures.ordered

pub read_attributes-loop-field-preserved : goal.read_attributes-loop-field-preserved
read_attributes-loop-field-preserved t c =
    let l = c.loop-field in
    let f = c.field-item.result in
    let next = next_field c.as_slice-field-items.result.now l.field-index f c.field-item.is c.loop-field-test.true in
    attribute_step c.args.levels (drop l.field-index c.as_slice-field-items.result.now) _ f l.inner.items c.push.new.self.items c.in_ok-name.name c.in_ok-value.value _
    next c.in_ok-name.ensures c.in_ok-value.ensures.read c.in_ok-push.ensures.items l.invariant

pub read_attributes-returns-clause-read : goal.read_attributes-returns-clause-read
read_attributes-returns-clause-read t c =
    let l = c.loop-field in
    let from = c.as_slice-field-items.result.now in
    attributes_end c.args.levels (drop l.field-index from) l.inner.items _ (drop_all l.field-index from c.loop-field-test.false) l.invariant
    ∙ ap (λ v. Ok (attributes_of (entries_of v.items))) (sym c.in_ok-new.ensures.ok)

pub read_attributes-returns-clause-ordered : goal.read_attributes-returns-clause-ordered
read_attributes-returns-clause-ordered t c =
    let l = c.loop-field in
    let from = c.as_slice-field-items.result.now in
    let sorted = attributes_ordered c.args.levels (drop l.field-index from) l.inner.items _ (drop_all l.field-index from c.loop-field-test.false) l.invariant in
    subst (λ v. IsItemInNameOrder (entries_of v.items)) (sym c.in_ok-new.ensures.ok) sorted

pub read_elements-loop-json-preserved : goal.read_elements-loop-json-preserved
read_elements-loop-json-preserved t c =
    let l = c.loop-json in
    element_step c.args.levels c.as_slice-json-items.result.now l.json-index c.json-item.result l.inner.items c.push.new.self.items c.in_ok-read_within.field-0 _ c.json-item.is c.loop-json-test.true
    c.in_ok-read_within.ensures.read c.in_ok-push.ensures.items l.invariant

pub read_elements-returns : goal.read_elements-returns
read_elements-returns t c =
    elements_end c.args.levels c.as_slice-json-items.result.now c.loop-json.json-index c.loop-json.inner.items _ c.loop-json-test.false c.loop-json.invariant
    ∙ ap (λ v. Ok (elements_of (datum_list_of v.items))) (sym c.in_ok-new.ensures.ok)

pub read_within-returns-in_default-only_field-clause-read : goal.read_within-returns-in_default-only_field-clause-read
read_within-returns-in_default-only_field-clause-read t c =
    inr (ap (λ j. spec.read_datum c.args.levels (data_of j)) c.in-Fields.is ∙ read_datum-other c.args.levels c.in-Fields.fields c.in_default-only_field.ensures)

pub read_within-returns-in-Some-kind_of-clause-read : goal.read_within-returns-in-Some-kind_of-clause-read
read_within-returns-in-Some-kind_of-clause-read t c =
    let is = ap (λ j. spec.read_datum c.args.levels (data_of j)) c.in-Fields.is ∙ read_datum-field c.args.levels c.in-Some.name.now (data_of c.in-Some.value.now) c.in-Fields.fields c.in-Some.ensures
    ∙ ap (λ k. spec.read_kind k c.args.levels (data_of c.in-Some.value.now)) (sym c.in-Some-kind_of.ensures) in
    rw is c.read_kind.ensures.read

pub read_within-returns-in-None-clause-read : goal.read_within-returns-in-None-clause-read
read_within-returns-in-None-clause-read t c =
    inr (ap (λ j. spec.read_datum c.args.levels (data_of j)) c.in-Fields.is ∙ read_datum-field c.args.levels c.in-Some.name.now (data_of c.in-Some.value.now) c.in-Fields.fields c.in-Some.ensures
    ∙ ap (λ k. spec.read_kind k c.args.levels (data_of c.in-Some.value.now)) (sym c.in-None.ensures) ∙ read_kind-none c.args.levels (data_of c.in-Some.value.now))

pub read_list-returns-in-Ok-clause-read : goal.read_list-returns-in-Ok-clause-read
read_list-returns-in-Ok-clause-read t c =
    ap (λ j. spec.read_kind (Some L) c.args.levels (data_of j)) c.in-List.is ∙ read_kind-list c.args.levels (items_of c.in-List.list) c.if-levels-gt0.true ∙ ap (result_map list) c.in-Ok.ensures

pub read_list-returns-in-Err-clause-read : goal.read_list-returns-in-Err-clause-read
read_list-returns-in-Err-clause-read t c =
    mapped_fault list (spec.read_elements (c.args.levels - 1) (items_of c.in-List.list)) _ c.in-Err.fault
    (ap (λ j. spec.read_kind (Some L) c.args.levels (data_of j)) c.in-List.is ∙ read_kind-list c.args.levels (items_of c.in-List.list) c.if-levels-gt0.true) c.in-Err.ensures

pub read_map-returns-in-Ok-clause-read : goal.read_map-returns-in-Ok-clause-read
read_map-returns-in-Ok-clause-read t c =
    ap (λ j. spec.read_kind (Some M) c.args.levels (data_of j)) c.in-Fields.is ∙ read_kind-map c.args.levels (members_of c.in-Fields.fields) c.if-levels-gt0.true
    ∙ ap (result_map document) c.in-Ok.ensures.read

pub read_map-returns-in-Err-clause-read : goal.read_map-returns-in-Err-clause-read
read_map-returns-in-Err-clause-read t c =
    mapped_fault document (spec.read_attributes (c.args.levels - 1) (members_of c.in-Fields.fields)) _ c.in-Err.fault
    (ap (λ j. spec.read_kind (Some M) c.args.levels (data_of j)) c.in-Fields.is ∙ read_kind-map c.args.levels (members_of c.in-Fields.fields) c.if-levels-gt0.true) c.in-Err.ensures.read
