use Rattle.std.proofs.Common.{◌≡◌, ap, sym, subst, ◌∙◌}
use Rattle.std.proofs.lemmas.List.{take_all}
use Rattle.std.proofs.lemmas.Result.{IfOk-weaker}
use Rattle.std.specs.Arc.{arc_value}
use Rattle.json_tree.specs.Data as json
use Rattle.json_tree.specs.Data.{items_of, members_of}
use Rattle.json_tree.specs.View.{fields_of}
use Rattle.attr_values.specs.Item.{IsItemInNameOrder}
use Rattle.attr_values.specs.View.{datum_of, entries_of}
use Rattle.attr_values.specs.Writing.{json_of, json_entries, one_field}
use Rattle.attr_values.proofs.WritingLemmas.{items_of-json, members_of-json, fields_ordered}
use Rattle.attr_values.proofs.writing.+write.Goals as goal

pub write_map-from_sorted-requires : goal.write_map-from_sorted-requires
write_map-from_sorted-requires t c =
    let l = c.loop-attribute in
    let items = c.deref-attribute-items.result.now in
    let is : items ≡ (arc_value c.map.inside.inner).items = c.deref-attribute-items.ensures.value ∙ ap (λ v. v.items) c.deref-attributes.ensures in
    let all : fields_of l.fields.items ≡ json_entries (entries_of items) = l.invariant ∙ ap (λ xs. json_entries (entries_of xs)) (take_all l.attribute-index items c.loop-attribute-test.false) in
    fields_ordered l.fields.items (entries_of items) (subst (λ xs. IsItemInNameOrder (entries_of xs)) (sym is) c.map.invariant) all

pub write_value-returns-in_ok-write_list-in-L : goal.write_value-returns-in_ok-write_list-in-L
write_value-returns-in_ok-write_list-in-L t c =
    let is = ap (λ ds. json.list (items_of ds)) c.in_ok-write_list-in-L.ensures ∙ ap json.list (items_of-json c.in-L.list) in
    IfOk-weaker c.one_field-in-L.result _ _ (λ j e. e ∙ ap (one_field _) is ∙ ap (λ v. json_of (datum_of v)) (sym c.in-L.is)) c.one_field-in-L.ensures

pub write_value-returns-in_ok-write_map-in-M : goal.write_value-returns-in_ok-write_map-in-M
write_value-returns-in_ok-write_map-in-M t c =
    let is = ap (λ ds. json.fields (members_of ds)) c.in_ok-write_map-in-M.ensures ∙ ap json.fields (members_of-json c.in-M.map) in
    IfOk-weaker c.one_field-in-M.result _ _ (λ j e. e ∙ ap (one_field _) is ∙ ap (λ v. json_of (datum_of v)) (sym c.in-M.is)) c.one_field-in-M.ensures
