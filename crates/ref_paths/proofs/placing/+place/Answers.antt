use Rattle.std.proofs.Common.{◌≡◌, Some, ap, ◌∙◌, slice_get, arith, rules}
use Rattle.std.proofs.lemmas.Result.{on_ok_weaker}
use Rattle.json_tree.specs.Fields.{get_field, with_field}
use Rattle.json_tree.specs.View.{data_of}
use Rattle.ref_paths.proofs.Places.{field_answers, element_answers, placed_field, placed_element, element_within}
use Rattle.ref_paths.proofs.placing.+place.Goals as goal

pub place_in_field-place_in-requires : goal.place_in_field-place_in-requires
place_in_field-place_in-requires t c =
    let has : get_field c.args.name.now c.args.members.now ≡ Some (data_of c.in-Some.child) = search rules in
    (omega (arith, c.decreases), placed_field c.args.name.now c.args.rest.now (data_of c.args.value) c.args.members.now (data_of c.in-Some.child) has c.requires)

pub place_in_field-returns-clause-ok : goal.place_in_field-returns-clause-ok
place_in_field-returns-clause-ok t c =
    let ms = c.args.members.now in
    let has : get_field c.args.name.now ms ≡ Some (data_of c.in-Some.child) = search rules in
    on_ok_weaker c.put_field.result (λ put. field_answers c.args.name.now c.args.rest.now (data_of c.args.value) ms _ (data_of c.in-Some.child) (data_of c.place_in.new.root) has (put ∙ ap (λ n. with_field n (data_of c.place_in.new.root) ms) c.in_ok-name.ensures) c.in_ok-place_in.ensures.ok) c.put_field.ensures.ok

pub place_in_item-place_in-requires : goal.place_in_item-place_in-requires
place_in_item-place_in-requires t c =
    let has : slice_get c.args.items.now c.args.index ≡ Some (data_of c.in-Some.child) = search rules in
    (omega (arith, c.decreases), placed_element c.args.index c.args.rest.now (data_of c.args.value) c.args.items.now (data_of c.in-Some.child) has c.requires)

pub place_in_item-put_item-requires : goal.place_in_item-put_item-requires
place_in_item-put_item-requires t c =
    let has : slice_get c.args.items.now c.args.index ≡ Some (data_of c.in-Some.child) = search rules in
    element_within c.args.index c.args.items.now (data_of c.in-Some.child) has

pub place_in_item-returns-clause-ok : goal.place_in_item-returns-clause-ok
place_in_item-returns-clause-ok t c =
    let has : slice_get c.args.items.now c.args.index ≡ Some (data_of c.in-Some.child) = search rules in
    on_ok_weaker c.put_item.result (λ put. element_answers c.args.index c.args.rest.now (data_of c.args.value) c.args.items.now _ (data_of c.in-Some.child) (data_of c.place_in.new.root) has put c.in_ok-place_in.ensures.ok) c.put_item.ensures.ok
