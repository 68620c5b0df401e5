use Rattle.std.proofs.Common.{◌≡◌, Ok, Err, Some, get_or, sym, ap, ◌∙◌, rules, subst}
use Rattle.std.proofs.lemmas.Fn.{always_returns_same}
use Rattle.std.specs.Arc.{arc_value}
use Rattle.json_tree.specs.Fields.{text_cmp}
use Rattle.attr_values.specs.Item.{get_attribute, IsItemInNameOrder}
use Rattle.attr_values.specs.View.{datum_of, entries_of}
use Rattle.attr_values.proofs.Entries.{searched}
use Rattle.attr_values.proofs.value.ValueMap.get.Goals as goal

pub returns-in-Ok : goal.returns-in-Ok
returns-in-Ok c =
    let name = c.args.name.now in
    let items = c.deref.result.now in
    let is : items ≡ (arc_value c.self.inside.inner).items = c.deref.ensures.value ∙ ap (λ v. v.items) c.deref-attributes.ensures in
    let sorted : IsItemInNameOrder (entries_of items) = subst (λ xs. IsItemInNameOrder (entries_of xs)) (sym is) c.self.invariant in
    let place = searched name items (Ok c.in-Ok.at) sorted c.in-Ok.ensures.bound (c.in-Ok.ensures.position (λ a. text_cmp a.name name) (always_returns_same _ _ _ (λ a r g called. search rules))) in
    let read : c.index.result.now ≡ get_or items c.in-Ok.at c.index.result.now = c.index.ensures ∙ ap (λ xs. get_or xs c.in-Ok.at c.index.result.now) (sym c.deref.ensures.value) in
    ap (λ a. Some (datum_of a.value)) read ∙ sym (place.0 c.index.result.now) ∙ ap (λ xs. get_attribute name (entries_of xs)) is ∙ ap (get_attribute name) c.self.view_is

pub returns-in-Err : goal.returns-in-Err
returns-in-Err c =
    let name = c.args.name.now in
    let items = c.deref.result.now in
    let is : items ≡ (arc_value c.self.inside.inner).items = c.deref.ensures.value ∙ ap (λ v. v.items) c.deref-attributes.ensures in
    let sorted : IsItemInNameOrder (entries_of items) = subst (λ xs. IsItemInNameOrder (entries_of xs)) (sym is) c.self.invariant in
    let place = searched name items (Err c.in-Err._gap) sorted c.in-Err.ensures.bound (c.in-Err.ensures.position (λ a. text_cmp a.name name) (always_returns_same _ _ _ (λ a r g called. search rules))) in
    sym place.1 ∙ ap (λ xs. get_attribute name (entries_of xs)) is ∙ ap (get_attribute name) c.self.view_is
