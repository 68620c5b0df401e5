use Rattle.std.proofs.Common.{rules, ◌≡◌, Some, is_ok, refl, sym, ap, ◌∙◌, subst, arith}
use Rattle.json_tree.specs.Fields.{get_field, with_field, IsInNameOrder}
use Rattle.json_tree.specs.Places.{IsAt}
use Rattle.json_tree.specs.View.{data_of, fields_of, held}
use Rattle.json_tree.specs.declared.tree.Field.{Field}
use Rattle.json_tree.proofs.Nodes.{same_items}
use Rattle.json_tree.proofs.Views.{within, field_at, set_there, order_with, same_place}
use Rattle.json_tree.proofs.tree.JsonFields.get_mut.Goals as goal

pub index_mut-requires : goal.index_mut-requires
index_mut-requires c =
    let is : fields_of c.in-Ok-make_mut.fields.now.items ≡ c.args.self.now = ap fields_of (same_items _ _ c.in-Ok-make_mut.ensures.value) ∙ ap (λ n. fields_of (held n)) c.in-Some-as_mut.ensures.value ∙ c.self-2.view_is ∙ c.own_node.ensures in
    let looked : fields_of c.as_slice.result.now ≡ c.args.self.now = ap fields_of (c.as_slice.ensures.value ∙ ap (λ v. v.items) c.deref.ensures) ∙ ap (λ n. fields_of (held n)) (sym c.in-Some.is) ∙ c.self.view_is in
    let at : IsAt c.args.name.now c.in-Ok-make_mut.fields.now.items c.in-Ok.at = same_place c.args.name.now c.as_slice.result.now c.in-Ok-make_mut.fields.now.items c.in-Ok.at (looked ∙ sym is) c.in-Ok.ensures.found in
    omega (arith, within c.args.name.now c.in-Ok-make_mut.fields.now.items c.in-Ok.at at)

pub invariant_of-self-lent : goal.invariant_of-self-lent
invariant_of-self-lent c =
    let is : fields_of c.in-Ok-make_mut.fields.now.items ≡ c.args.self.now = ap fields_of (same_items _ _ c.in-Ok-make_mut.ensures.value) ∙ ap (λ n. fields_of (held n)) c.in-Some-as_mut.ensures.value ∙ c.self-2.view_is ∙ c.own_node.ensures in
    let looked : fields_of c.as_slice.result.now ≡ c.args.self.now = ap fields_of (c.as_slice.ensures.value ∙ ap (λ v. v.items) c.deref.ensures) ∙ ap (λ n. fields_of (held n)) (sym c.in-Some.is) ∙ c.self.view_is in
    let at : IsAt c.args.name.now c.in-Ok-make_mut.fields.now.items c.in-Ok.at = same_place c.args.name.now c.as_slice.result.now c.in-Ok-make_mut.fields.now.items c.in-Ok.at (looked ∙ sym is) c.in-Ok.ensures.found in
    let items = c.in-Ok-make_mut.fields.now.items in
    let name = c.args.name.now in
    let sorted = subst IsInNameOrder (c.self.view_is ∙ sym is) c.self.invariant.0 in
    λ w. (
      subst IsInNameOrder
          (sym (ap (λ v. fields_of v.items) (c.make_mut.follows.holds _ (ap is_ok c.in-Ok-make_mut.is)) ∙ set_there name items c.in-Ok.at c.index_mut.result.now w c.index_mut.ensures.value at)) (order_with name (data_of w) (fields_of items) sorted),
      search rules,
    )

pub returns : goal.returns
returns c =
    let is : fields_of c.in-Ok-make_mut.fields.now.items ≡ c.args.self.now = ap fields_of (same_items _ _ c.in-Ok-make_mut.ensures.value) ∙ ap (λ n. fields_of (held n)) c.in-Some-as_mut.ensures.value ∙ c.self-2.view_is ∙ c.own_node.ensures in
    let looked : fields_of c.as_slice.result.now ≡ c.args.self.now = ap fields_of (c.as_slice.ensures.value ∙ ap (λ v. v.items) c.deref.ensures) ∙ ap (λ n. fields_of (held n)) (sym c.in-Some.is) ∙ c.self.view_is in
    let at : IsAt c.args.name.now c.in-Ok-make_mut.fields.now.items c.in-Ok.at = same_place c.args.name.now c.as_slice.result.now c.in-Ok-make_mut.fields.now.items c.in-Ok.at (looked ∙ sym is) c.in-Ok.ensures.found in
    let items = c.in-Ok-make_mut.fields.now.items in
    let name = c.args.name.now in (
      (
        refl,
        λ w ok. ap (λ v. fields_of v.items) (c.make_mut.follows.holds _ (ap is_ok c.in-Ok-make_mut.is)) ∙ set_there name items c.in-Ok.at c.index_mut.result.now w c.index_mut.ensures.value at ∙ ap (with_field name (data_of w)) is,
        tt,
      ),
      (
        ap (get_field name) (sym is) ∙ field_at name items c.in-Ok.at c.index_mut.result.now at ∙ ap (λ (f : Field). Some (data_of f.value)) (sym c.index_mut.ensures.value),
        tt,
      ),
    )
