use Rattle.std.proofs.Common.{◌≡◌, Some, refl, sym, ap, ◌∙◌, arith}
use Rattle.json_tree.specs.Fields.{get_field}
use Rattle.json_tree.specs.View.{data_of, fields_of, held}
use Rattle.json_tree.specs.declared.tree.Field.{Field}
use Rattle.json_tree.proofs.Views.{within, field_at, at_named}
use Rattle.json_tree.proofs.tree.JsonFields.get.Goals as goal

pub index-requires : goal.index-requires
index-requires c =
    let same : c.as_slice.result.now ≡ c.deref-in-Ok.result.now.items = c.as_slice.ensures.value ∙ ap (λ v. v.items) (c.deref.ensures ∙ sym c.deref-in-Ok.ensures) in
    omega (arith, within c.args.name.now _ c.in-Ok.at (at_named _ _ _ _ c.in-Ok.at refl same c.in-Ok.ensures.found))

pub returns-in-Ok : goal.returns-in-Ok
returns-in-Ok c =
    let items = c.deref-in-Ok.result.now.items in
    let name = c.args.name.now in
    let same : c.as_slice.result.now ≡ items = c.as_slice.ensures.value ∙ ap (λ v. v.items) (c.deref.ensures ∙ sym c.deref-in-Ok.ensures) in
    let view : fields_of items ≡ c.args.self.now = ap (λ v. fields_of v.items) c.deref-in-Ok.ensures ∙ ap (λ n. fields_of (held n)) (sym c.in-Some.is) ∙ c.self.view_is in
    sym (field_at name items c.in-Ok.at c.index.result.now (at_named _ name _ items c.in-Ok.at refl same c.in-Ok.ensures.found) ∙ ap (λ (f : Field). Some (data_of f.value)) (sym c.index.ensures)) ∙ ap (get_field name) view

pub returns-in-Err : goal.returns-in-Err
returns-in-Err c =
    let view : fields_of c.as_slice.result.now ≡ c.args.self.now = ap fields_of (c.as_slice.ensures.value ∙ ap (λ v. v.items) c.deref.ensures) ∙ ap (λ n. fields_of (held n)) (sym c.in-Some.is) ∙ c.self.view_is in
    sym c.in-Err.ensures.none ∙ ap (get_field c.args.name.now) view
