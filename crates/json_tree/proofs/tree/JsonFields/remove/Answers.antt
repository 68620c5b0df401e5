use Rattle.std.proofs.Common.{rules, ◌≡◌, max, None, sym, ap, ◌∙◌, subst}
use Rattle.json_tree.specs.Data.{depth, fields_depth}
use Rattle.json_tree.specs.Fields.{get_field, without_field}
use Rattle.json_tree.specs.Told.{IsTold}
use Rattle.json_tree.specs.View.{data_of, fields_of, held}
use Rattle.json_tree.proofs.Deeper.{without_one}
use Rattle.json_tree.proofs.Views.{stays_without}
use Rattle.json_tree.proofs.tree.JsonFields.remove.Goals as goal

pub returns-then-is_none-clause-after : goal.returns-then-is_none-clause-after
returns-then-is_none-clause-after c =
    let none : get_field c.args.name.now c.args.self.now ≡ None = search rules in
    sym (stays_without c.args.name.now c.args.self.now none)

pub invariant_of-self : goal.invariant_of-self
invariant_of-self c =
    let old = c.args.self.now in
    let name = c.args.name.now in
    let d = data_of c.in-Ok.removed in
    let others = fields_depth (without_field name old) in
    let deep : fields_depth (fields_of (held c.self.inside.inner)) ≡ max (depth d) others = ap fields_depth c.self.view_is ∙ without_one name old d c.in-Ok.ensures.value in
    let told : IsTold c.without-self-inside.result others = c.without-self-inside.ensures others (depth d) (subst (IsTold c.self.inside.told) deep c.self.invariant.1) c.depth.ensures in
    (c.self-in-Ok.invariant.0, subst (IsTold c.without-self-inside.result) (sym (ap fields_depth (c.self-in-Ok.view_is ∙ c.in-Ok.ensures.after))) told)
