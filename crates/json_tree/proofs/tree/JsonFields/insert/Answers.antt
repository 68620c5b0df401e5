use Rattle.std.proofs.Common.{rules, ◌≡◌, max, None, Some, sym, ap, ◌∙◌, subst}
use Rattle.json_tree.specs.Data.{depth, fields_depth}
use Rattle.json_tree.specs.Fields.{get_field, without_field, IsInNameOrder}
use Rattle.json_tree.specs.Told.{IsTold}
use Rattle.json_tree.specs.View.{data_of, fields_of, held}
use Rattle.json_tree.proofs.Deeper.{with_new, with_old, without_one}
use Rattle.json_tree.proofs.tree.JsonFields.insert.Goals as goal

pub invariant_of-self : goal.invariant_of-self
invariant_of-self c =
    let old = c.args.self.now in
    let d = data_of c.args.value in
    let none : get_field c.args.name old ≡ None = search rules in
    let told : IsTold c.and-self-inside.result (max (depth d) (fields_depth (fields_of (held c.self.inside.inner)))) = c.and-self-inside.ensures (fields_depth (fields_of (held c.self.inside.inner))) (depth d) c.self.invariant.1 c.depth-levels.ensures in
    let deep : fields_depth (fields_of (held c.self-in-Ok-None.inside.inner)) ≡ max (depth d) (fields_depth (fields_of (held c.self.inside.inner))) =
    ap fields_depth (c.self-in-Ok-None.view_is ∙ c.in-Ok-None.ensures.ok) ∙ with_new c.args.name d old none ∙ ap (λ ms. max (depth d) (fields_depth ms)) (sym c.self.view_is) in
    (c.self-in-Ok-None.invariant.0, subst (IsTold c.and-self-inside.result) (sym deep) told)

pub invariant_of-self-in-Ok-Some : goal.invariant_of-self-in-Ok-Some
invariant_of-self-in-Ok-Some c =
    let old = c.args.self.now in
    let name = c.args.name in
    let d = data_of c.args.value in
    let was = data_of c.in-Ok-Some.replaced in
    let others = fields_depth (without_field name old) in
    let some : get_field name old ≡ Some was = search rules in
    let sorted : IsInNameOrder old = subst IsInNameOrder c.self.view_is c.self.invariant.0 in
    let before : fields_depth (fields_of (held c.self.inside.inner)) ≡ max (depth was) others = ap fields_depth c.self.view_is ∙ without_one name old was some in
    let after : fields_depth (fields_of (held c.self-in-Ok-Some.inside.inner)) ≡ max (depth d) others = ap fields_depth (c.self-in-Ok-Some.view_is ∙ c.in-Ok-Some.ensures.ok) ∙ with_old name d old was sorted some in
    let told : IsTold c.replaced-self-inside.result (max (depth d) others) = c.replaced-self-inside.ensures others (depth was) (depth d) (subst (IsTold c.self.inside.told) before c.self.invariant.1) c.depth.ensures c.depth-levels.ensures in
    (c.self-in-Ok-Some.invariant.0, subst (IsTold c.replaced-self-inside.result) (sym after) told)
