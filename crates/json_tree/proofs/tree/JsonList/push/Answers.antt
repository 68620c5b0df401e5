use Rattle.std.proofs.Common.{◌≡◌, max, sym, ap, ◌∙◌, subst}
use Rattle.json_tree.specs.Data.{depth, list_depth}
use Rattle.json_tree.specs.Told.{IsTold}
use Rattle.json_tree.specs.View.{data_of, list_of, held}
use Rattle.json_tree.proofs.Deeper.{with_last}
use Rattle.json_tree.proofs.tree.JsonList.push.Goals as goal

pub invariant_of-self : goal.invariant_of-self
invariant_of-self c =
    let old = c.args.self.now in
    let d = data_of c.args.value in
    let told : IsTold c.and-told.result (max (depth d) (list_depth (list_of (held c.self.inside.inner)))) = c.and-told.ensures (list_depth (list_of (held c.self.inside.inner))) (depth d) c.self.invariant c.depth.ensures in
    let deep : list_depth (list_of (held c.self-2.inside.inner)) ≡ max (depth d) (list_depth (list_of (held c.self.inside.inner))) =
    ap list_depth (c.self-2.view_is ∙ c.in-Ok.ensures.ok) ∙ with_last old d ∙ ap (λ ds. max (depth d) (list_depth ds)) (sym c.self.view_is) in
    subst (IsTold c.and-told.result) (sym deep) told
