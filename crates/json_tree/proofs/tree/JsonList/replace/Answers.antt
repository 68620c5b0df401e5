use Rattle.std.proofs.Common.{◌≡◌, max, sym, ap, ◌∙◌, subst}
use Rattle.json_tree.specs.Data.{depth, list_depth}
use Rattle.json_tree.specs.Told.{IsTold}
use Rattle.json_tree.specs.View.{data_of, list_of, held}
use Rattle.json_tree.proofs.Deeper.{beside, beside_one, with_item}
use Rattle.json_tree.proofs.tree.JsonList.replace.Goals as goal

pub invariant_of-self : goal.invariant_of-self
invariant_of-self c =
    let old = c.args.self.now in
    let index = c.args.index in
    let d = data_of c.args.value in
    let was = data_of c.in-Ok.replaced in
    let others = beside index old in
    let before : list_depth (list_of (held c.self.inside.inner)) ≡ max (depth was) others = ap list_depth c.self.view_is ∙ beside_one index old was c.in-Ok.ensures.replaced in
    let after : list_depth (list_of (held c.self-in-Ok.inside.inner)) ≡ max (depth d) others = ap list_depth (c.self-in-Ok.view_is ∙ c.in-Ok.ensures.ok) ∙ with_item index old was d c.in-Ok.ensures.replaced in
    let told : IsTold c.replaced-self-inside.result (max (depth d) others) = c.replaced-self-inside.ensures others (depth was) (depth d) (subst (IsTold c.self.inside.told) before c.self.invariant) c.depth.ensures c.depth-levels.ensures in
    subst (IsTold c.replaced-self-inside.result) (sym after) told
