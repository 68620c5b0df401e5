use Rattle.std.proofs.Common.{◌≡◌, true, refl, subst, ◌∙◌}
use Rattle.branch_tree.specs.Bounds.{place_of}
use Rattle.branch_tree.specs.Paths.{Path}
use Rattle.branch_tree.specs.Ready.{begins_under}
use Rattle.branch_tree.specs.Tree.{Rows, frame_at}
use Rattle.branch_tree.proofs.Window.{begins_there}
use Rattle.branch_tree.proofs.tree.Tree.lets_begin.Goals as goal

pub returns-in-Some-at : goal.returns-in-Some-at
returns-in-Some-at c =
    c.lets_begin.ensures
    ∙ begins_there (frame_at c.self.inside.root) (frame_at c.in-Some-at.over.now) c.in-Some.above.now c.in-Some.branch.now c.in-Some-at.ensures
    ∙ subst (λ (p : Path). begins_under true (frame_at c.self.inside.root) (place_of p) ≡ begins_under true (frame_at c.args.self.now) (place_of c.args.path.now)) c.in-Some.ensures.cases.0
    (subst (λ (v : Rows). begins_under true (frame_at c.self.inside.root) (place_of c.args.path.now) ≡ begins_under true (frame_at v) (place_of c.args.path.now)) c.self.view_is refl)
