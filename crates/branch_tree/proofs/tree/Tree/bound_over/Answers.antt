use Rattle.std.proofs.Common.{◌≡◌, refl, subst, ◌∙◌}
use Rattle.branch_tree.specs.Bounds.{place_of}
use Rattle.branch_tree.specs.Paths.{Path}
use Rattle.branch_tree.specs.Ready.{bound_over}
use Rattle.branch_tree.specs.Tree.{Rows, frame_at}
use Rattle.branch_tree.proofs.Window.{bound_there, bound_alone}
use Rattle.branch_tree.proofs.tree.Tree.bound_over.Goals as goal

pub returns-in-Some-at : goal.returns-in-Some-at
returns-in-Some-at c =
    let whole = c.in-Some.ensures.cases.0 in
    c.bound.ensures
    ∙ bound_there (frame_at c.self.inside.root) (frame_at c.in-Some-at.over.now) c.in-Some.above.now c.in-Some.field-0-0.now c.in-Some-at.ensures
    ∙ subst (λ (p : Path). bound_over (frame_at c.self.inside.root) (place_of p) ≡ bound_over (frame_at c.args.self.now) (place_of c.args.path.now)) whole
    (subst (λ (v : Rows). bound_over (frame_at c.self.inside.root) (place_of c.args.path.now) ≡ bound_over (frame_at v) (place_of c.args.path.now)) c.self.view_is refl)

pub returns-in-None : goal.returns-in-None
returns-in-None c =
    let whole = c.in-Some.ensures.cases.0 in
    bound_alone (frame_at c.self.inside.root) c.in-Some.above.now c.in-Some.field-0-0.now c.in-None.ensures
    ∙ subst (λ (p : Path). bound_over (frame_at c.self.inside.root) (place_of p) ≡ bound_over (frame_at c.args.self.now) (place_of c.args.path.now)) whole
    (subst (λ (v : Rows). bound_over (frame_at c.self.inside.root) (place_of c.args.path.now) ≡ bound_over (frame_at v) (place_of c.args.path.now)) c.self.view_is refl)
