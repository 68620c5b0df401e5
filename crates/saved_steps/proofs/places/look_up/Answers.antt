use Rattle.std.proofs.Common.{◌≡◌, ℕ, List, ap, ◌∙◌, Option, Some}
use Rattle.branch_tree.specs.Paths.{Path}
use Rattle.branch_tree.specs.Ready.{readiness_at}
use Rattle.branch_tree.specs.Tree.{Rows, frame_at}
use Rattle.saved_steps.specs.Held.{tree_in, rows_at}
use Rattle.saved_steps.proofs.places.look_up.Goals as goal

pub returns-clause-ready : goal.returns-clause-ready
returns-clause-ready c =
    let there : Some c.in_ok-tree.tree.now ≡ tree_in c.args.trees.now c.args.thread.now.exec = c.in_ok-tree.ensures ∙ ap (λ (e : List ℕ). tree_in c.args.trees.now e) c.exec.ensures.exec in
    c.ready.ensures
    ∙ ap (λ (p : Path). readiness_at (frame_at c.in_ok-tree.tree.now) p) c.path-2.ensures.path
    ∙ ap (λ (rows : Option Rows). readiness_at (rows_at rows) c.args.thread.now.path) there
