use Rattle.std.proofs.Common.{arith, ◌≤◌, ◌∙◌, [], refl, sym}
use Rattle.branch_tree.specs.Bounds.{bound_in}
use Rattle.branch_tree.specs.Tree.{frame_at}
use Rattle.branch_tree.proofs.Counted.{cut_long, cut_short, turn_early}
use Rattle.branch_tree.proofs.Window.{branch_begins, le_is}
use Rattle.branch_tree.proofs.branch.Branch.lets_begin.Goals as goal

pub returns-then-index-leading : goal.returns-then-index-leading
returns-then-index-leading c =
    let kids = c.self.inside.kids.items in
    let bound = bound_in (frame_at c.args.self.now []) in
    le_is c.args.branch.1 c.self.inside.counts.leading c.if-index-leading.true
    ∙ sym (turn_early bound c.args.branch.1)
    ∙ branch_begins c.self.inside.frame kids c.args.self.now c.args.branch bound c.args.branch.1 c.self.view_is c.requires refl
    (sym (cut_long kids c.args.branch.1 (omega (arith, c.if-index-leading.true, c.self.invariant.counts.leading))))

pub returns-else-index-leading : goal.returns-else-index-leading
returns-else-index-leading c =
    let kids = c.self.inside.kids.items in
    let late : c.self.inside.counts.leading ≤ c.args.branch.1 = omega (arith, c.if-index-leading.false) in
    c.is_in_turn.ensures
    ∙ branch_begins c.self.inside.frame kids c.args.self.now c.args.branch c.bound.result c.self.inside.counts.leading c.self.view_is c.requires c.bound.ensures
    (c.self.invariant.counts.leading ∙ sym (cut_short kids c.args.branch.1 (omega (arith, late, c.self.invariant.counts.leading))))
