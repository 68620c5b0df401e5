use Rattle.std.proofs.Common.{arith, sym, subst, ◌≡◌, false, ◌∙◌, List}
use Rattle.branch_tree.specs.FlatMap.{is_parked}
use Rattle.branch_tree.specs.Leading.{AreCounted}
use Rattle.branch_tree.specs.Tree.{Rows, IsNode, node_at}
use Rattle.asl_frames.specs.declared.frame.Frame.{Frame}
use Rattle.branch_tree.proofs.Nodes.{flat_tree}
use Rattle.branch_tree.proofs.Descent.{first, rest, goes_by, goes_to, holds_there, first_then_rest, shorter}
use Rattle.branch_tree.proofs.Changes.{grafted_below, set_node, grafted_here}
use Rattle.branch_tree.proofs.branch.Branch.+give.Goals as goal

pub index_mut-kid-requires : goal.index_mut-kid-requires
index_mut-kid-requires t c =
    let s = goes_by c.self.inside.frame c.self.inside.kids.items c.args.self.now c.args.path.now c.self.view_is c.in-len1-up.len_at_least (λ f. is_parked f.phase ≡ false) c.requires.open in
    omega (arith, s.1, c.self.inside.kids.ok.0)

pub give-before-requires : goal.give-before-requires
give-before-requires t c = (omega (arith, shorter c.args.path.now c.in-len1-up.len_at_least, c.decreases), (holds_there c.self.inside.frame c.self.inside.kids.items c.args.self.now c.args.path.now c.self.view_is c.in-len1-up.len_at_least (λ f. is_parked f.phase ≡ false) c.index_mut-kid.result.now c.index_mut-kid.ensures.value c.requires.open, c.requires.node))

pub counts_after-self-inside-requires : goal.counts_after-self-inside-requires
counts_after-self-inside-requires t c =
    let s = goes_by c.self.inside.frame c.self.inside.kids.items c.args.self.now c.args.path.now c.self.view_is c.in-len1-up.len_at_least (λ f. is_parked f.phase ≡ false) c.requires.open in (
      c.self.inside.kids.items,
      c.index_mut-kid.result.now,
      c.give-before.new.self,
      s.1,
      c.index_mut-kid.ensures.value,
      c.has_failed-failed.ensures,
      c.deref-in-len1-up.ensures.value,
      c.self.invariant.counts,
    )

pub invariant_of-self-in-len1-up : goal.invariant_of-self-in-len1-up
invariant_of-self-in-len1-up t c = record {
  node = set_node c.self.inside.frame c.self.inside.kids.items (first c.args.path.now).1 c.give-before.new.self c.self.invariant.node c.give-before.ensures.tree;
  counts = subst (λ (ks : List Rows). AreCounted ks c.counts_after-self-inside.result.leading c.counts_after-self-inside.result.failed) c.deref-in-len1-up.ensures.value c.counts_after-self-inside.ensures;
}

pub returns-in-len1-up-clause-before : goal.returns-in-len1-up-clause-before
returns-in-len1-up-clause-before t c =
    let s = goes_by c.self.inside.frame c.self.inside.kids.items c.args.self.now c.args.path.now c.self.view_is c.in-len1-up.len_at_least (λ f. is_parked f.phase ≡ false) c.requires.open in
    goes_to c.self.inside.frame c.self.inside.kids.items c.args.self.now c.args.path.now c.self.view_is c.in-len1-up.len_at_least c.index_mut-kid.result.now s.0 s.1 c.index_mut-kid.ensures.value ∙ c.give-before.ensures.before

pub returns-in-len1-up-clause-frames : goal.returns-in-len1-up-clause-frames
returns-in-len1-up-clause-frames t c =
    let s = goes_by c.self.inside.frame c.self.inside.kids.items c.args.self.now c.args.path.now c.self.view_is c.in-len1-up.len_at_least (λ f. is_parked f.phase ≡ false) c.requires.open in
    grafted_below c.self.inside.frame c.self.inside.kids.items c.args.self.now c.index_mut-kid.result.now c.give-before.new.self c.args.path.now (first c.args.path.now) (rest c.args.path.now)
    (node_at c.args.frame c.args.kids.items) c.self.view_is (first_then_rest c.args.path.now c.in-len1-up.len_at_least) s.0 s.1 c.index_mut-kid.ensures.value c.give-before.ensures.frames

pub returns-in-len1-up-clause-tree : goal.returns-in-len1-up-clause-tree
returns-in-len1-up-clause-tree t c =
    flat_tree c.self.inside.frame _ (set_node c.self.inside.frame c.self.inside.kids.items (first c.args.path.now).1 c.give-before.new.self c.self.invariant.node c.give-before.ensures.tree)

pub returns-in-empty-clause-frames : goal.returns-in-empty-clause-frames
returns-in-empty-clause-frames t c =
    grafted_here c.args.frame c.replace.new.dest c.args.kids.items c.args.self.now c.args.path.now c.in-empty.len_below c.replace.ensures.after

pub returns-in-empty-clause-tree : goal.returns-in-empty-clause-tree
returns-in-empty-clause-tree t c =
    flat_tree c.replace.new.dest c.args.kids.items (subst (λ (f : Frame). IsNode f c.args.kids.items) (sym c.replace.ensures.after) c.requires.node)
