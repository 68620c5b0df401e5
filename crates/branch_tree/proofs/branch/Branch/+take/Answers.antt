use Rattle.std.proofs.Common.{arith, ap, ◌≡◌, true, ◌∙◌, subst, List}
use Rattle.branch_tree.specs.FlatMap.{is_parked, alone}
use Rattle.branch_tree.specs.Leading.{AreCounted}
use Rattle.branch_tree.specs.Tree.{Rows}
use Rattle.branch_tree.proofs.Nodes.{flat_tree}
use Rattle.branch_tree.proofs.Descent.{first, rest, goes_by, goes_on, holds_there, first_then_rest, shorter, at_end}
use Rattle.branch_tree.proofs.Changes.{grafted_below, set_node}
use Rattle.branch_tree.proofs.branch.Branch.+take.Goals as goal

pub index_mut-kid-requires : goal.index_mut-kid-requires
index_mut-kid-requires t c =
    let s = goes_by c.self.inside.frame c.self.inside.kids.items c.args.self.now c.args.path.now c.self.view_is c.in-len1-up.len_at_least (λ f. is_parked f.phase ≡ true) c.requires.there in
    omega (arith, s.1, c.self.inside.kids.ok.0)

pub take-before-requires : goal.take-before-requires
take-before-requires t c = (omega (arith, shorter c.args.path.now c.in-len1-up.len_at_least, c.decreases), (holds_there c.self.inside.frame c.self.inside.kids.items c.args.self.now c.args.path.now c.self.view_is c.in-len1-up.len_at_least (λ f. is_parked f.phase ≡ true) c.index_mut-kid.result.now c.index_mut-kid.ensures.value c.requires.there, c.requires.next))

pub counts_after-self-inside-requires : goal.counts_after-self-inside-requires
counts_after-self-inside-requires t c =
    let s = goes_by c.self.inside.frame c.self.inside.kids.items c.args.self.now c.args.path.now c.self.view_is c.in-len1-up.len_at_least (λ f. is_parked f.phase ≡ true) c.requires.there in (
      c.self.inside.kids.items,
      c.index_mut-kid.result.now,
      c.take-before.new.self,
      s.1,
      c.index_mut-kid.ensures.value,
      c.has_failed-failed.ensures,
      c.deref.ensures.value,
      c.self.invariant.counts,
    )

pub invariant_of-self-in-len1-up : goal.invariant_of-self-in-len1-up
invariant_of-self-in-len1-up t c = record {
  node = set_node c.self.inside.frame c.self.inside.kids.items (first c.args.path.now).1 c.take-before.new.self c.self.invariant.node c.take-before.ensures.tree;
  counts = subst (λ (ks : List Rows). AreCounted ks c.counts_after-self-inside.result.leading c.counts_after-self-inside.result.failed) c.deref.ensures.value c.counts_after-self-inside.ensures;
}

pub returns-in-len1-up-clause-before : goal.returns-in-len1-up-clause-before
returns-in-len1-up-clause-before t c =
    let s = goes_by c.self.inside.frame c.self.inside.kids.items c.args.self.now c.args.path.now c.self.view_is c.in-len1-up.len_at_least (λ f. is_parked f.phase ≡ true) c.requires.there in
    λ q. goes_on c.self.inside.frame c.self.inside.kids.items c.args.self.now c.args.path.now c.self.view_is c.in-len1-up.len_at_least c.index_mut-kid.result.now s.0 s.1 c.index_mut-kid.ensures.value q ∙ c.take-before.ensures.before q

pub returns-in-len1-up-clause-frames : goal.returns-in-len1-up-clause-frames
returns-in-len1-up-clause-frames t c =
    let s = goes_by c.self.inside.frame c.self.inside.kids.items c.args.self.now c.args.path.now c.self.view_is c.in-len1-up.len_at_least (λ f. is_parked f.phase ≡ true) c.requires.there in
    grafted_below c.self.inside.frame c.self.inside.kids.items c.args.self.now c.index_mut-kid.result.now c.take-before.new.self c.args.path.now (first c.args.path.now) (rest c.args.path.now)
    (alone c.args.frame) c.self.view_is (first_then_rest c.args.path.now c.in-len1-up.len_at_least) s.0 s.1 c.index_mut-kid.ensures.value c.take-before.ensures.frames

pub returns-in-len1-up-clause-tree : goal.returns-in-len1-up-clause-tree
returns-in-len1-up-clause-tree t c =
    flat_tree c.self.inside.frame _ (set_node c.self.inside.frame c.self.inside.kids.items (first c.args.path.now).1 c.take-before.new.self c.self.invariant.node c.take-before.ensures.tree)

pub returns-in-empty-clause-before : goal.returns-in-empty-clause-before
returns-in-empty-clause-before t c =
    at_end c.self.inside.frame c.replace.result c.self.inside.kids.items c.replace-kids.result.items c.args.self.now c.args.path.now c.self.view_is c.in-empty.len_below
    c.replace.ensures.value (ap (λ v. v.items) c.replace-kids.ensures.value)
