use Rattle.std.proofs.Common.{rules, ◌≡◌, sym, ap, ◌∙◌, true, IsSomeAnd, Some}
use Rattle.std.specs.BTreeMap.{get_by_text}
use Rattle.std.specs.Option.{option_copied_mut}
use Rattle.branch_tree.specs.FlatMap.{is_parked, alone}
use Rattle.saved_steps.proofs.Trees.{apart_from, found, grafted_in, in_place, tree_there, was_in}
use Rattle.saved_steps.proofs.places.take.Goals as goal

pub take_at-requires-clause-there : goal.take_at-requires-clause-there
take_at-requires-clause-there c =
    let m = c.args.trees.now in
    let a = c.args.thread.now in
    let v = c.unwrap-place.result.now in
    let there : get_by_text m c.exec.result.now ≡ Some v = sym c.get_mut.ensures.value ∙ ap option_copied_mut c.unwrap-place.ensures in
    in_place m m a c.path.result.now v (λ o. IsSomeAnd o (λ f. is_parked f.phase ≡ true)) c.path.ensures.path (found m m c.exec.result.now a.exec v c.exec.ensures.exec there) c.requires.there

pub returns-clause-was : goal.returns-clause-was
returns-clause-was c =
    let m = c.args.trees.now in
    let a = c.args.thread.now in
    let v = c.unwrap-place.result.now in
    let there : get_by_text m c.exec.result.now ≡ Some v = sym c.get_mut.ensures.value ∙ ap option_copied_mut c.unwrap-place.ensures in
    λ q. was_in m m a c.path.result.now v c.path.ensures.path (found m m c.exec.result.now a.exec v c.exec.ensures.exec there) q ∙ c.take_at.ensures.was q

pub returns-clause-frames : goal.returns-clause-frames
returns-clause-frames c =
    let m = c.args.trees.now in
    let a = c.args.thread.now in
    let v = c.unwrap-place.result.now in
    let w = c.take_at.new.place in
    let there : get_by_text m c.exec.result.now ≡ Some v = sym c.get_mut.ensures.value ∙ ap option_copied_mut c.unwrap-place.ensures in
    grafted_in m (c.get_mut.follows.lender w) a c.exec.result.now c.path.result.now v w c.exec.ensures.exec c.path.ensures.path (found m m c.exec.result.now a.exec v c.exec.ensures.exec there)
    ((c.get_mut.follows.holds w).3 (search rules)) (alone c.args.frame) c.take_at.ensures.frames

pub returns-clause-tree : goal.returns-clause-tree
returns-clause-tree c =
    let m = c.args.trees.now in
    let a = c.args.thread.now in
    let v = c.unwrap-place.result.now in
    let there : get_by_text m c.exec.result.now ≡ Some v = sym c.get_mut.ensures.value ∙ ap option_copied_mut c.unwrap-place.ensures in
    tree_there m m a.exec v (found m m c.exec.result.now a.exec v c.exec.ensures.exec there) c.take_at.ensures.tree

pub returns-clause-others : goal.returns-clause-others
returns-clause-others c =
    let m = c.args.trees.now in
    let a = c.args.thread.now in
    let w = c.take_at.new.place in
    apart_from m (c.get_mut.follows.lender w) a.exec c.exec.result.now w c.exec.ensures.exec ((c.get_mut.follows.holds w).3 (search rules))
