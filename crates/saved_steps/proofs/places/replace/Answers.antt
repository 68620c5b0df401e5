use Rattle.std.proofs.Common.{rules, ◌≡◌, sym, ap, ◌∙◌, false, IsSomeAnd, Some}
use Rattle.std.specs.BTreeMap.{get_by_text}
use Rattle.std.specs.Option.{option_copied_mut}
use Rattle.branch_tree.specs.FlatMap.{is_parked}
use Rattle.saved_steps.proofs.Trees.{apart_from, found, framed, in_place}
use Rattle.saved_steps.proofs.places.replace.Goals as goal

pub replace_at-requires-clause-open : goal.replace_at-requires-clause-open
replace_at-requires-clause-open c =
    let m = c.args.trees.now in
    let a = c.args.thread.now in
    let v = c.unwrap-place.result.now in
    let there : get_by_text m c.exec.result.now ≡ Some v = sym c.get_mut.ensures.value ∙ ap option_copied_mut c.unwrap-place.ensures in
    in_place m m a c.path.result.now v (λ o. IsSomeAnd o (λ f. is_parked f.phase ≡ false)) c.path.ensures.path (found m m c.exec.result.now a.exec v c.exec.ensures.exec there) c.requires.open

pub returns-clause-frames : goal.returns-clause-frames
returns-clause-frames c =
    let m = c.args.trees.now in
    let a = c.args.thread.now in
    let v = c.unwrap-place.result.now in
    let w = c.replace_at.new.place in
    let there : get_by_text m c.exec.result.now ≡ Some v = sym c.get_mut.ensures.value ∙ ap option_copied_mut c.unwrap-place.ensures in
    framed m (c.get_mut.follows.lender w) a c.exec.result.now c.path.result.now v w c.exec.ensures.exec c.path.ensures.path (found m m c.exec.result.now a.exec v c.exec.ensures.exec there)
    ((c.get_mut.follows.holds w).3 (search rules)) c.args.frame c.replace_at.ensures.frames

pub returns-clause-others : goal.returns-clause-others
returns-clause-others c =
    let m = c.args.trees.now in
    let a = c.args.thread.now in
    let w = c.replace_at.new.place in
    apart_from m (c.get_mut.follows.lender w) a.exec c.exec.result.now w c.exec.ensures.exec ((c.get_mut.follows.holds w).3 (search rules))
