use Rattle.std.proofs.Common.{arith, ◌<◌, ◌==◌, Bool, ◌&&◌, ◌||◌, not, ap, Option, Some, None, length, ℕ, ◌+◌, sym, subst, ◌∙◌}
use Rattle.std.specs.BTreeSet.{contains}
use Rattle.step_names.specs.Order.{thread_cmp}
use Rattle.step_names.specs.Thread.{Thread, child_of}
use Rattle.branch_tree.specs.First.{IsFirstFree}
use Rattle.branch_tree.specs.Tree.{frame_at}
use Rattle.branch_tree.proofs.FirstOf.{IsFirstOf, begun, first_from, none_in_kid, none_of, first_of_step, first_of_ready, fork_itself, fork_found, fork_none, next_in_turn, parked_at}
use Rattle.branch_tree.proofs.branch.Branch.+first.Goals as goal

pub first_as_branch-returns-then-has_ended : goal.first_as_branch-returns-then-has_ended
first_as_branch-returns-then-has_ended t c none = c.if-has_ended.ensures c.args.begins (child_of c.args.parent.now c.args.fork c.args.index) (contains thread_cmp c.args.passed.now)

pub first_at_fork-is_in_turn-in_turn-requires : goal.first_at_fork-is_in_turn-in_turn-requires
first_at_fork-is_in_turn-in_turn-requires t c = c.loop-index.invariant.past

pub first_ready-returns-in-Parked : goal.first_ready-returns-in-Parked
first_ready-returns-in-Parked t c = c.first_at_fork.ensures c.args.begins

pub first_at_fork-returns-then-moves-contains : goal.first_at_fork-returns-then-moves-contains
first_at_fork-returns-then-moves-contains t c begins none =
    fork_itself begins c.self.inside.frame c.self.inside.kids.items c.args.self.now c.self.view_is c.self.invariant.node c.args.name.now (contains thread_cmp c.args.passed.now) c.args.branches c.args.bound
    (parked_at c.self.inside.frame c.self.inside.kids.items c.args.self.now c.args.branches c.args.bound c.self.view_is c.requires)
    c.self.inside.counts.leading c.len.result c.self.inside.counts.failed c.self.invariant.counts.leading (c.len.ensures ∙ c.self.inside.kids.ok.0) c.self.invariant.counts.failed
    c.in_ok-copy.field-0 (ap (λ (out : Bool). (not (c.self.inside.counts.failed == 0) || (c.self.inside.counts.leading == c.len.result)) && not out) (sym c.contains.ensures) ∙ c.if-moves-contains.true) c.in_ok-copy.ensures

pub first_at_fork-loop-index-init : goal.first_at_fork-loop-index-init
first_at_fork-loop-index-init t c = record {
  past = omega (arith, c.greater-index.ensures.least);
  first = λ begins none.
      first_from begins c.self.inside.frame c.self.inside.kids.items c.args.name.now (contains thread_cmp c.args.passed.now) c.args.self.now c.self.view_is c.self.invariant.node
      c.args.from.now c.beginning-first.result.0 c.beginning-first.result.1.now c.beginning-first.ensures none c.greater-index.result (begun _ _ _ _ c.self.invariant.counts.leading c.greater-index.ensures.is);
}

pub first_at_fork-returns-then-is_some : goal.first_at_fork-returns-then-is_some
first_at_fork-returns-then-is_some t c begins none =
    let within : c.loop-index.index < length c.self.inside.kids.items = omega (arith, c.loop-index-test.true, c.len-index-end.ensures, c.self.inside.kids.ok.0) in
    fork_found begins c.self.inside.frame c.self.inside.kids.items c.args.self.now c.self.view_is c.self.invariant.node c.args.name.now (contains thread_cmp c.args.passed.now) c.args.branches c.args.bound
    (parked_at c.self.inside.frame c.self.inside.kids.items c.args.self.now c.args.branches c.args.bound c.self.view_is c.requires)
    c.self.inside.counts.leading c.len.result c.self.inside.counts.failed c.self.invariant.counts.leading (c.len.ensures ∙ c.self.inside.kids.ok.0) c.self.invariant.counts.failed
    (c.loop-index.index + 1) c.in_ok-found.found (ap (λ (out : Bool). (not (c.self.inside.counts.failed == 0) || (c.self.inside.counts.leading == c.len.result)) && not out) (sym c.contains.ensures) ∙ c.if-moves-contains.false) (sym c.is_some.ensures ∙ c.if-is_some.true)
    (first_of_step begins c.self.inside.frame c.self.inside.kids.items c.args.name.now (contains thread_cmp c.args.passed.now) c.loop-index.index c.index-kid.result.now c.is_in_turn-in_turn.result c.in_ok-found.found
    within c.index-kid.ensures
    (next_in_turn c.self.inside.frame c.self.inside.kids.items c.args.branches c.args.bound c.loop-index.index c.self.inside.counts.leading c.is_in_turn-in_turn.result
    (parked_at c.self.inside.frame c.self.inside.kids.items c.args.self.now c.args.branches c.args.bound c.self.view_is c.requires)
    within c.self.invariant.counts.leading c.loop-index.invariant.past c.is_in_turn-in_turn.ensures)
    (c.loop-index.invariant.first begins none) (c.in_ok-found.ensures (none_in_kid begins c.self.inside.frame c.self.inside.kids.items c.args.name.now (contains thread_cmp c.args.passed.now) c.args.self.now c.self.view_is
    c.args.from.now c.beginning-first.result.0 c.beginning-first.result.1.now c.beginning-first.ensures none c.loop-index.index c.index-kid.result.now within c.index-kid.ensures c.is_in_turn-in_turn.result
    (next_in_turn c.self.inside.frame c.self.inside.kids.items c.args.branches c.args.bound c.loop-index.index c.self.inside.counts.leading c.is_in_turn-in_turn.result
    (parked_at c.self.inside.frame c.self.inside.kids.items c.args.self.now c.args.branches c.args.bound c.self.view_is c.requires)
    within c.self.invariant.counts.leading c.loop-index.invariant.past c.is_in_turn-in_turn.ensures)
    c.path_in-left.result.now c.path_in-left.ensures)))

pub first_at_fork-loop-index-preserved : goal.first_at_fork-loop-index-preserved
first_at_fork-loop-index-preserved t c =
    let within : c.loop-index.index < length c.self.inside.kids.items = omega (arith, c.loop-index-test.true, c.len-index-end.ensures, c.self.inside.kids.ok.0) in
    record {
      past = omega (arith, c.loop-index.invariant.past);
      first = λ begins none.
          subst (λ (o : Option Thread). IsFirstOf begins c.self.inside.frame c.self.inside.kids.items c.args.name.now (contains thread_cmp c.args.passed.now) (c.loop-index.index + 1) o)
          (none_of c.in_ok-found.found (sym c.is_some.ensures ∙ c.if-is_some.false))
          (first_of_step begins c.self.inside.frame c.self.inside.kids.items c.args.name.now (contains thread_cmp c.args.passed.now) c.loop-index.index c.index-kid.result.now c.is_in_turn-in_turn.result c.in_ok-found.found
          within c.index-kid.ensures
          (next_in_turn c.self.inside.frame c.self.inside.kids.items c.args.branches c.args.bound c.loop-index.index c.self.inside.counts.leading c.is_in_turn-in_turn.result
          (parked_at c.self.inside.frame c.self.inside.kids.items c.args.self.now c.args.branches c.args.bound c.self.view_is c.requires)
          within c.self.invariant.counts.leading c.loop-index.invariant.past c.is_in_turn-in_turn.ensures)
          (c.loop-index.invariant.first begins none) (c.in_ok-found.ensures (none_in_kid begins c.self.inside.frame c.self.inside.kids.items c.args.name.now (contains thread_cmp c.args.passed.now) c.args.self.now c.self.view_is
          c.args.from.now c.beginning-first.result.0 c.beginning-first.result.1.now c.beginning-first.ensures none c.loop-index.index c.index-kid.result.now within c.index-kid.ensures c.is_in_turn-in_turn.result
          (next_in_turn c.self.inside.frame c.self.inside.kids.items c.args.branches c.args.bound c.loop-index.index c.self.inside.counts.leading c.is_in_turn-in_turn.result
          (parked_at c.self.inside.frame c.self.inside.kids.items c.args.self.now c.args.branches c.args.bound c.self.view_is c.requires)
          within c.self.invariant.counts.leading c.loop-index.invariant.past c.is_in_turn-in_turn.ensures)
          c.path_in-left.result.now c.path_in-left.ensures)));
    }

pub first_at_fork-returns : goal.first_at_fork-returns
first_at_fork-returns t c begins none =
    fork_none begins c.self.inside.frame c.self.inside.kids.items c.args.self.now c.self.view_is c.self.invariant.node c.args.name.now (contains thread_cmp c.args.passed.now) c.args.branches c.args.bound
    (parked_at c.self.inside.frame c.self.inside.kids.items c.args.self.now c.args.branches c.args.bound c.self.view_is c.requires)
    c.self.inside.counts.leading c.len.result c.self.inside.counts.failed c.self.invariant.counts.leading (c.len.ensures ∙ c.self.inside.kids.ok.0) c.self.invariant.counts.failed
    c.loop-index.index (ap (λ (out : Bool). (not (c.self.inside.counts.failed == 0) || (c.self.inside.counts.leading == c.len.result)) && not out) (sym c.contains.ensures) ∙ c.if-moves-contains.false) (omega (arith, c.loop-index-test.false, c.len-index-end.ensures, c.self.inside.kids.ok.0)) (c.loop-index.invariant.first begins none)

pub first_ready-returns-in_ok-copy-in-Ready : goal.first_ready-returns-in_ok-copy-in-Ready
first_ready-returns-in_ok-copy-in-Ready t c none =
    let free = ap (λ (b : Bool). (c.self.inside.frame.count == 0 && not c.args.begins) || b) (sym c.contains.ensures) ∙ c.if-waits-contains.false in
    subst (λ (u : Thread). IsFirstFree c.args.begins (frame_at c.args.self.now) c.args.name.now (contains thread_cmp c.args.passed.now) (Some u)) (sym c.in_ok-copy-in-Ready.ensures)
    (first_of_ready c.args.begins c.self.inside.frame c.self.inside.kids.items c.args.self.now c.self.view_is c.self.invariant.node c.args.name.now (contains thread_cmp c.args.passed.now) c.in-Ready.is free)
