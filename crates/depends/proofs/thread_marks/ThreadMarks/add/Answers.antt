use Rattle.std.proofs.Common.{ap, ap₂, cond, nat_eq, Some, sym, ◌∙◌}
use Rattle.std.specs.HashMap.{get}
use Rattle.saved_steps.specs.World.{is_same_thread}
use Rattle.depends.specs.Hashes.{thread_hash}
use Rattle.depends.proofs.Hashed.{thread_first, thread_there, told_none, told_so}
use Rattle.depends.proofs.thread_marks.ThreadMarks.add.Goals as goal

pub returns-in-Some-true : goal.returns-in-Some-true
returns-in-Some-true c facts are t =
    let f = c.args.fact.now in
    let first = get nat_eq c.args.self.now.first in
    let m = told_so (first c.thread_hash-hash.result) (λ u. is_same_thread u f.name.thread) (sym c.is_first.ensures ∙ c.in-Some-true.is ∙ ap Some c.in-Some-true.field-0-test) in
    thread_there facts f t _ _ (are t) m.0 (first c.thread_hash-hash.result) m.1 m.2 (λ e. ap first (sym e ∙ sym c.thread_hash-hash.ensures))

pub returns : goal.returns
returns c facts are t =
    let f = c.args.fact.now in
    let first = get nat_eq c.args.self.now.first in
    thread_first facts f t _ _ (are t) _ (c.in_ok-insert.ensures.updates.0 (thread_hash t) ∙ ap₂ (λ k n. cond (nat_eq k (thread_hash t)) (Some n) (first (thread_hash t))) c.thread_hash-hash.ensures c.in_ok-copy.ensures)
    (λ e. ap first (sym e ∙ sym c.thread_hash-hash.ensures) ∙ told_none (first c.thread_hash-hash.result) (λ u. is_same_thread u f.name.thread) (sym c.is_first.ensures ∙ c.in-None.is))
