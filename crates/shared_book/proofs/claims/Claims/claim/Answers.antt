use Rattle.std.proofs.Common.{◌≡◌, ◌∙◌, ap, ap₂, false, true, subst, sym, List}
use Rattle.step_names.specs.Thread.{Thread}
use Rattle.shared_book.specs.Away.{Away, is_thread_among, with_thread_name, without_thread}
use Rattle.shared_book.proofs.Passing.{taken_out}
use Rattle.shared_book.proofs.claims.Claims.claim.Goals as goal

pub invariant_of-self-in-Err : goal.invariant_of-self-in-Err
invariant_of-self-in-Err c = λ s h.
    let t = c.args.thread.now in
    let was = c.self.inside.outside.keys in
    let free = subst (λ (a : Away). is_thread_among a.outside t ≡ false) (sym c.self.view_is) c.requires in
    let back = c.remove.ensures.keys ∙ ap (λ (l : List Thread). without_thread l t) (c.in_ok-insert.ensures.keys ∙ ap (with_thread_name was) c.in_ok-outside.ensures) ∙ taken_out was t free in
    subst (λ (l : List Thread). is_thread_among l s ≡ true) (sym back) (c.self.invariant s (subst (λ (l : List Thread). is_thread_among l s ≡ true) c.in-Err.ensures.err h))

pub returns-in-Err-clause-err : goal.returns-in-Err-clause-err
returns-in-Err-clause-err c =
    let t = c.args.thread.now in
    let was = c.self.inside.outside.keys in
    let free = subst (λ (a : Away). is_thread_among a.outside t ≡ false) (sym c.self.view_is) c.requires in
    let back = c.remove.ensures.keys ∙ ap (λ (l : List Thread). without_thread l t) (c.in_ok-insert.ensures.keys ∙ ap (with_thread_name was) c.in_ok-outside.ensures) ∙ taken_out was t free in
    ap₂ (λ (x y : List Thread). let a : Away = record { claimed = x; outside = y } in a) c.in-Err.ensures.err back ∙ c.self.view_is
