use Rattle.std.proofs.Common.{◌≡◌, subst}
use Rattle.std.specs.BTreeMap.{is_at}
use Rattle.step_names.specs.Order.{thread_cmp}
use Rattle.shared_book.specs.Away.{Away, is_thread_among}
use Rattle.shared_book.proofs.Sought.{other_thread, others_stay}
use Rattle.shared_book.proofs.claims.Claims.end.Goals as goal

pub returns-then-remove-clause-others : goal.returns-then-remove-clause-others
returns-then-remove-clause-others c = λ t apart.
    let u = c.args.thread.now in
    let now = c.remove-then-remove.new.self.keys in
    subst (λ (a : Away). is_thread_among now t ≡ is_thread_among a.outside t) c.self.view_is
    (others_stay (is_thread_among c.self.inside.outside.keys t) (is_thread_among now t) (is_at (thread_cmp u) t) (c.remove-then-remove.ensures.updates.0 t) (other_thread u t apart))
