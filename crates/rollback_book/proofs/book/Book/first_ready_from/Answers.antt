use Rattle.std.proofs.Common.{subst, sym}
use Rattle.std.specs.BTreeSet.{contains}
use Rattle.std.specs.String.{string_bytes}
use Rattle.saved_steps.specs.First.{IsFirstReady, NoneBeforeThread}
use Rattle.step_names.specs.Order.{thread_cmp}
use Rattle.book_log.specs.Log.{world_of}
use Rattle.rollback_book.specs.Book.{BookView}
use Rattle.book_events.specs.FirstMove.{IsFirstToMove}
use Rattle.rollback_book.proofs.Moving.{first_to_move, none_there_before, ready_there}
use Rattle.rollback_book.proofs.book.Book.first_ready_from.Goals as goal

pub first_ready-requires : goal.first_ready-requires
first_ready-requires c =
    let passed = contains thread_cmp c.args.outside.now in
    let from = string_bytes c.args.from.now in
    none_there_before _ c.self.invariant passed from c.args.path.now (subst (λ (b : BookView). NoneBeforeThread (world_of b.log).frames passed from c.args.path.now) (sym c.self.view_is) c.requires)

pub returns-in-Ok : goal.returns-in-Ok
returns-in-Ok c =
    let passed = contains thread_cmp c.args.outside.now in
    let first = subst (λ (b : BookView). IsFirstToMove b.log passed c.in-Ok.found) c.self.view_is
    (first_to_move _ c.self.invariant passed c.in-Ok.found c.in-Ok.ensures) in
    let ready = subst (λ (b : BookView). IsFirstReady (world_of b.log).frames passed c.in-Ok.found) c.self.view_is
    (ready_there _ c.self.invariant passed c.in-Ok.found c.in-Ok.ensures) in
    record { first = first; ready = ready; memory = tt }
