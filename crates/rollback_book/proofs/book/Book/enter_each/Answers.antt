use Rattle.std.proofs.Common.{drop, take, sym, subst}
use Rattle.std.proofs.lemmas.List.{take-append-drop}
use Rattle.book_log.specs.Legal.{IsAccepted}
use Rattle.book_log.specs.Log.{Log}
use Rattle.rollback_book.proofs.Outlined.{entry_in}
use Rattle.rollback_book.proofs.book.Book.enter_each.Goals as goal

pub enter_again-requires : goal.enter_again-requires
enter_again-requires c =
    let entries = c.args.entries.now in
    let end = c.args.end in
    let e = c.entry-item.result in
    subst (λ (s : Log). IsAccepted s e) (sym c.loop-entry.invariant)
    (entry_in c.args.self.now.log.begin entries (take end entries) (drop end entries) c.loop-entry.entry-index e c.requires.legal (take-append-drop end entries) c.loop-entry-test.true c.entry-item.is)
