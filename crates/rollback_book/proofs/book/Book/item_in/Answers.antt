use Rattle.std.proofs.Common.{◌≡◌, ◌∙◌, ap, sym, subst, Some}
use Rattle.std.specs.Prelude.{option_copied}
use Rattle.item_store.specs.Store.{Store, stored_items, slot_key}
use Rattle.saved_steps.specs.World.{World}
use Rattle.step_history.specs.History.{history_items}
use Rattle.book_log.specs.Log.{world_of}
use Rattle.rollback_book.specs.Book.{BookView}
use Rattle.rollback_book.proofs.Tied.{world_is}
use Rattle.rollback_book.proofs.book.Book.item_in.Goals as goal

pub returns-then-has_slot : goal.returns-then-has_slot
returns-then-has_slot c key =
    subst (λ (b : BookView). slot_key (history_items b.history) c.args.slot ≡ Some key → option_copied c.look.result ≡ (world_of b.log).items key) c.self.view_is
    (λ at.
    c.look.ensures key (ap (λ (s : Store). slot_key s c.args.slot) c.items-items.ensures ∙ at)
    ∙ ap (λ (s : Store). stored_items s key) c.items-items.ensures
    ∙ ap (λ (w : World). w.items key) (sym (world_is _ c.self.invariant)))
