use Rattle.std.proofs.Common.{◌≡◌, refl, ◌∙◌, ap, sym, subst, Some, None}
use Rattle.saved_steps.specs.World.{World}
use Rattle.book_log.specs.Log.{world_of}
use Rattle.rollback_book.specs.Book.{BookView}
use Rattle.rollback_book.proofs.Tied.{world_is}
use Rattle.rollback_book.proofs.book.Book.show.Goals as goal

pub returns-in-Some : goal.returns-in-Some
returns-in-Some c =
    subst (λ (b : BookView). (world_of b.log).frames c.args.thread.now ≡ Some c.in-Some.frame.now) c.self.view_is
    (ap (λ (w : World). w.frames c.args.thread.now) (world_is _ c.self.invariant) ∙ sym c.in-Some.ensures)

pub returns-in-None : goal.returns-in-None
returns-in-None c = (
  refl,
  subst (λ (b : BookView). (world_of b.log).frames c.args.thread.now ≡ None) c.self.view_is
      (ap (λ (w : World). w.frames c.args.thread.now) (world_is _ c.self.invariant) ∙ sym c.in-None.ensures),
)
