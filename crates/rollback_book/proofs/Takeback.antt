-- An undoing and a rollback for which everything is made.
use Rattle.std.proofs.Common.{◌≡◌, ℕ, ap, sym, subst, Ok}
use Rattle.step_names.specs.declared.step.StepName.{StepName}
use Rattle.book_log.specs.Log.{Log}
use Rattle.book_log.specs.declared.entry.Entry.TheVariants.{Undo, Rollback}
use Rattle.rollback_book.specs.Book.{BookView, IsMaximalPlace}
use Rattle.book_events.specs.Answered.{IsRollbackAnswered}
use Rattle.rollback_book.specs.Making.{CanEnter, IsMadeRollback}
use Rattle.rollback_book.specs.declared.making.Made.{Made}
use Rattle.rollback_book.specs.declared.making.MadeChange.TheVariants as made

pub undo_ready : (b : BookView) (name copy : StepName) (at : ℕ) → copy ≡ name → IsMaximalPlace b name at → CanEnter b (record { entry = Undo copy; change = made.Undo at })
undo_ready b name copy at same free =
    let whole : CanEnter b (record { entry = Undo name; change = made.Undo at }) = record { is_accepted = free.answer; fits = free; room = tt } in
    subst (λ (n : StepName). CanEnter b (record { entry = Undo n; change = made.Undo at })) (sym same) whole

pub rollback_answered : (log : Log) (name : StepName) (m : Made) → IsMadeRollback log name m → IsRollbackAnswered log name (Ok m.entry)
rollback_answered log name m h = (h.0, h.3.names, ap (λ (x : Made). x.entry) h.2)

pub rollback_ready : (b : BookView) (name : StepName) (m : Made) → IsMadeRollback b.log name m → CanEnter b m
rollback_ready b name m h =
    let whole : CanEnter b (record { entry = Rollback name h.0; change = made.Rollback h.1 }) = record { is_accepted = h.3.names; fits = h.3; room = tt } in
    subst (λ (x : Made). CanEnter b x) (sym h.2) whole
