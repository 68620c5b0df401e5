use Rattle.std.proofs.Common.{inl, inr, refl}
use Rattle.std.proofs.KnownBytes.{Keeps-refl}
use Rattle.journaled_book.specs.Journaled.{log_of}
use Rattle.graph_run.proofs.running.run.Goals as goal

pub returns-in-Ok : goal.returns-in-Ok
returns-in-Ok g c = inl (log_of (λ b. b.log) c.in-Ok.book.book, c.in-Ok.ensures.ok, c.answer_from.ensures)

pub returns-in-Err : goal.returns-in-Err
returns-in-Err g c = inr (c.in-Err.cause, refl, c.in-Err.ensures.err, Keeps-refl _)
