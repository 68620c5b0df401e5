use Rattle.std.proofs.Common.{inl, inr, refl}
use Rattle.std.proofs.KnownBytes.{Keeps-refl}
use Rattle.operator_line.specs.Sessions.{session_log}
use Rattle.rollback_run.proofs.running.run.Goals as goal

pub returns-in-Ok : goal.returns-in-Ok
returns-in-Ok g c = inl (record {
  book = session_log g.B.Events.log c.in-Ok.session;
  loaded = c.in-Ok.session.journal;
  opens = c.in-Ok.ensures.ok;
  is_run = c.run_owned-outcome.ensures;
})

pub returns-in-Err : goal.returns-in-Err
returns-in-Err g c =
    inr (record { fault = c.in-Err.fault; is_fault = refl; opens_none = c.in-Err.ensures.err; unread = refl; unwritten = Keeps-refl _ })
