use Rattle.std.proofs.Common.{inr}
use Rattle.rollback_run.proofs.running.open_connected.Goals as goal

pub returns-in-Ok-open-clause-ok : goal.returns-in-Ok-open-clause-ok
returns-in-Ok-open-clause-ok g c =
    record { journal = c.in-Ok.journal; is_opened = c.in-Ok.ensures.ok; is_read = c.in-Ok-open.ensures.read; gives = c.in-Ok-open.ensures.opened }

pub returns-in-Err-open-clause-err : goal.returns-in-Err-open-clause-err
returns-in-Err-open-clause-err g c = rw c.into_connection.ensures (inr (
  c.in-Err-open.fault,
  c.of_open.ensures,
  record {
    journal = c.in-Ok.journal;
    is_opened = c.in-Ok.ensures.ok;
    is_read = c.in-Err-open.ensures.read;
    refuses = c.in-Err-open.ensures.refused;
  },
))
