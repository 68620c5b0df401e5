use Rattle.std.proofs.Common.{inr}
use Rattle.graph_run.proofs.running.open_connected.Goals as goal

pub returns-in-Ok-open-clause-ok : goal.returns-in-Ok-open-clause-ok
returns-in-Ok-open-clause-ok g c =
    record { journal = c.in-Ok.journal; loaded = c.in-Ok-open.book.journal; is_opened = c.in-Ok.ensures.ok; gives = c.in-Ok-open.ensures.opened; is_read = c.in-Ok-open.ensures.read }

pub returns-in-Ok-clause-err : goal.returns-in-Ok-clause-err
returns-in-Ok-clause-err g c = inr (
  c.in-Err-open.fault,
  c.of_open.ensures,
  record {
    journal = c.in-Ok.journal;
    left = c.in-Err-open.field-0-1;
    is_opened = c.in-Ok.ensures.ok;
    refuses = c.in-Err-open.ensures.refused;
    is_read = c.in-Err-open.ensures.read;
  },
)
