use Rattle.std.proofs.Common.{Ok, Err, refl, ap}
use Rattle.rollback_run.proofs.running.serve_book.Goals as goal

pub returns-in-Err-clause-served : goal.returns-in-Err-clause-served
returns-in-Err-clause-served g c = record { end = Err c.in-Err.fault; answers = c.in-Err.ensures.answers c.requires.here; told = ap Err c.of_serve.ensures }

pub returns-in-Err-clause-handed : goal.returns-in-Err-clause-handed
returns-in-Err-clause-handed g c = c.in-Err.ensures.handed

pub returns-in-Ok-clause-served : goal.returns-in-Ok-clause-served
returns-in-Ok-clause-served g c = record { end = Ok c.in-Ok.field-0; answers = c.in-Ok.ensures.answers c.requires.here; told = refl }

pub returns-in-Ok-clause-handed : goal.returns-in-Ok-clause-handed
returns-in-Ok-clause-handed g c = c.in-Ok.ensures.handed
