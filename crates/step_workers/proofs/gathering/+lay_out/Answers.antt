use Rattle.std.proofs.Common.{Global}
use Rattle.step_workers.proofs.Seated.{well_last}
use Rattle.step_workers.proofs.Sums.{written_all}
use Rattle.step_workers.proofs.gathering.+lay_out.Goals as goal

pub absorb-requires-clause-taker : goal.absorb-requires-clause-taker
absorb-requires-clause-taker g t c = (well_last _ _ _ (rw c.in-Some.ensures.items at c.requires.served)).1.taker

pub returns-clause-written : goal.returns-clause-written
returns-clause-written g t c =
    rw c.push_reserved-3.ensures.items (rw c.absorb.ensures.taken (written_all {A = Global} c.lay_out-tray.result.taken.items c.in-Some.field-0.taken _ _ c.lay_out-tray.ensures.written (well_last _ _ _ (rw c.in-Some.ensures.items at c.requires.served)).1.written))
