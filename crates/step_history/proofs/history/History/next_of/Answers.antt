use Rattle.std.proofs.Common.{sym, ap, subst}
use Rattle.saved_steps.specs.FlatMap.{is_parked}
use Rattle.asl_tree.specs.Definition.{Definition}
use Rattle.saved_steps.specs.Held.{frames_of}
use Rattle.step_history.specs.Moves.{IsMachineOf}
use Rattle.step_history.proofs.Counts.{parked_moved}
use Rattle.step_history.proofs.Worked.{ok_map, is_over, work_move, close_move}
use Rattle.step_history.proofs.history.History.next_of.Goals as goal

pub prepare_at-requires-clause-count : goal.prepare_at-requires-clause-count
prepare_at-requires-clause-count c = c.requires.count

pub close_of-requires-clause-fork : goal.close_of-requires-clause-fork
close_of-requires-clause-fork c =
    let k = c.requires.history in
    parked_moved k.0 k.1 k.2 c.args.self.now k.3 c.args.thread.now c.args.frame.now c.requires.frame (ap is_parked c.in-Parked.is)

pub close_of-requires-clause-count : goal.close_of-requires-clause-count
close_of-requires-clause-count c = c.requires.count

pub returns-in_ok-prepared-in-Ready : goal.returns-in_ok-prepared-in-Ready
returns-in_ok-prepared-in-Ready c = λ s base ts is machine.
    let h = c.args.self.now in
    let p = c.in_ok-prepared-in-Ready in
    work_move s h.world c.args.thread.now c.args.frame.now c.args.machine.now (is_over s base ts h is) c.requires.frame machine p.prepared c.nexts_are_moves.ensures.work c.in-Ready.is (c.requires.begins c.in-Ready.is) p.ensures.frame p.ensures.machine

pub returns-in-Parked : goal.returns-in-Parked
returns-in-Parked c =
    let h = c.args.self.now in
    let f = c.args.frame.now in
    let m = c.machine-in-Parked.result.now in
    ok_map _ _ c.close_of.result (λ o closes. λ s base ts is machine.
    close_move s h.world c.args.thread.now f m (is_over s base ts h is) c.requires.frame
    (subst (λ (d : Definition). IsMachineOf s (frames_of h.world c.args.thread.now) d) (sym c.machine-in-Parked.ensures) machine) c.in-Parked.branches c.in-Parked.field-1 c.in-Parked.is o c.nexts_are_moves.ensures.join c.nexts_are_moves.ensures.terminate closes)
    c.close_of.ensures
