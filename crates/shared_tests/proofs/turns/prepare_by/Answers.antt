use Rattle.std.proofs.Common.{sym, subst}
use Rattle.std.specs.Prelude.{IsSome}
use Rattle.asl_machine.specs.Definition.{Definition}
use Rattle.step_history.specs.Frame.{Frame}
use Rattle.step_history.specs.Turn.{located}
use Rattle.shared_tests.proofs.turns.prepare_by.Goals as goal

pub prepare-requires-clause-stands : goal.prepare-requires-clause-stands
prepare-requires-clause-stands c =
    subst (λ (m : Definition). IsSome (located m c.frame-frame.result.now)) (sym c.machine.ensures)
    (subst (λ (f : Frame). IsSome (located c.args.ticket.now.machine f)) (sym c.frame-frame.ensures) c.args.ticket.now.stands)
