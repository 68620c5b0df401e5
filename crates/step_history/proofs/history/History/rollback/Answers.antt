use Rattle.std.proofs.Common.{drop}
use Rattle.std.proofs.lemmas.List.{drop_all}
use Rattle.step_history.proofs.Rolled.{begins, free_next, goes_on, ends}
use Rattle.step_history.proofs.history.History.rollback.Goals as goal

pub loop-place-init : goal.loop-place-init
loop-place-init c = begins c.args.self.now c.args.plan.now c.places-place-items.result.now c.places-place-items.ensures

pub undo-requires-clause-there : goal.undo-requires-clause-there
undo-requires-clause-there c =
    (free_next c.args.self.now c.loop-place.self c.args.plan.now c.places-place-items.result.now c.loop-place.place-index c.requires.history c.requires.plan c.loop-place-test.true c.loop-place.invariant).within

pub undo-requires-clause-history : goal.undo-requires-clause-history
undo-requires-clause-history c =
    (free_next c.args.self.now c.loop-place.self c.args.plan.now c.places-place-items.result.now c.loop-place.place-index c.requires.history c.requires.plan c.loop-place-test.true c.loop-place.invariant).some

pub undo-requires-clause-free : goal.undo-requires-clause-free
undo-requires-clause-free c =
    (free_next c.args.self.now c.loop-place.self c.args.plan.now c.places-place-items.result.now c.loop-place.place-index c.requires.history c.requires.plan c.loop-place-test.true c.loop-place.invariant).none

pub loop-place-preserved : goal.loop-place-preserved
loop-place-preserved c =
    goes_on c.args.self.now c.loop-place.self c.undo.new.self c.args.plan.now c.places-place-items.result.now c.loop-place.place-index c.loop-place-test.true c.loop-place.invariant c.undo.ensures

pub returns : goal.returns
returns c =
    ends c.args.self.now c.loop-place.self c.args.plan.now (drop c.loop-place.place-index c.places-place-items.result.now)
    (drop_all c.loop-place.place-index c.places-place-items.result.now c.loop-place-test.false) c.loop-place.invariant
