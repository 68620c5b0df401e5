use Rattle.std.proofs.Common.{arith, List, Ok, ◌∙◌, refl, ap, subst}
use Rattle.std.specs.BTreeMap.{is_at}
use Rattle.std.specs.List.{list_any}
use Rattle.step_names.specs.Order.{thread_cmp}
use Rattle.step_names.specs.Thread.{Thread}
use Rattle.journaled_book.specs.Cursors.{cursor_place}
use Rattle.operator_line.specs.Driving.{TakesOneOf, passed_in}
use Rattle.operator_line.specs.Sessions.{log_in}
use Rattle.operator_line.specs.declared.driving.Tried.{Tried}
use Rattle.operator_line.proofs.Sessions.{some_log}
use Rattle.operator_line.proofs.Taken.{all_at_first, all_taken, begins, few_lines, none_left, one_more, one_skipped, stopped}
use Rattle.operator_line.proofs.driving.take_steps.Goals as goal

pub take_step-requires-clause-few : goal.take_step-requires-clause-few
take_step-requires-clause-few g c =
    let s = some_log g.B.Events.log c.args.book.now.book c.requires.open in
    let it = c.loop-left.invariant.0 s.0 s.1 in
    few_lines c.args.count c.loop-left.left s.0 it.0 c.loop-left.passed c.loop-left.lines it.2 c.loop-left-test.true (omega (arith, c.ranges.count.fits))

pub loop-left-init : goal.loop-left-init
loop-left-init g c = (
  λ before held. (before, held, begins c.args.count before _ c.args.lines.now (λ u. ap (λ (ks : List Thread). list_any (is_at (thread_cmp u)) ks) c.new-passed.ensures.empty) c.requires.empty),
  c.requires.open,
  refl,
  c.requires.room,
  λ clean. clean,
  all_at_first (log_in g.B.Events.log c.args.book.now) (passed_in c.new-passed.result) (cursor_place c.new-cursor.result) c.new-cursor.ensures,
)

pub loop-left-preserved-in-Ok-Taken : goal.loop-left-preserved-in-Ok-Taken
loop-left-preserved-in-Ok-Taken g c = (
  λ before held.
      let it = c.loop-left.invariant.0 before held in
      let next = subst (λ (t : Tried). TakesOneOf (log_in g.B.Events.log c.loop-left.book) (log_in g.B.Events.log c.take_step.new.book) c.loop-left.passed c.take_step.new.passed c.loop-left.lines c.take_step.new.lines (Ok t)) c.in-Ok-Taken.field-0-is c.in-Ok-Taken.ensures.step it.0 it.1 in
      (next.0, next.1, one_more c.args.count c.loop-left.left before it.0 next.0 c.loop-left.passed c.take_step.new.passed c.loop-left.lines c.take_step.new.lines c.loop-left-test.true it.2 next.2),
  c.in-Ok-Taken.ensures.open,
  c.in-Ok-Taken.ensures.text ∙ c.loop-left.invariant.2,
  c.in-Ok-Taken.ensures.room,
  λ clean. c.loop-left.invariant.4 (c.in-Ok-Taken.ensures.clean clean),
  c.in-Ok-Taken.ensures.all,
)

pub loop-left-preserved : goal.loop-left-preserved
loop-left-preserved g c = (
  λ before held.
      let it = c.loop-left.invariant.0 before held in
      let next = subst (λ (t : Tried). TakesOneOf (log_in g.B.Events.log c.loop-left.book) (log_in g.B.Events.log c.take_step.new.book) c.loop-left.passed c.take_step.new.passed c.loop-left.lines c.take_step.new.lines (Ok t)) c.in-Ok-PassedBy.field-0-is c.in-Ok-PassedBy.ensures.step it.0 it.1 in
      (next.0, next.1, one_skipped c.args.count c.loop-left.left before it.0 next.0 c.loop-left.passed c.take_step.new.passed c.loop-left.lines c.take_step.new.lines c.loop-left-test.true it.2 next.2),
  c.in-Ok-PassedBy.ensures.open,
  c.in-Ok-PassedBy.ensures.text ∙ c.loop-left.invariant.2,
  c.in-Ok-PassedBy.ensures.room,
  λ clean. c.loop-left.invariant.4 (c.in-Ok-PassedBy.ensures.clean clean),
  c.in-Ok-PassedBy.ensures.all,
)

pub returns-in-Ok-NoMove-clause-taken : goal.returns-in-Ok-NoMove-clause-taken
returns-in-Ok-NoMove-clause-taken g c =
    λ before held.
    let it = c.loop-left.invariant.0 before held in
    let next = subst (λ (t : Tried). TakesOneOf (log_in g.B.Events.log c.loop-left.book) (log_in g.B.Events.log c.take_step.new.book) c.loop-left.passed c.take_step.new.passed c.loop-left.lines c.take_step.new.lines (Ok t)) c.in-Ok-NoMove.field-0-is c.in-Ok-NoMove.ensures.step it.0 it.1 in
    (next.0, next.1, none_left c.args.count c.loop-left.left before it.0 next.0 c.loop-left.passed c.take_step.new.passed c.loop-left.lines c.take_step.new.lines c.loop-left-test.true it.2 next.2)

pub returns-in-Err-clause-taken : goal.returns-in-Err-clause-taken
returns-in-Err-clause-taken g c =
    λ before held.
    let it = c.loop-left.invariant.0 before held in
    let next = c.in-Err.ensures.step it.0 it.1 in
    (next.0, next.1, stopped c.args.count c.loop-left.left before it.0 next.0 c.loop-left.passed c.take_step.new.passed c.loop-left.lines c.take_step.new.lines c.in-Err.fault c.loop-left-test.true it.2 next.2)

pub returns-clause-taken : goal.returns-clause-taken
returns-clause-taken g c =
    λ before held.
    let it = c.loop-left.invariant.0 before held in
    (it.0, it.1, all_taken c.args.count c.loop-left.left before it.0 c.loop-left.passed c.loop-left.lines (omega (arith, c.loop-left-test.false)) it.2)

pub returns-in-Ok-NoMove-clause-clean : goal.returns-in-Ok-NoMove-clause-clean
returns-in-Ok-NoMove-clause-clean g c clean = c.loop-left.invariant.4 (c.in-Ok-NoMove.ensures.clean clean)

pub returns-in-Err-clause-clean : goal.returns-in-Err-clause-clean
returns-in-Err-clause-clean g c clean = c.loop-left.invariant.4 (c.in-Err.ensures.clean clean)

pub returns-clause-clean : goal.returns-clause-clean
returns-clause-clean g c = c.loop-left.invariant.4
