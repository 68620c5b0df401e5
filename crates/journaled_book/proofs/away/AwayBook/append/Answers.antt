use Rattle.std.proofs.Common.{Some, sym, subst}
use Rattle.sqlite.specs.Held.{state}
use Rattle.book_journal.specs.Entries.{texts}
use Rattle.journaled_book.specs.Journaled.{GoesOnBy, Journaled, log_of}
use Rattle.journaled_book.proofs.Kept.{all_added, all_refused}
use Rattle.journaled_book.proofs.away.AwayBook.append.Goals as goal

pub invariant_of-result : goal.invariant_of-result
invariant_of-result g c =
    let lines = texts c.args.lines.now in
    let old = state g.S.Store c.self.inside.journal in
    let new = state g.S.Store c.append.new.self in
    let goes = subst (λ (v : Journaled _ _). GoesOnBy lines (log_of g.B.Events.log v.book) (g.B.Events.log c.args.book)) (sym c.self.view_is) c.requires.lines in
    all_added {T = Unit {0}} {E = Unit {0}} old new lines tt (Some (g.B.Events.log c.self.inside.was.value)) (g.B.Events.log c.args.book) c.self.invariant goes (record {
      ok = λ clean. record { was_open = c.in-Ok.ensures.was_open clean; is_open = c.in-Ok.ensures.open clean; added = c.in-Ok.ensures.ok clean; lines = λ before held. c.in-Ok.ensures.lines clean before held };
      err = λ clean. tt;
      crash = c.in-Ok.ensures.crash;
      survives = c.in-Ok.ensures.survives;
      at_rest = c.in-Ok.ensures.at_rest;
    })

pub invariant_of-result-in-Err : goal.invariant_of-result-in-Err
invariant_of-result-in-Err g c =
    let old = state g.S.Store c.self.inside.journal in
    let new = state g.S.Store c.append.new.self in
    all_refused {T = Unit {0}} {E = Unit {0}} old new (texts c.args.lines.now) tt (Some (g.B.Events.log c.self.inside.was.value)) c.self.invariant (record {
      ok = λ clean. tt;
      err = λ clean. c.in-Err.ensures.err clean;
      crash = c.in-Err.ensures.crash;
      survives = c.in-Err.ensures.survives;
      at_rest = c.in-Err.ensures.at_rest;
    })

pub returns-in-Ok-clause-journal : goal.returns-in-Ok-clause-journal
returns-in-Ok-clause-journal g c = rw (← c.self.view_is) (record {
  ok = λ clean. record { was_open = c.in-Ok.ensures.was_open clean; is_open = c.in-Ok.ensures.open clean; added = c.in-Ok.ensures.ok clean; lines = λ before held. c.in-Ok.ensures.lines clean before held };
  err = λ clean. tt;
  crash = c.in-Ok.ensures.crash;
  survives = c.in-Ok.ensures.survives;
  at_rest = c.in-Ok.ensures.at_rest;
})

pub returns-in-Err-clause-journal : goal.returns-in-Err-clause-journal
returns-in-Err-clause-journal g c = rw (← c.self.view_is) (record {
  ok = λ clean. tt;
  err = λ clean. c.in-Err.ensures.err clean;
  crash = c.in-Err.ensures.crash;
  survives = c.in-Err.ensures.survives;
  at_rest = c.in-Err.ensures.at_rest;
})
