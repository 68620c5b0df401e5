use Rattle.std.proofs.Common.{rules, ◌≡◌, None, Some, ap, subst, ◌∙◌}
use Rattle.sqlite.specs.Held.{state}
use Rattle.book_log.specs.Log.{Log}
use Rattle.journaled_book.specs.Journaled.{IsJournalOf, log_of}
use Rattle.journaled_book.proofs.Kept.{begun_kept, replayed}
use Rattle.journaled_book.proofs.book.JournaledBook.begin.Goals as goal

pub invariant_of-self-2 : goal.invariant_of-self-2
invariant_of-self-2 g c =
    let old = state g.S.Store c.self.inside.journal in
    let closed : c.self.inside.book ≡ None = search rules in
    begun_kept old (state g.S.Store c.begin.new.journal) c.args.line.now c.begin.result c.in_ok-book.book c.args.begin (log_of g.B.Events.log c.put.new.place) c.in_ok-book.was
    (subst (λ b. IsJournalOf old (log_of g.B.Events.log b)) closed c.self.invariant) c.requires.line
    (ap (log_of g.B.Events.log) c.put.ensures ∙ ap (λ (s : Log). Some s) c.in_ok-book.ensures.ok.0) c.begin.ensures.journal

pub returns-clause-journal : goal.returns-clause-journal
returns-clause-journal g c =
    rw (← c.self.view_is) (replayed (state g.S.Store c.self.inside.journal) (state g.S.Store c.begin.new.journal) c.args.line.now c.begin.result c.in_ok-book.book tt c.in_ok-book.was c.begin.ensures.journal)
