use Rattle.std.proofs.Common.{◌∙◌, sym, subst}
use Rattle.rollback_book.specs.Book.{BookView, book_view}
use Rattle.book_events.specs.Commits.{IsSource}
use Rattle.rollback_book.proofs.Ticketed.{alike, no_source, source_by, unlike}
use Rattle.rollback_book.proofs.book.Book.is_source.Goals as goal

pub returns-then-ne-clause-other : goal.returns-then-ne-clause-other
returns-then-ne-clause-other c = λ _ source. unlike c.args.frame.now c.frame.result.now c.ne.result c.ne.ensures c.if-ne.true (source.0 ∙ sym c.frame.ensures)

pub returns-in-Some-clause-same : goal.returns-in-Some-clause-same
returns-in-Some-clause-same c = λ h.
    let b = book_view c.self.inside.begin c.self.inside.machines c.self.inside.history c.self.inside.entries c.self.inside.settled c.self.inside.held in
    let frame = alike c.args.frame.now c.frame.result.now c.ne.result c.ne.ensures c.if-ne.false ∙ c.frame.ensures in
    subst (λ (b : BookView). IsSource b.log c.args.prepared.now c.args.frame.now) c.self.view_is
    (source_by b c.self.invariant c.args.prepared.now c.args.frame.now c.in-Some.machine.now c.in-Some.ensures c.machine.result.now c.eq.result c.eq.ensures c.machine.ensures frame h)

pub returns-in-Some-clause-other : goal.returns-in-Some-clause-other
returns-in-Some-clause-other c = λ h source.
    let b = book_view c.self.inside.begin c.self.inside.machines c.self.inside.history c.self.inside.entries c.self.inside.settled c.self.inside.held in
    no_source b c.self.invariant c.args.prepared.now c.args.frame.now c.in-Some.machine.now c.in-Some.ensures c.machine.result.now c.eq.result c.eq.ensures c.machine.ensures h
    (subst (λ (b : BookView). IsSource b.log c.args.prepared.now c.args.frame.now) (sym c.self.view_is) source)
