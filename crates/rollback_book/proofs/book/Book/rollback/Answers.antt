use Rattle.std.proofs.Common.{◌≡◌, ◌∙◌, refl, ap, sym, subst, List, length}
use Rattle.step_names.specs.declared.step.StepName.{StepName}
use Rattle.book_log.specs.Legal.{IsLegal}
use Rattle.book_log.specs.Log.{Log, appended, consequences_of}
use Rattle.book_log.specs.declared.entry.Entry.TheVariants.{Rollback}
use Rattle.book_log.proofs.Orders.{rollback_is_exact}
use Rattle.rollback_book.specs.Book.{BookView, book_view}
use Rattle.book_events.specs.Rest.{IsRest}
use Rattle.rollback_book.specs.Making.{ArePlacesOf}
use Rattle.book_events.specs.Planned.{WasPlanned}
use Rattle.rollback_book.proofs.Commuted.{rolled_rest}
use Rattle.rollback_book.proofs.Planning.{places_of, still_planned}
use Rattle.rollback_book.proofs.book.Book.rollback.Goals as goal

pub take_back_all-requires : goal.take_back_all-requires
take_back_all-requires c =
    let b = book_view c.self.inside.begin c.self.inside.machines c.self.inside.history c.self.inside.entries c.self.inside.settled c.self.inside.held in
    let was = subst (λ (b : BookView). WasPlanned b.log c.args.room) (sym c.self.view_is) c.requires in
    let p = still_planned b.log c.args.room was (sym (c.len.ensures ∙ c.self.inside.entries.ok.0) ∙ c.if-len-room.false) in
    subst (λ (b : BookView). ArePlacesOf b.log c.args.room.step c.args.room.undone c.args.room.places) c.self.view_is (places_of b.log c.args.room p)

pub returns : goal.returns
returns c =
    let log = c.args.self.now.log in
    let step = c.args.room.step in
    let fresh = subst (λ (b : BookView). length b.log.entries ≡ c.args.room.entries) c.self.view_is (sym (c.len.ensures ∙ c.self.inside.entries.ok.0) ∙ c.if-len-room.false) in
    let legal = subst (λ (b : BookView). IsLegal b.log) c.self.view_is c.self.invariant.legal in
    let p = still_planned log c.args.room c.requires fresh in
    let kept = (places_of log c.args.room p).names in
    let rest = rolled_rest log legal step c.args.room.undone kept in
    record {
      ok = (refl, p.names, c.take_back_all.ensures ∙ ap (λ (ns : List StepName). appended log (Rollback step ns)) p.kept);
      exact = rollback_is_exact log step c.args.room.names legal p.names;
      rest = subst (λ (after : Log). IsRest log (consequences_of log step) after) (sym c.take_back_all.ensures) rest;
      fresh = sym fresh;
      stale = tt;
      err = tt;
    }
