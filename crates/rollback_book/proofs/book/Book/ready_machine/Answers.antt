use Rattle.std.proofs.Common.{◌≡◌, ◌∙◌, inl, inr, refl, sym, subst, true, false}
use Rattle.book_log.specs.Answers.{is_full_for_define}
use Rattle.rollback_book.specs.Book.{BookView, book_view}
use Rattle.rollback_book.proofs.Added.{define_ready, on_ok}
use Rattle.rollback_book.proofs.Tied.{define_full_by}
use Rattle.rollback_book.proofs.book.Book.ready_machine.Goals as goal

pub returns-then-is_full_for_define-clause-refused : goal.returns-then-is_full_for_define-clause-refused
returns-then-is_full_for_define-clause-refused c =
    let b = book_view c.self.inside.begin c.self.inside.machines c.self.inside.history c.self.inside.entries c.self.inside.settled c.self.inside.held in
    inl (
      refl,
      subst (λ (b : BookView). is_full_for_define b.log ≡ true) c.self.view_is
          (define_full_by b c.self.invariant c.len.result c.len-2.result c.is_full_for_define.result (c.len.ensures ∙ c.self.inside.entries.ok.0) c.len-2.ensures c.is_full_for_define.ensures ∙ c.if-is_full_for_define.true),
    )

-- the book isn't full where it goes on
abbrev IsMaximal : BookView → Type 0
IsMaximal b = is_full_for_define b.log ≡ false

pub returns-in_default-clause-refused : goal.returns-in_default-clause-refused
returns-in_default-clause-refused c =
    let b = book_view c.self.inside.begin c.self.inside.machines c.self.inside.history c.self.inside.entries c.self.inside.settled c.self.inside.held in
    inr (
      refl,
      subst IsMaximal c.self.view_is
          (define_full_by b c.self.invariant c.len.result c.len-2.result c.is_full_for_define.result (c.len.ensures ∙ c.self.inside.entries.ok.0) c.len-2.ensures c.is_full_for_define.ensures ∙ c.if-is_full_for_define.false),
    )

pub returns-then-is_err-clause-refused : goal.returns-then-is_err-clause-refused
returns-then-is_err-clause-refused c =
    let b = book_view c.self.inside.begin c.self.inside.machines c.self.inside.history c.self.inside.entries c.self.inside.settled c.self.inside.held in
    inr (
      refl,
      subst IsMaximal c.self.view_is
          (define_full_by b c.self.invariant c.len.result c.len-2.result c.is_full_for_define.result (c.len.ensures ∙ c.self.inside.entries.ok.0) c.len-2.ensures c.is_full_for_define.ensures ∙ c.if-is_full_for_define.false),
    )

pub returns-clause-ready : goal.returns-clause-ready
returns-clause-ready c =
    let b = book_view c.self.inside.begin c.self.inside.machines c.self.inside.history c.self.inside.entries c.self.inside.settled c.self.inside.held in
    let free = subst (λ (b : BookView). is_full_for_define b.log ≡ false) c.self.view_is
    (define_full_by b c.self.invariant c.len.result c.len-2.result c.is_full_for_define.result (c.len.ensures ∙ c.self.inside.entries.ok.0) c.len-2.ensures c.is_full_for_define.ensures ∙ c.if-is_full_for_define.false) in
    let fine = sym c.is_err.ensures.value ∙ c.if-is_err.false in
    define_ready c.args.self.now c.make_place.new.self c.args.name.now c.args.machine c.in-Ok.made c.in-Ok.ensures c.make_place.ensures.log c.requires.free free c.requires.whole
    (on_ok c.make_place.result _ fine c.make_place.ensures.place) (on_ok c.make_place.result _ fine c.make_place.ensures.room)
