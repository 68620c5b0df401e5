use Rattle.std.proofs.Common.{◌≡◌, ◌∙◌, ◌+◌, refl, ap, inl, sym, subst, Result}
use Rattle.step_names.specs.declared.step.StepName.{StepName}
use Rattle.saved_steps.specs.Effects.{next_step}
use Rattle.saved_steps.specs.declared.next.Next.TheVariants.{Work}
use Rattle.book_log.specs.declared.moved.Moved.{Moved}
use Rattle.book_log.specs.declared.refusal.Refusal.{Refusal}
use Rattle.book_log.specs.declared.refusal.Refusal.TheVariants.{Full, Memory}
use Rattle.rollback_book.specs.Book.{BookView, book_view}
use Rattle.book_events.specs.Commits.{IsFresh}
use Rattle.book_events.specs.Planned.{IsMoveRefusal, OrMemory}
use Rattle.rollback_book.specs.Ready.{HasRoomUnlessHeld, IsNextOf}
use Rattle.std.specs.Prelude.{◌||◌, nat_le, nat_lt}
use Rattle.rollback_book.proofs.Kept.{full_said, room_said}
use Rattle.rollback_book.proofs.Tied.{full_by}
use Rattle.rollback_book.proofs.Moving.{next_lacks}
use Rattle.rollback_book.proofs.Ticketed.{commit_full, commit_next}
use Rattle.rollback_book.proofs.book.Book.ready_commit.Goals as goal
use Rattle.step_history.specs.History.{history_records}

pub returns-then-is_full_unheld-clause-answer : goal.returns-then-is_full_unheld-clause-answer
returns-then-is_full_unheld-clause-answer c =
    let b = book_view c.self.inside.begin c.self.inside.machines c.self.inside.history c.self.inside.entries c.self.inside.settled c.self.inside.held in
    let t = c.args.thread.now in
    let p = c.args.prepared in
    let fresh = subst (λ (b : BookView). IsFresh b.log t p) (sym c.self.view_is) c.requires in
    let full = full_said b.log (history_records b.history) b.held (nat_le 65536 c.len-2.result || nat_lt 999998 (c.len.result + c.len-2.result)) c.self.invariant.held (sym c.is_full_unheld.ensures ∙ c.if-is_full_unheld.true) in
    let all = full_by b c.self.invariant c.len.result c.len-2.result (nat_le 65536 c.len-2.result || nat_lt 999998 (c.len.result + c.len-2.result)) (c.len.ensures ∙ c.self.inside.entries.ok.0) c.len-2.ensures refl ∙ full.1 in
    subst (λ (b : BookView). IsMoveRefusal b.log t Full) c.self.view_is
    (inl (subst (λ (r : Result Moved Refusal). OrMemory r Full) (sym (commit_full b c.self.invariant t p fresh full.0 all)) refl))

pub returns-in_default-clause-answer : goal.returns-in_default-clause-answer
returns-in_default-clause-answer c =
    let b = book_view c.self.inside.begin c.self.inside.machines c.self.inside.history c.self.inside.entries c.self.inside.settled c.self.inside.held in
    let t = c.args.thread.now in
    let p = c.args.prepared in
    let fresh = subst (λ (b : BookView). IsFresh b.log t p) (sym c.self.view_is) c.requires in
    let free : HasRoomUnlessHeld b.log = λ none. full_by b c.self.invariant c.len.result c.len-2.result (nat_le 65536 c.len-2.result || nat_lt 999998 (c.len.result + c.len-2.result)) (c.len.ensures ∙ c.self.inside.entries.ok.0) c.len-2.ensures refl
    ∙ room_said b.log (history_records b.history) b.held (nat_le 65536 c.len-2.result || nat_lt 999998 (c.len.result + c.len-2.result)) c.self.invariant.held (sym c.is_full_unheld.ensures ∙ c.if-is_full_unheld.false) none in
    subst (λ (b : BookView). IsMoveRefusal b.log t Memory) c.self.view_is (next_lacks b t (next_step t p.frame) (Work p) (commit_next b c.self.invariant t p (next_step t p.frame) fresh free refl))

pub ready_next-requires : goal.ready_next-requires
ready_next-requires c =
    let b = book_view c.self.inside.begin c.self.inside.machines c.self.inside.history c.self.inside.entries c.self.inside.settled c.self.inside.held in
    let t = c.args.thread.now in
    let p = c.args.prepared in
    let fresh = subst (λ (b : BookView). IsFresh b.log t p) (sym c.self.view_is) c.requires in
    let free : HasRoomUnlessHeld b.log = λ none. full_by b c.self.invariant c.len.result c.len-2.result (nat_le 65536 c.len-2.result || nat_lt 999998 (c.len.result + c.len-2.result)) (c.len.ensures ∙ c.self.inside.entries.ok.0) c.len-2.ensures refl
    ∙ room_said b.log (history_records b.history) b.held (nat_le 65536 c.len-2.result || nat_lt 999998 (c.len.result + c.len-2.result)) c.self.invariant.held (sym c.is_full_unheld.ensures ∙ c.if-is_full_unheld.false) none in
    let named : c.in-Ok.name ≡ next_step t p.frame = c.in-Ok.ensures ∙ ap (next_step t) c.frame.ensures in
    subst (λ (b : BookView). IsNextOf b c.in-Ok.name.thread c.in-Ok.name (Work p)) c.self.view_is
    (subst (λ (n : StepName). IsNextOf b n.thread n (Work p)) (sym named) (commit_next b c.self.invariant t p (next_step t p.frame) fresh free refl))
