use Rattle.std.proofs.Common.{◌∙◌, ◌+◌, ℕ, length, Some, ap, map, sym, subst}
use Rattle.std.specs.Prelude.{◌≤◌, ◌-◌}
use Rattle.depends.proofs.Searching.{facts}
use Rattle.step_history.specs.History.{history_records}
use Rattle.step_history.specs.Near.{near_behind}
use Rattle.rollback_book.specs.Book.{BookView, IsStepAt, book_view}
use Rattle.book_events.specs.Planned.{IsPlanned}
use Rattle.book_events.specs.declared.room.PlanRoom.{PlanRoom}
use Rattle.rollback_book.proofs.Planning.{places_within, planned}
use Rattle.rollback_book.proofs.book.Book.plan_at.Goals as goal

pub names_at-requires : goal.names_at-requires
names_at-requires c =
    let b = book_view c.self.inside.begin c.self.inside.machines c.self.inside.history c.self.inside.entries c.self.inside.settled c.self.inside.held in
    let is_at = subst (λ (b : BookView). IsStepAt b c.args.step.now c.args.at) (sym c.self.view_is) c.requires in
    rw (c.places-2.ensures, c.records.ensures) (places_within b c.self.invariant c.args.step.now c.args.at is_at c.in_ok-places.places c.in_ok-places.ensures.plan)

pub returns : goal.returns
returns c =
    let b = book_view c.self.inside.begin c.self.inside.machines c.self.inside.history c.self.inside.entries c.self.inside.settled c.self.inside.held in
    let is_at = subst (λ (b : BookView). IsStepAt b c.args.step.now c.args.at) (sym c.self.view_is) c.requires in
    let r : PlanRoom = record { step = c.in_ok-copy.field-0; names = c.in_ok-names.names; undone = c.in_ok-undone.undone; places = c.in_ok-places.places; entries = c.len.result; looks = c.count.result } in
    let names = rw (c.places-2.ensures, c.records.ensures) at c.in_ok-names.ensures in
    let undone = ap (map Some) c.in_ok-undone.ensures ∙ names in (
      c.in_ok-copy.ensures,
      subst (λ (b : BookView). IsPlanned b.log r) c.self.view_is
          (planned b c.self.invariant c.args.step.now c.args.at is_at r c.in_ok-copy.ensures c.in_ok-places.ensures.plan names undone (sym (c.len.ensures ∙ c.self.inside.entries.ok.0))
          (subst (λ (n : ℕ). length c.in_ok-places.places ≤ n) (sym c.count.ensures) c.in_ok-places.ensures.members)
          (subst (λ (n : ℕ). n ≤ length (history_records b.history) - c.args.at) (sym c.count.ensures) c.in_ok-places.ensures.looks)
          (subst (λ (n : ℕ). n ≤ 1 + near_behind (facts (history_records b.history)) c.in_ok-places.places c.args.at) (sym c.count.ensures) c.in_ok-places.ensures.near)),
    )
