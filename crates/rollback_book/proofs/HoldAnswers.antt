-- What a hold is answered, and a settlement while one stands.
use Rattle.std.proofs.Common.{◌≡◌, ℕ, true, false, length, refl, ap, sym, subst, ◌∙◌, inl, inr, None, Some, Result, Ok, Err}
use Rattle.std.specs.Prelude.{◌⊎◌, IsSome, List, position, is_some}
use Rattle.step_names.specs.declared.step.StepName.{StepName}
use Rattle.saved_steps.specs.World.{is_same_step}
use Rattle.saved_steps.specs.declared.fact.Fact.{Fact}
use Rattle.saved_steps.specs.declared.record.StepRecord.{StepRecord}
use Rattle.depends.specs.Plans.{plan}
use Rattle.depends.proofs.Searching.{facts}
use Rattle.book_log.specs.Answers.{HoldLacks, SettleLacks, absent, from_step, hold_answer, is_full_for_define, remains, settle_answer}
use Rattle.book_log.specs.Log.{Log, consequences_of, step_on_hold}
use Rattle.book_log.specs.declared.entry.Entry.TheVariants.{Hold as HoldEntry}
use Rattle.book_log.specs.declared.refusal.Refusal.{Refusal}
use Rattle.book_log.specs.declared.refusal.Refusal.TheVariants.{Full, Held, Memory}
use Rattle.rollback_book.specs.Book.{BookView, BookInvariant, IsStepAt}
use Rattle.rollback_book.specs.Holding.{IsHoldFor, IsHoldRefusal}
use Rattle.book_events.specs.Answered.{IsHoldAnswered}
use Rattle.rollback_book.specs.Making.{CanEnter, HasLogRoom, IsMadeHold, MakesHold}
use Rattle.book_events.specs.Planned.{OrMemory}
use Rattle.rollback_book.specs.declared.making.Made.{Made}
use Rattle.rollback_book.specs.declared.making.MadeChange.TheVariants as made
use Rattle.rollback_book.proofs.Free.{remains_there}
use Rattle.rollback_book.proofs.HoldMade.{plan_counted, plan_marked}
use Rattle.rollback_book.proofs.Searching.{no_step}
use Rattle.rollback_book.proofs.Settled.{settle_held}
use Rattle.rollback_book.proofs.Tied.{facts_are}
use Rattle.step_history.specs.History.{history_records}

-- ---- a settlement

pub settle_refusal : (log : Log) (e : Refusal) → IsHoldRefusal log e → OrMemory (settle_answer log) e ⊎ ((e ≡ Memory) × SettleLacks log)
settle_refusal log e h = elim h.2 [
  | inl k ↦ inl (subst (λ (r : Result (Unit {0}) Refusal). OrMemory r e) (sym (settle_held log h.0 h.1)) k)
  | inr k ↦ inr (k, subst IsSome (sym h.1) refl)
]

-- ---- a hold

-- a step that doesn't remain isn't held
pub hold_absent : (b : BookView) (tied : BookInvariant b) (name : StepName) → position (λ (r : StepRecord). is_same_step r.fact.name name) (history_records b.history) ≡ None → hold_answer b.log name ≡ Err (absent b.log name)
unfolding hold_answer
hold_absent b tied name none =
    let gone : remains b.log name ≡ false = ap (λ (fs : List Fact). is_some (from_step name fs)) (sym (facts_are b tied)) ∙ ap is_some (no_step name (history_records b.history) none) in
    rw gone refl

module _ (b : BookView) (tied : BookInvariant b) (name : StepName) (at : ℕ) (is_at : IsStepAt b name at) where
  hold_held : (other : StepName) → step_on_hold b.log ≡ Some other → hold_answer b.log name ≡ Err (Held other)
  unfolding hold_answer
  hold_held other e = let there = remains_there b tied name at is_at in rw (there, e) refl

  pub hold_full : step_on_hold b.log ≡ None → is_full_for_define b.log ≡ true → hold_answer b.log name ≡ Err Full
  unfolding hold_answer
  hold_full e full = let there = remains_there b tied name at is_at in rw (there, e, full) refl

  pub hold_free : step_on_hold b.log ≡ None → is_full_for_define b.log ≡ false → hold_answer b.log name ≡ Ok (length (consequences_of b.log name))
  unfolding hold_answer
  hold_free e free = let there = remains_there b tied name at is_at in rw (there, e, free) refl

  -- the same of a book that is this one
  pub free_answer : step_on_hold b.log ≡ None → is_full_for_define b.log ≡ false → (d : BookView) → b ≡ d → hold_answer d.log name ≡ Ok (length (consequences_of d.log name))
  free_answer e free d same = subst (λ (x : BookView). hold_answer x.log name ≡ Ok (length (consequences_of x.log name))) same (hold_free e free)

  pub hold_refusal : (e : Refusal) → IsHoldRefusal b.log e → OrMemory (hold_answer b.log name) e ⊎ ((e ≡ Memory) × HoldLacks b.log name)
  hold_refusal e h = elim h.2 [
    | inl k ↦ inl (subst (λ (r : Result ℕ Refusal). OrMemory r e) (sym (hold_held h.0 h.1)) k)
    | inr k ↦ inr (k, (subst IsSome (sym h.1) refl, remains_there b tied name at is_at))
  ]

  -- where everything is made for a plan, it is for the step and its consequences
  pub made_hold : (places : List ℕ) → places ≡ plan (facts (history_records b.history)) at → (m : Made) → IsMadeHold name (history_records b.history) places m → MakesHold b.log (history_records b.history) name m
  made_hold places planned m h =
      let count = plan_counted b tied name at is_at places planned in
      (h.0, h.1 ∙ ap (λ (n : ℕ). let x : Made = record { entry = HoldEntry name n; change = made.Hold h.0 } in x) count, (h.2, h.3, plan_marked b tied name at is_at places planned h.0.left h.3 h.4))

-- ---- what is made

pub hold_told : (log : Log) (rs : List StepRecord) (name : StepName) (m : Made) → MakesHold log rs name m → hold_answer log name ≡ Ok (length (consequences_of log name)) → IsHoldAnswered log name (Ok m.entry)
hold_told log rs name m h answer = (length (consequences_of log name), answer, ap (λ (x : Made). x.entry) h.1)

pub hold_ready : (before : Log) (after : BookView) (name : StepName) (m : Made) → after.log ≡ before → MakesHold before (history_records after.history) name m → hold_answer before name ≡ Ok (length (consequences_of before name)) → HasLogRoom after → CanEnter after m
hold_ready before after name m same h answer room =
    let count = length (consequences_of before name) in
    let whole : CanEnter after (record { entry = HoldEntry name count; change = made.Hold h.0 }) = record {
      is_accepted = ap (λ (s : Log). hold_answer s name) same ∙ answer;
      fits = subst (λ (s : Log). IsHoldFor s (history_records after.history) name h.0) (sym same) h.2;
      room = room;
    } in
    subst (λ (x : Made). CanEnter after x) (sym h.1) whole
