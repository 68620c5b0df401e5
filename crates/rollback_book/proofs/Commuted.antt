-- What a book's undoings leave, and its reruns have, by the laws of logs.
use Rattle.std.proofs.Common.{◌≡◌, ◌↔◌, List, [], ◌∷◌, refl, ap, ap₂, sym, subst, ◌∙◌, inl, inr, Some, Result, Ok, Err}
use Rattle.std.specs.Prelude.{◌⊎◌, IfErr, OnOk, reverse}
use Rattle.step_names.specs.declared.step.StepName.{StepName}
use Rattle.trace_theory.specs.Traces.{In, IsRun, consequences, run, without}
use Rattle.trace_theory.proofs.Orders.{after_allowed}
use Rattle.saved_steps.specs.Steps.{moved}
use Rattle.saved_steps.specs.World.{World}
use Rattle.depends.specs.Instance.{steps}
use Rattle.depends.proofs.Named.{steps_have_names}
use Rattle.step_history.specs.History.{TakenStep}
use Rattle.book_log.specs.Answers.{order_answer, plan_answer, rerun_answer, undo_answer}
use Rattle.book_log.specs.Legal.{IsLegal}
use Rattle.book_log.specs.Log.{Log, appended, base_of, settled, consequences_of, past_of, remaining, setting_of, world_of}
use Rattle.book_log.specs.declared.entry.Entry.TheVariants.{Undo, Rollback}
use Rattle.book_log.specs.declared.refusal.Refusal.{Refusal}
use Rattle.book_log.specs.declared.refusal.Refusal.TheVariants.{Memory, NoStep}
use Rattle.book_log.proofs.Answered.{once}
use Rattle.book_log.proofs.LegalRuns.{legal_stands, plan_said}
use Rattle.book_log.proofs.Orders.{accepted_orders_are_closed, allowed_is_taken, order_settles, order_split, orders_agree_all}
use Rattle.book_log.proofs.Reruns.{linearizations_agree_all, reruns_are_exact, reruns_are_legal}
use Rattle.book_log.proofs.Standing.{StandsAt, after_same, base_same, consequences_there, from_start, is_run, names_there, settled_next, past_there, stands_rolled, world_there}
use Rattle.rollback_book.specs.Commuting.{CannotRun, HasConsequences, IsOnlyResult, IsRerunOf, UndoesBackward}
use Rattle.book_events.specs.Rest.{IsBackwardOrderOf, IsRest}
use Rattle.rollback_book.proofs.Rerun.{tried, tried_stands}

-- ---- undoing

same_end : (a b : Log) (r : Result Log Refusal) → r ≡ Ok a → r ≡ Ok b → a ≡ b
same_end a b r h k = let e = sym h ∙ k in cc

rest_of : (before after : Log) (xs : List TakenStep) (w : World) → after.begin ≡ before.begin → settled after ≡ settled before
    → StandsAt after (setting_of before) w (without (steps (setting_of before)) xs (past_of before)) → IsRest before xs after
rest_of before after xs w begin same there =
    let s = setting_of before in
    let left = without (steps s) xs (past_of before) in
    record {
      past = past_there after s w left there;
      run = subst (λ (b : World). IsRun (steps s) b left (world_of after)) (base_same after before there.setting begin same)
          (subst (IsRun (steps s) (base_of after) left) (sym (world_there after s w left there)) (is_run after s w left there));
    }

-- what is accepted keeps the beginning
order_begins : (names : List StepName) (log after : Log) → order_answer log names ≡ Ok after → after.begin ≡ log.begin
order_begins [] log after h = let same : log ≡ after = cc in ap (λ (s : Log). s.begin) (sym same)
order_begins (name ∷ names) log after h = order_begins names (appended log (Undo name)) after (order_split (undo_answer log name) (order_answer (appended log (Undo name)) names) after h).2

module _ (log : Log) (legal : IsLegal log) (names : List StepName) where
  pub allowed_ends : (xs : List TakenStep) → IsBackwardOrderOf log names xs → (after : Log) × (order_answer log names ≡ Ok after) × IsRest log xs after
  allowed_ends xs o =
      let k = allowed_is_taken xs log (setting_of log) (world_of log) (past_of log) legal (legal_stands log legal) o.allowed in
      let ends = ap (order_answer log) (sym o.named) ∙ k.taken in
      (k.after, ends, rest_of log k.after xs _ (order_begins names log k.after ends) (order_settles names log k.after ends) k.there)

  module _ (after : Log) (a : order_answer log names ≡ Ok after) where
    pub allowed_rest : (xs : List TakenStep) → IsBackwardOrderOf log names xs → IsRest log xs after
    allowed_rest xs o = let k = allowed_ends xs o in subst (IsRest log xs) (same_end k.0 after (order_answer log names) k.1 a) k.2

    pub all_consequences : HasConsequences log names
    all_consequences name y i j = accepted_orders_are_closed log after names name y legal a i j

    pub only_result : IsOnlyResult log names after
    only_result others other b same = orders_agree_all log after other names others legal a b same

  pub not_allowed : (e : Refusal) → order_answer log names ≡ Err e → (xs : List TakenStep) → IsBackwardOrderOf log names xs → ⊥
  not_allowed e h xs o = let k = (allowed_ends xs o).1 in let clash = sym h ∙ k in cc

-- ---- what an undoing of an order answers

module _ (log : Log) (legal : IsLegal log) (names : List StepName) {T : Type 0} where
  pub undoes : (r : Result T Refusal) (after : Log) → OnOk r (order_answer log names ≡ Ok after) → IfErr r (λ e. e ≡ Memory) → UndoesBackward log names r after
  undoes (Ok x) after a m = allowed_rest log legal names after a
  undoes (Err e) after a m = λ xs o. m

  pub holds_consequences : (r : Result T Refusal) (after : Log) → OnOk r (order_answer log names ≡ Ok after) → OnOk r (HasConsequences log names)
  holds_consequences (Ok x) after a = all_consequences log legal names after a
  holds_consequences (Err e) after a = tt

  pub leaves_one : (r : Result T Refusal) (after : Log) → OnOk r (order_answer log names ≡ Ok after) → OnOk r (IsOnlyResult log names after)
  leaves_one (Ok x) after a = only_result log legal names after a
  leaves_one (Err e) after a = tt

pub only_memory : (log : Log) → IsLegal log → (names : List StepName) (e : Refusal) → (e ≡ Memory) ⊎ (order_answer log names ≡ Err e) → (xs : List TakenStep) → IsBackwardOrderOf log names xs → e ≡ Memory
only_memory log legal names e (inl m) xs o = m
only_memory log legal names e (inr h) xs o = absurd (not_allowed log legal names e h xs o)

-- ---- rollback

module _ (log : Log) (legal : IsLegal log) (name : StepName) (undone : List StepName) (a : plan_answer log name ≡ Ok undone) where
  pub rolled_rest : IsRest log (consequences_of log name) (appended log (Rollback name undone))
  rolled_rest =
      let s = setting_of log in
      let w = world_of log in
      let ts = past_of log in
      let h = legal_stands log legal in
      let k = plan_said log s w ts h name undone a in
      let same : consequences (steps s) ts k.step.step ≡ consequences_of log name = sym (consequences_there log s w ts h name ∙ after_same s (moved name) k.step.step ts (sym k.named)) in
      let there = stands_rolled log s w ts name undone k.step h k.stood k.named in
      subst (λ (l : List TakenStep). IsRest log l (appended log (Rollback name undone))) same
      (rest_of log (appended log (Rollback name undone)) (consequences (steps s) ts k.step.step) _ refl (settled_next log (Rollback name undone)) there)

  -- the plan is an order in which they may be undone
  pub plan_allowed : (xs : List TakenStep) × IsBackwardOrderOf log undone xs
  plan_allowed =
      let s = setting_of log in
      let w = world_of log in
      let ts = past_of log in
      let h = legal_stands log legal in
      let base = base_of log in
      let k = plan_said log s w ts h name undone a in (
        reverse (consequences (steps s) ts k.step.step),
        record { named = sym k.names; allowed = after_allowed (steps s) base (steps_have_names s base (from_start log s w ts h)) ts k.step (once log s w ts h) k.stood },
      )

-- ---- taking again

module _ (log : Log) (legal : IsLegal log) (names : List StepName) where
  pub rerun_of : (again : Log) → rerun_answer log names ≡ Ok again → IsRerunOf log names again
  rerun_of again a =
      let s = setting_of log in
      let t = tried log names again a in
      let there = tried_stands log names again legal a t in
      let k = reruns_are_legal log again names legal a in
      let exact = reruns_are_exact log names legal in
      let begin : again.begin ≡ log.begin = ap (λ (x : Log). x.begin) (sym t.is) in
      let names_are = names_there again s t.world t.past there in
      let runs : run (steps s) (base_of again) (remaining again) ≡ Some (world_of again, past_of again) =
      ap (run (steps s) (base_of again)) (sym names_are) ∙ is_run again s t.world t.past there
      ∙ ap₂ (λ (w : World) (l : List TakenStep). Some (w, l)) (sym (world_there again s t.world t.past there)) (sym (past_there again s t.world t.past there)) in
      record {
        legal = k.0;
        named = k.1;
        begin = begin;
        machines = (exact.in_this_log again a).1;
        settled = (exact.in_this_log again a).2;
        in_this_log = (exact.in_this_log again a).0;
        runs = subst (λ (b : World). run (steps s) b (remaining again) ≡ Some (world_of again, past_of again)) (base_same again log there.setting begin (exact.in_this_log again a).2) runs;
        arranged = λ arranged.
            let r = linearizations_agree_all log (remaining again) legal arranged in
            let same = same_end r.0 again (rerun_answer log names) (ap (rerun_answer log) (sym k.1) ∙ r.1) a in
            subst (λ (x : Log). (world_of x ≡ world_of log) × ((t : TakenStep) → In t (past_of x) ↔ In t (past_of log))) same (r.2, r.3);
      }

  pub cannot_run : (e : Refusal) → rerun_answer log names ≡ Err e → (e ≡ NoStep) × CannotRun log names
  cannot_run e h =
      let exact = reruns_are_exact log names legal in
      (exact.refused e h, λ chosen v ts inside named runs. let k = (exact.runnable chosen v ts inside named runs).1 in let clash = sym h ∙ k in cc)
