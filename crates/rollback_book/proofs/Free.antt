-- Steps of a book by their names: which may be undone, and what is planned for one.
use Rattle.std.proofs.Common.{◌≡◌, ◌<◌, arith, ℕ, ◌-◌, Bool, true, cond, List, length, map, ap, sym, ◌∙◌, None, Some, Ok, Err}
use Rattle.std.specs.Prelude.{slice_get, position, reverse, is_some, option_map}
use Rattle.std.proofs.lemmas.Option.{same_Some, slice_get-map, slice_get_within}
use Rattle.step_names.specs.declared.step.StepName.{StepName}
use Rattle.trace_theory.specs.Traces.{IsMaximal, consequences}
use Rattle.saved_steps.specs.Held.{world_view}
use Rattle.saved_steps.specs.Steps.{moved, name_of}
use Rattle.saved_steps.specs.World.{is_same_step}
use Rattle.saved_steps.specs.declared.fact.Fact.{Fact}
use Rattle.saved_steps.specs.declared.record.StepRecord.{StepRecord}
use Rattle.depends.specs.Instance.{steps}
use Rattle.depends.specs.Laws.{facts_of}
use Rattle.depends.specs.Plans.{first_dependent, plan}
use Rattle.depends.proofs.Consequences.{plans_are_consequences}
use Rattle.depends.proofs.Searching.{facts}
use Rattle.depends.proofs.Searching as searching
use Rattle.step_history.specs.History.{TakenStep, history_records, history_world}
use Rattle.step_history.proofs.Left.{step_there, free_by}
use Rattle.step_history.proofs.Planned.{in_list}
use Rattle.book_log.specs.Answers.{absent, undo_answer, found_answer, free_answer, from_step, plan_answer, remains, names_of_facts}
use Rattle.book_log.specs.Log.{setting_of, base_of, past_of, consequences_of}
use Rattle.book_log.specs.declared.refusal.Refusal.TheVariants.{HasDependents}
use Rattle.book_log.proofs.Standing.{fact_named, consequences_there, after_same}
use Rattle.rollback_book.specs.Book.{BookView, BookInvariant, IsStepAt, IsMaximalPlace}
use Rattle.rollback_book.proofs.Searching.{step_at, no_step, dependent_at, no_dependent_at, behind}
use Rattle.rollback_book.proofs.Tied.{stands, facts_are, as_many_records}

-- a step of the past, at its place
pub record Stood (b : BookView) (name : StepName) (at : ℕ) : Type 0 where
  pub step : TakenStep
  pub within : at < length (history_records b.history)
  pub there : slice_get (past_of b.log) at ≡ Some step
  pub fact : step.fact.name ≡ name
  pub named : name_of step.step ≡ name

module _ (b : BookView) (tied : BookInvariant b) (name : StepName) where
  answer_by : undo_answer b.log name ≡ found_answer (absent b.log name) name (from_step name (facts (history_records b.history)))
  unfolding undo_answer
  answer_by = ap (λ (fs : List Fact). found_answer (absent b.log name) name (from_step name fs)) (sym (facts_are b tied))

  pub no_step_answer : position (λ (r : StepRecord). is_same_step r.fact.name name) (history_records b.history) ≡ None → undo_answer b.log name ≡ Err (absent b.log name)
  no_step_answer h = answer_by ∙ ap (found_answer (absent b.log name) name) (no_step name (history_records b.history) h)

  within_records : (i : ℕ) (f : Fact) → slice_get (facts (history_records b.history)) i ≡ Some f → i < length (history_records b.history)
  within_records i f h = let k = slice_get_within (facts (history_records b.history)) i f h in let m = searching.as_many (history_records b.history) in omega (arith, k, m)

  -- the step of this fact
  pub stood_by : (at : ℕ) (f : Fact) → slice_get (facts_of (past_of b.log)) at ≡ Some f → f.name ≡ name → Stood b name at
  stood_by at f h named =
      let n = within_records at f (ap (λ (fs : List Fact). slice_get fs at) (facts_are b tied) ∙ h) in
      let m = as_many_records b tied in
      let t = step_there (past_of b.log) at (omega (arith, n, m)) in
      let told : slice_get (facts_of (past_of b.log)) at ≡ Some t.0.fact =
      slice_get-map (λ (x : TakenStep). x.fact) (past_of b.log) at ∙ ap (option_map (λ (x : TakenStep). x.fact)) t.1 in
      let same : t.0.fact ≡ f = same_Some t.0.fact f (sym told ∙ h) in
      let fact : t.0.fact.name ≡ name = ap (λ (x : Fact). x.name) same ∙ named in
      let own = fact_named b.log (setting_of b.log) (world_view (history_world b.history)) (past_of b.log) (stands b tied) t.0 (in_list (past_of b.log) at t.0 t.1) in
      record { step = t.0; within = n; there = t.1; fact = fact; named = sym own ∙ fact }

  module _ (at : ℕ) (is_at : IsStepAt b name at) where
    abbrev fact_here : Fact
    fact_here = (step_at name (history_records b.history) at is_at).fact

    zero_less : at - 0 ≡ at
    zero_less = omega arith

    here : slice_get (facts (history_records b.history)) at ≡ Some fact_here
    here = ap (slice_get (facts (history_records b.history))) (sym zero_less) ∙ (step_at name (history_records b.history) at is_at).there

    found : from_step name (facts (history_records b.history)) ≡ Some (fact_here, behind (facts (history_records b.history)) at)
    found =
        (step_at name (history_records b.history) at is_at).answer
        ∙ ap (λ (i : ℕ). let p : Fact × List Fact = (fact_here, behind (facts (history_records b.history)) i) in Some p) zero_less

    pub within : at < length (history_records b.history)
    within = within_records at fact_here here

    -- the first step that depends on it
    pub dependent_within : (dependent : ℕ) → first_dependent (facts (history_records b.history)) at ≡ Some dependent → dependent < length (history_records b.history)
    dependent_within dependent h =
        let d = dependent_at (facts (history_records b.history)) at dependent fact_here here h in
        within_records dependent d.fact d.there

    pub dependent_answer : (dependent : ℕ) (r : StepRecord) → first_dependent (facts (history_records b.history)) at ≡ Some dependent → slice_get (history_records b.history) dependent ≡ Some r
        → undo_answer b.log name ≡ Err (HasDependents r.fact.name)
    dependent_answer dependent r h k =
        let d = dependent_at (facts (history_records b.history)) at dependent fact_here here h in
        let same : d.fact ≡ r.fact =
        same_Some d.fact r.fact (sym d.there ∙ slice_get-map (λ (x : StepRecord). x.fact) (history_records b.history) dependent ∙ ap (option_map (λ (x : StepRecord). x.fact)) k) in
        answer_by ∙ ap (found_answer (absent b.log name) name) found ∙ ap (free_answer name) d.found ∙ ap (λ (f : Fact). Err (HasDependents f.name)) same

    pub free_place : first_dependent (facts (history_records b.history)) at ≡ None → IsMaximalPlace b name at
    free_place h = record {
      there = is_at;
      free = h;
      answer = answer_by ∙ ap (found_answer (absent b.log name) name) found ∙ ap (free_answer name) (no_dependent_at (facts (history_records b.history)) at fact_here here h);
    }

    pub stood : Stood b name at
    stood = stood_by at fact_here (ap (λ (fs : List Fact). slice_get fs at) (sym (facts_are b tied)) ∙ here) (step_at name (history_records b.history) at is_at).named

    pub remains_there : remains b.log name ≡ true
    remains_there = ap (λ (fs : List Fact). is_some (from_step name fs)) (sym (facts_are b tied)) ∙ ap is_some found

    -- what is planned is the step and its consequences
    pub plan_is : plan_answer b.log name ≡ Ok (names_of_facts (reverse (consequences (steps (setting_of b.log)) (past_of b.log) stood.step.step)))
    unfolding plan_answer
    plan_is =
        ap (λ (x : Bool). cond x (Ok (names_of_facts (reverse (consequences_of b.log name)))) (Err (absent b.log name))) remains_there
        ∙ ap (λ (l : List TakenStep). Ok (names_of_facts (reverse l)))
        (consequences_there b.log (setting_of b.log) (world_view (history_world b.history)) (past_of b.log) (stands b tied) name
        ∙ after_same (setting_of b.log) (moved name) stood.step.step (past_of b.log) (sym stood.named))

    pub places_are : map (slice_get (past_of b.log)) (plan (facts_of (past_of b.log)) at) ≡ map Some (reverse (consequences (steps (setting_of b.log)) (past_of b.log) stood.step.step))
    places_are =
        plans_are_consequences (setting_of b.log) (base_of b.log) (world_view (history_world b.history)) (past_of b.log) at stood.step tied.history.from tied.history.runs stood.there

  pub no_plan : position (λ (r : StepRecord). is_same_step r.fact.name name) (history_records b.history) ≡ None → plan_answer b.log name ≡ Err (absent b.log name)
  unfolding plan_answer
  no_plan h =
      ap (λ (x : Bool). cond x (Ok (names_of_facts (reverse (consequences_of b.log name)))) (Err (absent b.log name)))
      (ap (λ (fs : List Fact). is_some (from_step name fs)) (sym (facts_are b tied)) ∙ ap is_some (no_step name (history_records b.history) h))

  -- the step at a place that may be undone is free
  pub freed : (at : ℕ) (h : IsMaximalPlace b name at) → IsMaximal (steps (setting_of b.log)) (past_of b.log) (stood at h.there).step
  freed at h = free_by (setting_of b.log) (base_of b.log) (past_of b.log) at (stood at h.there).step b.history tied.history (stood at h.there).there h.free
