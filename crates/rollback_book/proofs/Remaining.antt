-- Steps of which it is looked up whether they remain.
use Rattle.std.proofs.Common.{◌≡◌, ◌<◌, ◌≤◌, ◌+◌, arith, ℕ, true, false, List, [], ◌∷◌, drop, get_or, length, zero, suc, refl, ap, sym, ◌∙◌, Option, None, Some, Err}
use Rattle.std.specs.Prelude.{is_some, option_map, option_and_then, position}
use Rattle.std.proofs.lemmas.List.{drop_all}
use Rattle.step_names.specs.declared.step.StepName.{StepName}
use Rattle.trace_theory.specs.Traces.{run}
use Rattle.saved_steps.specs.Steps.{Step}
use Rattle.saved_steps.specs.World.{is_same_step}
use Rattle.saved_steps.specs.declared.record.StepRecord.{StepRecord}
use Rattle.depends.specs.Instance.{steps}
use Rattle.step_history.specs.History.{history_records}
use Rattle.book_log.specs.Answers.{or_no_step, remains, replayed, rerun_answer, step_named, steps_named}
use Rattle.book_log.specs.Log.{Log, base_of, remaining, setting_of}
use Rattle.book_log.specs.declared.refusal.Refusal.TheVariants.{NoStep}
use Rattle.rollback_book.specs.Book.{BookView, BookInvariant}
use Rattle.rollback_book.specs.Rerunning.{all_remain}
use Rattle.rollback_book.proofs.Free.{remains_there}

-- ---- one step

pub remains_where : (b : BookView) (tied : BookInvariant b) (name : StepName) (o : Option ℕ) → o ≡ position (λ (r : StepRecord). is_same_step r.fact.name name) (history_records b.history) → is_some o ≡ true → remains b.log name ≡ true
remains_where b tied name None h k = cc
remains_where b tied name (Some at) h k = remains_there b tied name at (sym h)

pub none_where : {A : Type 0} (o : Option A) → is_some o ≡ false → o ≡ None
none_where None h = refl
none_where (Some x) h = cc

-- ---- all steps of some names

dropped : {A : Type 0} (xs : List A) (i : ℕ) (x : A) → i < length xs → x ≡ get_or xs i x → drop i xs ≡ x ∷ drop (i + 1) xs
dropped [] i x h e = absurd (omega (arith, h))
dropped (y ∷ xs) zero x h e = ap (λ z. z ∷ xs) (sym e)
dropped (y ∷ xs) (suc i) x h e =
    let n : suc (i + 1) ≡ suc i + 1 = omega arith in
    dropped xs i x (omega (arith, h)) e ∙ ap (λ k. x ∷ drop k (y ∷ xs)) n

mapped : (s : Step) (o : Option (List Step)) → is_some (option_map (λ more. s ∷ more) o) ≡ is_some o
mapped s None = refl
mapped s (Some more) = refl

one_more : (ss : List Step) (names : List StepName) (o : Option Step) → is_some o ≡ true → is_some (option_and_then (λ s. option_map (λ more. s ∷ more) (steps_named ss names)) o) ≡ is_some (steps_named ss names)
one_more ss names None h = cc
one_more ss names (Some s) h = mapped s (steps_named ss names)

module _ (log : Log) (names : List StepName) (i : ℕ) where
  pub remain_on : (name : StepName) → i < length names → name ≡ get_or names i name → is_some (step_named name (remaining log)) ≡ true → all_remain log (drop i names) ≡ all_remain log names → all_remain log (drop (i + 1) names) ≡ all_remain log names
  remain_on name l is there so_far =
      sym (ap (all_remain log) (dropped names i name l is) ∙ one_more (remaining log) (drop (i + 1) names) (step_named name (remaining log)) there) ∙ so_far

  pub remain_all : length names ≤ i → all_remain log (drop i names) ≡ all_remain log names → all_remain log names ≡ true
  remain_all past so_far = sym so_far ∙ ap (all_remain log) (drop_all i names past)

  pub none_rerun : (name : StepName) → i < length names → name ≡ get_or names i name → step_named name (remaining log) ≡ None → all_remain log (drop i names) ≡ all_remain log names → rerun_answer log names ≡ Err NoStep
  unfolding rerun_answer
  none_rerun name l is none so_far =
      let absent : all_remain log names ≡ false =
      sym so_far ∙ ap (all_remain log) (dropped names i name l is)
      ∙ ap (λ (o : Option Step). is_some (option_and_then (λ s. option_map (λ more. s ∷ more) (steps_named (remaining log) (drop (i + 1) names))) o)) none in
      ap (λ (o : Option (List Step)). or_no_step (option_map (λ p. replayed log p.1) (option_and_then (run (steps (setting_of log)) (base_of log)) o))) (none_where (steps_named (remaining log) names) absent)
