-- What is left of a hold, as it is told.
use Rattle.std.proofs.Common.{◌≡◌, Bool, true, false, List, [], if◌then◌else◌, None, Some, Ok, Err, sym, ap, ◌∙◌}
use Rattle.std.specs.Prelude.{reverse}
use Rattle.step_names.specs.declared.step.StepName.{StepName}
use Rattle.book_log.specs.Answers.{absent, names_of_facts, plan_answer, remains}
use Rattle.book_log.specs.Log.{Log, consequences_in, consequences_of, step_on_hold, left_by, left_in, left_of, past_of, setting_of}
use Rattle.book_log.specs.declared.refusal.Refusal.{Refusal}
use Rattle.book_log.proofs.HoldSaid.{nothing_left}
use Rattle.operator_line.specs.Answers.{left_names}

planned : (b : Bool) (ns names : List StepName) (gone : Refusal) → (if b then Ok ns else Err gone) ≡ Ok names → names ≡ ns
planned true ns names gone h = cc
planned false ns names gone h = cc

left_is : (log : Log) (name : StepName) → step_on_hold log ≡ Some name → left_of log ≡ consequences_of log name
unfolding left_in consequences_in
left_is log name h = ap (left_by (setting_of log) (past_of log)) h

-- it is what the plan of the held step has
pub left_planned : (log : Log) (name : StepName) (names : List StepName) → step_on_hold log ≡ Some name → plan_answer log name ≡ Ok names → names ≡ left_names log
unfolding plan_answer
left_planned log name names h p =
    planned (remains log name) (names_of_facts (reverse (consequences_of log name))) names (absent log name) p
    ∙ ap (λ ts. names_of_facts (reverse ts)) (sym (left_is log name h))

-- and nothing where there is no hold
pub none_left_of : (log : Log) → step_on_hold log ≡ None → left_names log ≡ []
none_left_of log h = ap (λ ts. names_of_facts (reverse ts)) (nothing_left log h)
