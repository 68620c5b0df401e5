-- Sums that are tested part by part.
use Rattle.std.proofs.Common.{◌≡◌, ◌+◌, ◌-◌, ◌||◌, ℕ, Bool, List, length, map, sym, ap, ap₂, ◌∙◌, arith}
use Rattle.std.specs.Prelude.{nat_le, nat_lt}
use Rattle.std.proofs.lemmas.List.{length-map}
use Rattle.std.proofs.lemmas.Bool.Decides.{nat_tests}
use Rattle.book_log.specs.Answers.{is_full_for_step}
use Rattle.book_log.specs.Log.{Log, remaining}
use Rattle.book_log.specs.StepRecord.{StepRecord}
use Rattle.book_events.specs.Steps.{name_of}
use Rattle.step_names.specs.declared.step.StepName.{StepName}

pub sum_test : (most entries steps : ℕ) → nat_lt most (entries + steps) ≡ (nat_lt most entries || nat_lt (most - entries) steps)
sum_test most entries steps = grind (arith, nat_tests)

-- as many records as steps remain
as_many_steps : (log : Log) (records : List StepRecord) → map (λ (r : StepRecord). r.fact.name) records ≡ map name_of (remaining log) → length records ≡ length (remaining log)
as_many_steps log records names = sym (length-map records (λ (r : StepRecord). r.fact.name)) ∙ ap (λ (ns : List StepName). length ns) names ∙ length-map (remaining log) name_of

pub full_by : (log : Log) (entries count : ℕ) (records : List StepRecord) (full : Bool) → map (λ (r : StepRecord). r.fact.name) records ≡ map name_of (remaining log) → entries ≡ length log.entries → count ≡ length records
    → full ≡ (nat_le 65536 count || nat_lt 999998 (entries + count)) → full ≡ is_full_for_step log
unfolding is_full_for_step
full_by log entries count records full names e many is = is ∙ ap₂ (λ (m n : ℕ). nat_le 65536 n || nat_lt 999998 (m + n)) e (many ∙ as_many_steps log records names)
