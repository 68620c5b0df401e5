-- What is said where a hold is accepted, and where none stands.
use Rattle.std.proofs.Common.{◌≡◌, ℕ, Bool, true, false, [], length, refl, ap, ◌∙◌, Option, None, Some, Ok, Err}
use Rattle.std.specs.Prelude.{List, map, if◌then◌else◌}
use Rattle.std.specs.List.{find}
use Rattle.step_names.specs.declared.step.StepName.{StepName}
use Rattle.depends.specs.Dependence.{depends_directly}
use Rattle.depends.specs.Fact.{Fact}
use Rattle.depends.specs.Instance.{TakenStep}
use Rattle.book_log.specs.Answers.{remains, absent, needed_left, unless_held, hold_answer, is_full_for_define}
use Rattle.book_log.specs.Log.{Log, Remainder, appended, step_on_hold, left_by, left_in, left_of, consequences_of, past_of, remainder, setting_of, after_entry}
use Rattle.book_log.specs.declared.entry.Entry.{Entry}
use Rattle.book_log.specs.declared.refusal.Refusal.{Refusal}
use Rattle.book_log.specs.declared.refusal.Refusal.TheVariants.{Held, Full}
use Rattle.book_log.proofs.Standing.{remainder_next}

pub held_next : (log : Log) (e : Entry) → step_on_hold (appended log e) ≡ (after_entry log.begin (remainder log) e).held
held_next log e = ap (λ (r : Remainder). r.held) (remainder_next log e)

hold_split : (b full : Bool) (o : Option StepName) (count n : ℕ) (gone : Refusal) → (if b then unless_held o (if full then Err Full else Ok n) else Err gone) ≡ Ok count → (b ≡ true) × (o ≡ None) × (full ≡ false) × (n ≡ count)
hold_split true true None count n gone h = cc
hold_split true false None count n gone h = (refl, refl, refl, cc)
hold_split true full (Some name) count n gone h = cc
hold_split false full o count n gone h = cc

-- what is answered to be held remains; nothing was held, and there is room
pub hold_said : (log : Log) (name : StepName) (count : ℕ) → hold_answer log name ≡ Ok count → (remains log name ≡ true) × (step_on_hold log ≡ None) × (is_full_for_define log ≡ false) × (length (consequences_of log name) ≡ count)
unfolding hold_answer
hold_said log name count h = hold_split (remains log name) (is_full_for_define log) (step_on_hold log) count (length (consequences_of log name)) (absent log name) h

-- where nothing is held nothing is left
pub nothing_left : (log : Log) → step_on_hold log ≡ None → left_of log ≡ []
unfolding left_in
nothing_left log h = ap (left_by (setting_of log) (past_of log)) h

-- and no step needs any
pub needs_none : (log : Log) → step_on_hold log ≡ None → (f : Fact) → needed_left log f ≡ None
needs_none log h f = ap (λ (l : List TakenStep). find (λ (x : Fact). depends_directly x f) (map (λ (t : TakenStep). t.fact) l)) (nothing_left log h)
