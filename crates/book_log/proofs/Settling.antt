-- What was settled: its run stands before that of the remaining steps, so no name of it remains.
use Rattle.std.proofs.Common.{◌≡◌, Bool, true, false, List, [], ◌∷◌, ◌++◌, append_assoc, refl, ap, ap₂, sym, subst, ◌∙◌, inl, inr, Option, None, Some, Result, Ok, Err}
use Rattle.std.specs.Prelude.{◌⊎◌, if◌then◌else◌}
use Rattle.std.proofs.lemmas.List.{append-nil}
use Rattle.step_names.specs.declared.step.StepName.{StepName}
use Rattle.trace_theory.specs.Traces.{In}
use Rattle.trace_theory.proofs.Arranged.{named_place}
use Rattle.trace_theory.proofs.Lists.{by_bool, here, any_one, one_any, In-front, Before-across}
use Rattle.depends.specs.Steps.{Step, name_of}
use Rattle.depends.specs.World.{Setting, World, is_same_step}
use Rattle.depends.specs.Instance.{TakenStep, steps}
use Rattle.depends.specs.Laws.{IsFrom}
use Rattle.depends.proofs.Named.{steps_have_names}
use Rattle.book_log.specs.Answers.{is_full_for_define, is_settled, absent, unless_held, settle_answer}
use Rattle.book_log.specs.Laws.{SettlingKeepsTheWorld, SettledStaysSettled}
use Rattle.book_log.specs.Log.{Log, appended, first_world, settled, remaining, step_on_hold, setting_of, world_of, past_of}
use Rattle.book_log.specs.declared.entry.Entry.{Entry}
use Rattle.book_log.specs.declared.entry.Entry.TheVariants.{Define, Start, Step as Stepped, Undo, Rollback, Settle, Hold}
use Rattle.book_log.specs.declared.refusal.Refusal.{Refusal}
use Rattle.book_log.specs.declared.refusal.Refusal.TheVariants.{NoStep, HasDependents, Settled, Full}
use Rattle.book_log.proofs.Standing.{StandsAt, no_frames, step_same, step_itself, all_run, settled_names, settled_next, steps_next, stands_settled, base_settled, world_there}
use Rattle.book_log.proofs.LegalRuns.{legal_stands}

-- ---- names

pub settled_one : (log : Log) (step : Step) (name : StepName) → In step (settled log) → name_of step ≡ name → is_settled log name ≡ true
unfolding is_settled
settled_one log step name i e = any_one (λ (s : Step). is_same_step name (name_of s)) (settled log) step i (ap (is_same_step name) e ∙ step_itself name)

pub one_settled : (log : Log) (name : StepName) → is_settled log name ≡ true → (step : Step) × In step (settled log) × (name_of step ≡ name)
unfolding is_settled
one_settled log name h = let k = one_any (λ (s : Step). is_same_step name (name_of s)) (settled log) h in (k.0, k.1, sym (step_same name (name_of k.0) k.2))

settled_split : (b : Bool) → (if b then Settled else NoStep) ≡ Settled → b ≡ true
settled_split true h = refl
settled_split false h = cc

no_step_split : (b : Bool) → (if b then Settled else NoStep) ≡ NoStep → b ≡ false
no_step_split true h = cc
no_step_split false h = refl

pub absent_settled : (log : Log) (name : StepName) → absent log name ≡ Settled → is_settled log name ≡ true
absent_settled log name h = settled_split (is_settled log name) h

pub absent_none : (log : Log) (name : StepName) → absent log name ≡ NoStep → is_settled log name ≡ false
absent_none log name h = no_step_split (is_settled log name) h

pub settled_absent : (log : Log) (name : StepName) → is_settled log name ≡ true → absent log name ≡ Settled
settled_absent log name h = rw h refl

pub none_absent : (log : Log) (name : StepName) → is_settled log name ≡ false → absent log name ≡ NoStep
none_absent log name h = rw h refl

plain_split : (d : StepName) (b : Bool) → (if b then Settled else NoStep) ≡ HasDependents d → ⊥
plain_split d true h = cc
plain_split d false h = cc

-- a step that is absent has no dependents
pub absent_plain : (log : Log) (name d : StepName) → absent log name ≡ HasDependents d → ⊥
absent_plain log name d h = plain_split d (is_settled log name) h

-- it is refused for one of two reasons
pub absent_either : (log : Log) (name : StepName) (e : Refusal) → absent log name ≡ e → (e ≡ NoStep) ⊎ (e ≡ Settled)
absent_either log name e h = by_bool (is_settled log name) _ (λ k. inr (sym h ∙ settled_absent log name k)) (λ k. inl (sym h ∙ none_absent log name k))

-- a settled name is of no step that remains
pub never_settled : (log : Log) (s : Setting) (w : World) (ts : List TakenStep) (h : StandsAt log s w ts) (step : Step) (t : TakenStep) → In step (settled log) → In t ts → name_of step ≡ name_of t.step → ⊥
never_settled log s w ts h step t i j e =
    let first = first_world log.begin in
    let from : IsFrom s first = (first, no_frames log.begin, ([], refl)) in
    let have = steps_have_names s first from in
    let p = named_place (steps s) first have step h.before (subst (In step) (sym (settled_names log s w ts h)) i) in
    let there : In p.step h.before = subst (In p.step) (sym p.whole) (here p.step p.front p.back) in
    let apart = have.once (h.before ++ ts) w p.step t (all_run log s w ts h) (Before-across p.step t h.before ts there j) in
    let same : is_same_step (name_of p.step.step) (name_of t.step) ≡ true = ap₂ (λ (a b : StepName). is_same_step a b) (ap name_of p.named ∙ e) refl ∙ step_itself (name_of t.step) in
    absurd (cc)

-- ---- a settlement

settle_split : (b : Bool) (o : Option StepName) → ◌≡◌ {A = Result (Unit {0}) Refusal} (unless_held o (if b then Err Full else Ok tt)) (Ok tt) → (b ≡ false) × (o ≡ None)
settle_split true None h = cc
settle_split false None h = (refl, refl)
settle_split b (Some name) h = cc

pub settle_room : (log : Log) → settle_answer log ≡ Ok tt → is_full_for_define log ≡ false
unfolding settle_answer
settle_room log h = (settle_split (is_full_for_define log) (step_on_hold log) h).0

-- nothing is held where what remains is settled
pub settle_free : (log : Log) → settle_answer log ≡ Ok tt → step_on_hold log ≡ None
unfolding settle_answer
settle_free log h = (settle_split (is_full_for_define log) (step_on_hold log) h).1

pub room_settles : (log : Log) → step_on_hold log ≡ None → is_full_for_define log ≡ false → settle_answer log ≡ Ok tt
unfolding settle_answer
room_settles log free h = rw (free, h) refl

pub settling_keeps_the_world : SettlingKeepsTheWorld
settling_keeps_the_world log legal a =
    let s = setting_of log in
    let w = world_of log in
    let ts = past_of log in
    let h = legal_stands log legal in
    record {
      world = world_there (appended log Settle) s w [] (stands_settled log s w ts h);
      base = base_settled log s w ts h;
      setting = (stands_settled log s w ts h).setting;
      steps = steps_next log Settle;
      settled = settled_next log Settle;
    }

-- ---- for good

settled_grows : (log : Log) (e : Entry) → (more : List Step) × (settled (appended log e) ≡ settled log ++ more)
settled_grows log (Define name machine) = ([], settled_next log (Define name machine) ∙ sym (append-nil (settled log)))
settled_grows log (Start exec machine input) = ([], settled_next log (Start exec machine input) ∙ sym (append-nil (settled log)))
settled_grows log (Stepped name kind) = ([], settled_next log (Stepped name kind) ∙ sym (append-nil (settled log)))
settled_grows log (Undo name) = ([], settled_next log (Undo name) ∙ sym (append-nil (settled log)))
settled_grows log (Rollback name undone) = ([], settled_next log (Rollback name undone) ∙ sym (append-nil (settled log)))
settled_grows log Settle = (remaining log, settled_next log Settle)
settled_grows log (Hold name count) = ([], settled_next log (Hold name count) ∙ sym (append-nil (settled log)))

settled_along : (entries : List Entry) (log : Log) (step : Step) → In step (settled log) → In step (settled (record { begin = log.begin; entries = log.entries ++ entries }))
settled_along [] log step i = subst (λ l. In step (settled (record { begin = log.begin; entries = l }))) (sym (append-nil log.entries)) i
settled_along (e ∷ entries) log step i =
    let g = settled_grows log e in
    subst (λ l. In step (settled (record { begin = log.begin; entries = l }))) (append_assoc log.entries (e ∷ []) entries)
    (settled_along entries (appended log e) step (subst (In step) (sym g.1) (In-front step (settled log) g.0 i)))

pub settled_stays_settled : SettledStaysSettled
settled_stays_settled log entries step i = settled_along entries log step i
