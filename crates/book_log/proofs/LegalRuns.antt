-- Legal logs: what remains of them can be run, and an accepted entry makes one more.
use Rattle.std.proofs.Common.{◌≡◌, Bool, true, false, List, [], ◌∷◌, ◌++◌, append_assoc, refl, ap, sym, subst, ◌∙◌, Option, None, Some, Ok, Err}
use Rattle.std.specs.Prelude.{is_some, reverse, if◌then◌else◌}
use Rattle.std.proofs.lemmas.List.{append-nil}
use Rattle.item_store.specs.Table.{Table}
use Rattle.step_names.specs.declared.step.StepName.{StepName}
use Rattle.trace_theory.specs.Traces.{In, consequences}
use Rattle.trace_theory.proofs.Lists.{here}
use Rattle.depends.specs.Steps.{moved, name_of, start_name}
use Rattle.depends.specs.World.{Setting, World}
use Rattle.depends.specs.Fact.{Fact}
use Rattle.depends.specs.Instance.{TakenStep, steps}
use Rattle.depends.specs.Laws.{facts_of}
use Rattle.book_log.specs.Answers.{from_step, absent, names_of_facts, remains, plan_answer}
use Rattle.book_log.specs.Beginning.{begun_table}
use Rattle.book_log.specs.Laws.{LegalLogsRun, AcceptedIsLegal}
use Rattle.book_log.specs.Legal.{IsAccepted, GoesOnLegally, IsLegal}
use Rattle.book_log.specs.Log.{Log, appended, first_world, world_after, base_in, run_in, remainder, setting_of, world_of, past_of, consequences_of}
use Rattle.book_log.specs.declared.begin.Begin.{Begin}
use Rattle.book_log.specs.declared.entry.Entry.{Entry}
use Rattle.book_log.specs.declared.entry.Entry.TheVariants.{Define, Start, Step as Stepped, Undo, Rollback, Settle, Hold}
use Rattle.book_log.specs.declared.refusal.Refusal.{Refusal}
use Rattle.book_log.proofs.Standing.{StandsAt, after_same, past_there, fact_named, consequences_there, stands, stands_defined, stands_started, stands_moved, stands_undone, stands_rolled, stands_settled, stands_held}
use Rattle.book_log.proofs.Answered.{Found, found_by, undo_said}
use Rattle.book_log.proofs.Taking.{start_said, step_said}

-- ---- what a plan says

-- a step that remains under a name, and the names of its consequences, the latest first
pub record PlanNamed (s : Setting) (ts : List TakenStep) (name : StepName) (undone : List StepName) : Type 0 where
  pub step : TakenStep
  pub fact : step.fact.name ≡ name
  pub named : name_of step.step ≡ name
  pub stood : In step ts
  pub names : undone ≡ names_of_facts (reverse (consequences (steps s) ts step.step))

plan_split : (gone : Refusal) (b : Bool) (names undone : List StepName) → (if b then Ok names else Err gone) ≡ Ok undone → (b ≡ true) × (names ≡ undone)
plan_split gone true names undone h = (refl, cc)
plan_split gone false names undone h = cc

one_found : (o : Option (Fact × List Fact)) → is_some o ≡ true → (p : Fact × List Fact) × (o ≡ Some p)
one_found None h = cc
one_found (Some p) h = (p, refl)

plan_found : (log : Log) (s : Setting) (w : World) (ts : List TakenStep) → StandsAt log s w ts → (name : StepName) (undone : List StepName) (f : Fact) (later : List Fact) → Found name ts f later
    → names_of_facts (reverse (consequences_of log name)) ≡ undone → PlanNamed s ts name undone
plan_found log s w ts h name undone f later g e =
    let there : In g.step ts = subst (In g.step) (sym g.whole) (here g.step g.front g.back) in
    let fact : g.step.fact.name ≡ name = ap (λ (x : Fact). x.name) g.fact ∙ sym g.named in
    let named : name_of g.step.step ≡ name = sym (fact_named log s w ts h g.step there) ∙ fact in
    record {
      step = g.step;
      fact = fact;
      named = named;
      stood = there;
      names = sym e ∙ ap (λ (l : List TakenStep). names_of_facts (reverse l)) (consequences_there log s w ts h name ∙ after_same s (moved name) g.step.step ts (sym named));
    }

pub plan_said : (log : Log) (s : Setting) (w : World) (ts : List TakenStep) (h : StandsAt log s w ts) (name : StepName) (undone : List StepName) → plan_answer log name ≡ Ok undone → PlanNamed s ts name undone
unfolding plan_answer
plan_said log s w ts h name undone a =
    let k = plan_split (absent log name) (remains log name) (names_of_facts (reverse (consequences_of log name))) undone a in
    let p = one_found (from_step name (facts_of (past_of log))) k.0 in
    plan_found log s w ts h name undone p.0.0 p.0.1 (found_by name ts p.0.0 p.0.1 (ap (λ (l : List TakenStep). from_step name (facts_of l)) (sym (past_there log s w ts h)) ∙ p.1)) k.1

-- ---- one more entry

-- where a log stands, whatever it is
pub record StandsSome (log : Log) : Type 0 where
  pub setting : Setting
  pub world : World
  pub past : List TakenStep
  pub stands_there : StandsAt log setting world past

some_stands : (log : Log) (s : Setting) (w : World) (ts : List TakenStep) → StandsAt log s w ts → StandsSome log
some_stands log s w ts h = record { setting = s; world = w; past = ts; stands_there = h }

pub accepted_stands : (log : Log) (e : Entry) (s : Setting) (w : World) (ts : List TakenStep) → StandsAt log s w ts → IsAccepted log e → StandsSome (appended log e)
accepted_stands log (Define name machine) s w ts h a = some_stands _ _ _ _ (stands_defined log s w ts name machine h (ap (λ (x : Setting). x.machines name) (sym h.setting) ∙ a.0))
accepted_stands log (Start exec machine input) s w ts h a =
    let can = start_said log s w ts h exec machine input (start_name exec.exec) a.0 a.1 in
    some_stands _ _ _ _ (stands_started log s w can.after ts exec machine input can.fact h can.takes)
accepted_stands log (Stepped name kind) s w ts h a =
    let can = (step_said log s w ts h name.thread (record { name = name; kind = kind }) a refl).0 in
    some_stands _ _ _ _ (stands_moved log s w can.after ts name kind can.fact h can.takes)
accepted_stands log (Undo name) s w ts h a =
    let k = (undo_said log s w ts h name name a).0 in
    some_stands _ _ _ _ (stands_undone log s w ts name k.step h k.free k.named)
accepted_stands log (Rollback name undone) s w ts h a =
    let k = plan_said log s w ts h name undone a in
    some_stands _ _ _ _ (stands_rolled log s w ts name undone k.step h k.stood k.named)
accepted_stands log Settle s w ts h a = some_stands _ _ _ _ (stands_settled log s w ts h)
accepted_stands log (Hold name count) s w ts h a = some_stands _ _ _ _ (stands_held log s w ts name count h)

-- ---- legal logs

abbrev pub of_log : Begin → List Entry → Log
of_log begin entries = record { begin = begin; entries = entries }

more_legal : (entries : List Entry) (log : Log) (e : Entry) → GoesOnLegally log entries → IsAccepted (of_log log.begin (log.entries ++ entries)) e → GoesOnLegally log (entries ++ e ∷ [])
more_legal [] log e h a = (subst (λ l. IsAccepted (of_log log.begin l) e) (append-nil log.entries) a, tt)
more_legal (x ∷ entries) log e h a = (h.0, more_legal entries (appended log x) e h.1 (subst (λ l. IsAccepted (of_log log.begin l) e) (sym (append_assoc log.entries (x ∷ []) entries)) a))

pub accepted_is_legal : AcceptedIsLegal
unfolding IsLegal
accepted_is_legal log e h a = (h.0, more_legal log.entries (of_log log.begin []) e h.1 a)

empty_legal : (begin : Begin) (items : Table) → begun_table begin ≡ Ok items → IsLegal (of_log begin [])
unfolding IsLegal
empty_legal begin items h = ((items, h), tt)

along : (P : Log → Type 0) → ((log : Log) (e : Entry) → IsLegal log → P log → IsAccepted log e → P (appended log e))
    → (entries : List Entry) (log : Log) → IsLegal log → P log → GoesOnLegally log entries → P (of_log log.begin (log.entries ++ entries))
along P more [] log legal p h = subst (λ l. P (of_log log.begin l)) (sym (append-nil log.entries)) p
along P more (e ∷ entries) log legal p h =
    subst (λ l. P (of_log log.begin l)) (append_assoc log.entries (e ∷ []) entries)
    (along P more entries (appended log e) (accepted_is_legal log e legal h.0) (more log e legal p h.0) h.1)

-- what holds of each beginning and is kept by each entry that is accepted holds of each legal log
pub of_legal : (P : Log → Type 0) → ((begin : Begin) → IsLegal (of_log begin []) → P (of_log begin [])) → ((log : Log) (e : Entry) → IsLegal log → P log → IsAccepted log e → P (appended log e)) → (log : Log) → IsLegal log → P log
unfolding IsLegal
of_legal P first more log h = let empty = empty_legal log.begin h.0.0 h.0.1 in along P more log.entries (of_log log.begin []) empty (first log.begin empty) h.1

-- where a beginning stands
pub first_stands_there : (begin : Begin) → StandsAt (of_log begin []) (setting_of (of_log begin [])) (first_world begin) []
unfolding remainder run_in base_in world_after
first_stands_there begin = record { setting = refl; before = []; leads = refl; runs = refl }

-- a legal log stands in its own world
pub legal_stands : (log : Log) → IsLegal log → StandsAt log (setting_of log) (world_of log) (past_of log)
legal_stands log h =
    let k = of_legal StandsSome (λ begin legal. some_stands _ _ _ _ (first_stands_there begin)) (λ log e legal p a. accepted_stands log e p.setting p.world p.past p.stands_there a) log h in
    stands log k.setting k.world k.past k.stands_there

pub legal_logs_run : LegalLogsRun
legal_logs_run log h = (legal_stands log h).runs
