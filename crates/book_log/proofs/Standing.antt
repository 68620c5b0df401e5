-- Where a log stands: its setting, and the run of what remains. And where it stands after one more entry.
use Rattle.std.proofs.Common.{◌≡◌, ℕ, ◌==◌, Bool, true, false, List, [], ◌∷◌, ◌++◌, refl, ap, ap₂, sym, subst, ◌∙◌, inl, inr, eq-eqb, Option, None, Some}
use Rattle.std.specs.Prelude.{◌||◌, not, reverse, unwrap_or}
use Rattle.std.specs.Cmp.Lexicographic.{same_text}
use Rattle.std.proofs.lemmas.Bool.{and_parts, eqb-true}
use Rattle.std.proofs.lemmas.List.{map-append}
use Rattle.std.proofs.lemmas.List.Sums.{fold-append}
use Rattle.json_tree.specs.declared.tree.Json.{Json}
use Rattle.asl_machine.specs.Fields.{is_text}
use Rattle.asl_machine.specs.Definition.{Definition}
use Rattle.step_names.specs.Thread.{Thread}
use Rattle.step_names.specs.declared.step.StepName.{StepName}
use Rattle.step_names.proofs.OrderLaws.{thread_same, thread_itself}
use Rattle.trace_theory.specs.Traces.{In, run, names_of, consequences, without, undone, undo_each, IsRun, IsMaximal}
use Rattle.trace_theory.proofs.Lists.{by_bool, filter-same}
use Rattle.trace_theory.proofs.Runs.{Runs, Runs-append, from_run, to_run}
use Rattle.trace_theory.proofs.Records.{run_names, run_is, run_then, names-without}
use Rattle.trace_theory.proofs.Orders.{undo_free, after_undoes}
use Rattle.depends.specs.Run.{take_step}
use Rattle.depends.specs.Steps.{Step, started, moved, name_of}
use Rattle.depends.specs.World.{Setting, World, is_same_thread, is_same_step}
use Rattle.depends.specs.Fact.{Fact}
use Rattle.depends.specs.Kind.{Kind}
use Rattle.depends.specs.Instance.{TakenStep, steps, taken_in}
use Rattle.depends.specs.Laws.{ExtendsSetting, HasNoFrames, IsFrom}
use Rattle.depends.proofs.Reversible.{steps_are_reversible}
use Rattle.depends.proofs.Named.{steps_have_names}
use Rattle.depends.proofs.Planned.{planned}
use Rattle.depends.proofs.Worlds.{effect_taken}
use Rattle.depends.proofs.Extended.{runs_more}
use Rattle.book_log.specs.Log.{Log, Remainder, appended, setting_in, first_world, world_after, base_in, base_of, settled, run_in, world_in, past_in, consequences_in, steps_but, rolled_back, with_machine, after_entry, nothing, remainder, remaining, setting_of, run_of, world_of, past_of, consequences_of}
use Rattle.book_log.specs.declared.begin.Begin.{Begin}
use Rattle.book_log.specs.declared.entry.Entry.{Entry}
use Rattle.book_log.specs.declared.entry.Entry.TheVariants.{Define, Start, Step as Stepped, Undo, Rollback, Settle, Hold}

-- ---- names

pub step_same : (a b : StepName) → is_same_step a b ≡ true → a ≡ b
step_same a b h =
    let k = and_parts (is_same_thread a.thread b.thread) (a.no == b.no) h in
    ap₂ (λ (t : Thread) (n : ℕ). let x : StepName = record { thread = t; no = n } in x) (thread_same a.thread b.thread k.0) (eqb-true a.no b.no k.1)

pub step_itself : (a : StepName) → is_same_step a a ≡ true
step_itself a = let t = thread_itself a.thread in let n = eq-eqb a.no a.no refl in rw (t, n) refl

-- a fact has the name of its step
pub taken_named : (s : Setting) (w v : World) (step : Step) (fact : Fact) → take_step s w step ≡ Some (v, fact) → fact.name ≡ name_of step
taken_named s w v step fact h =
    let k = effect_taken s w v step fact h in
    sym (ap (λ (f : Fact). f.name) k.3) ∙ (planned s w step k.0 k.1).0

named_along : (s : Setting) (ts : List TakenStep) (w v : World) → Runs (steps s) w ts v → (t : TakenStep) → In t ts → t.fact.name ≡ name_of t.step
named_along s [] w v h t i = absurd i
named_along s (u ∷ ts) w v h t (inl e) = subst (λ (x : TakenStep). x.fact.name ≡ name_of x.step) (sym e) (taken_named s w h.0 u.step u.fact h.1.0)
named_along s (u ∷ ts) w v h t (inr i) = named_along s ts h.0 v h.2 t i

-- the consequences of a step are those of its name
pub after_same : (s : Setting) (a b : Step) (ts : List TakenStep) → name_of a ≡ name_of b → consequences (steps s) ts a ≡ consequences (steps s) ts b
after_same s a b [] e = refl
after_same s a b (t ∷ ts) e =
    let k : is_same_step (name_of a) (name_of t.step) ≡ is_same_step (name_of b) (name_of t.step) = ap (λ n. is_same_step n (name_of t.step)) e in
    let rest = after_same s a b ts e in
    rw (k, rest) refl

-- ---- where a log stands

-- in this setting the settled steps ran from the start, and those that remain ran from the base, to this world
pub record StandsAt (log : Log) (s : Setting) (w : World) (ts : List TakenStep) : Type 0 where
  pub setting : setting_of log ≡ s
  pub before : List TakenStep
  pub leads : run (steps s) (first_world log.begin) (settled log) ≡ Some (base_of log, before)
  pub runs : run_of log ≡ Some (w, ts)

world_given : (begin : Begin) (r : Remainder) (w : World) (ts : List TakenStep) → run_in begin r ≡ Some (w, ts) → world_in begin r ≡ w
unfolding world_in
world_given begin r w ts h = ap (λ (o : Option (World × List TakenStep)). (unwrap_or o (base_in begin r, [])).0) h

past_given : (begin : Begin) (r : Remainder) (w : World) (ts : List TakenStep) → run_in begin r ≡ Some (w, ts) → past_in begin r ≡ ts
unfolding past_in
past_given begin r w ts h = ap (λ (o : Option (World × List TakenStep)). (unwrap_or o (base_in begin r, [])).1) h

run_there : (begin : Begin) (r : Remainder) (s : Setting) → setting_in begin r ≡ s → run_in begin r ≡ run (steps s) (base_in begin r) r.steps
unfolding run_in
run_there begin r s e = ap (λ (x : Setting). run (steps x) (base_in begin r) r.steps) e

-- the base that a run of the settled steps gives
base_given : (begin : Begin) (r : Remainder) (s : Setting) (base : World) (before : List TakenStep) → setting_in begin r ≡ s → run (steps s) (first_world begin) r.settled ≡ Some (base, before) → base_in begin r ≡ base
unfolding base_in world_after
base_given begin r s base before e h =
    ap (λ (x : Setting). (unwrap_or (run (steps x) (first_world begin) r.settled) (first_world begin, [])).0) e
    ∙ ap (λ (o : Option (World × List TakenStep)). (unwrap_or o (first_world begin, [])).0) h

pub no_frames : (begin : Begin) → HasNoFrames (first_world begin)
no_frames begin t = refl

module _ (log : Log) (s : Setting) (w : World) (ts : List TakenStep) (h : StandsAt log s w ts) where
  pub world_there : world_of log ≡ w
  world_there = world_given log.begin (remainder log) w ts h.runs

  pub past_there : past_of log ≡ ts
  past_there = past_given log.begin (remainder log) w ts h.runs

  -- the base is reached from the start
  pub from_start : IsFrom s (base_of log)
  from_start = (first_world log.begin, no_frames log.begin, (h.before, run_is (steps s) (settled log) (first_world log.begin) (base_of log) h.before h.leads))

  pub steps_run : run (steps s) (base_of log) (remaining log) ≡ Some (w, ts)
  steps_run = sym (run_there log.begin (remainder log) s h.setting) ∙ h.runs

  pub is_run : IsRun (steps s) (base_of log) ts w
  is_run = run_is (steps s) (remaining log) (base_of log) w ts steps_run

  pub names_there : names_of (steps s) ts ≡ remaining log
  names_there = run_names (steps s) (remaining log) (base_of log) w ts steps_run

  -- the settled steps by themselves, and with those that remain after them
  pub settled_names : names_of (steps s) h.before ≡ settled log
  settled_names = run_names (steps s) (settled log) (first_world log.begin) (base_of log) h.before h.leads

  pub all_run : IsRun (steps s) (first_world log.begin) (h.before ++ ts) w
  all_run =
      let first = first_world log.begin in
      let base = base_of log in
      to_run (steps s) (h.before ++ ts) first w
      (Runs-append (steps s) h.before ts first base w (from_run (steps s) h.before first base (run_is (steps s) (settled log) first base h.before h.leads)) (from_run (steps s) ts base w is_run))

  all_named : names_of (steps s) (h.before ++ ts) ≡ settled log ++ remaining log
  all_named = map-append (λ (t : TakenStep). t.step) h.before ts ∙ ap₂ (λ (a b : List Step). a ++ b) settled_names names_there

  pub settled_run : run (steps s) (first_world log.begin) (settled log ++ remaining log) ≡ Some (w, h.before ++ ts)
  settled_run = subst (λ l. run (steps s) (first_world log.begin) l ≡ Some (w, h.before ++ ts)) all_named all_run

  pub fact_named : (t : TakenStep) → In t ts → t.fact.name ≡ name_of t.step
  fact_named t i = named_along s ts (base_of log) w (from_run (steps s) ts (base_of log) w is_run) t i

  pub consequences_there : (name : StepName) → consequences_of log name ≡ consequences (steps s) ts (moved name)
  unfolding consequences_in
  consequences_there name = ap₂ (λ (x : Setting) (l : List TakenStep). consequences (steps x) l (moved name)) h.setting past_there

-- a log stands in its setting and in what its run gives
pub stands_in : (log : Log) (s r : Setting) (w v : World) (ts us : List TakenStep) → StandsAt log s w ts → setting_of log ≡ r → run_of log ≡ Some (v, us) → StandsAt log r v us
stands_in log s r w v ts us h setting runs = record {
  setting = setting;
  before = h.before;
  leads = ap (λ (x : Setting). run (steps x) (first_world log.begin) (settled log)) (sym setting ∙ h.setting) ∙ h.leads;
  runs = runs;
}

pub stands : (log : Log) (s : Setting) (w : World) (ts : List TakenStep) → StandsAt log s w ts → StandsAt log (setting_of log) (world_of log) (past_of log)
stands log s w ts h =
    stands_in log s (setting_of log) w (world_of log) ts (past_of log) h refl
    (h.runs ∙ ap₂ (λ (x : World) (l : List TakenStep). Some (x, l)) (sym (world_there log s w ts h)) (sym (past_there log s w ts h)))

-- logs that settled the same go on from one base
pub base_same : (a b : Log) → setting_of a ≡ setting_of b → a.begin ≡ b.begin → settled a ≡ settled b → base_of a ≡ base_of b
unfolding base_in
base_same a b setting begin same =
    ap (λ (x : Setting). world_after x a.begin (settled a)) setting
    ∙ ap₂ (λ (x : Begin) (l : List Step). world_after (setting_of b) x l) begin same

-- ---- one more entry

pub remainder_next : (log : Log) (e : Entry) → remainder (appended log e) ≡ after_entry log.begin (remainder log) e
unfolding remainder
remainder_next log e = fold-append (after_entry log.begin) nothing log.entries (e ∷ [])

pub settled_next : (log : Log) (e : Entry) → settled (appended log e) ≡ (after_entry log.begin (remainder log) e).settled
settled_next log e = ap (λ (r : Remainder). r.settled) (remainder_next log e)

-- an entry that defines nothing and settles nothing leaves the base
pub base_kept : (log : Log) (e : Entry) → setting_in log.begin (after_entry log.begin (remainder log) e) ≡ setting_of log → (after_entry log.begin (remainder log) e).settled ≡ settled log → base_of (appended log e) ≡ base_of log
base_kept log e setting same = base_same (appended log e) log (ap (setting_in log.begin) (remainder_next log e) ∙ setting) refl (settled_next log e ∙ same)

pub steps_next : (log : Log) (e : Entry) → remaining (appended log e) ≡ (after_entry log.begin (remainder log) e).steps
steps_next log e = ap (λ (r : Remainder). r.steps) (remainder_next log e)

-- after an entry a log stands where the settled steps and those that remain then are run
pub stands_next : (log : Log) (e : Entry) (s : Setting) (base w : World) (before ts : List TakenStep) → setting_in log.begin (after_entry log.begin (remainder log) e) ≡ s
    → run (steps s) (first_world log.begin) (after_entry log.begin (remainder log) e).settled ≡ Some (base, before)
    → run (steps s) base (after_entry log.begin (remainder log) e).steps ≡ Some (w, ts) → StandsAt (appended log e) s w ts
stands_next log e s base w before ts setting leads runs =
    let begin = log.begin in
    let r = after_entry begin (remainder log) e in
    let same : base_in begin r ≡ base = base_given begin r s base before setting leads in
    record {
      setting = ap (setting_in begin) (remainder_next log e) ∙ setting;
      before = before;
      leads = ap (λ (x : Remainder). run (steps s) (first_world begin) x.settled) (remainder_next log e) ∙ leads
          ∙ ap (λ (x : World). Some (x, before)) (sym (ap (base_in begin) (remainder_next log e) ∙ same));
      runs = ap (run_in begin) (remainder_next log e) ∙ run_there begin r s setting ∙ ap (λ (x : World). run (steps s) x r.steps) same ∙ runs;
    }

-- with a machine more
abbrev pub knowing : Setting → List ℕ → Definition → Setting
knowing s name machine = record { machines = with_machine s.machines name machine; table = s.table; schema = s.schema }

pub extended : (s : Setting) (name : List ℕ) (machine : Definition) → s.machines name ≡ None → ExtendsSetting s (knowing s name machine)
extended s name machine none = record { table = refl; schema = refl; machines = known }
  where
    known : (n : List ℕ) (d : Definition) → s.machines n ≡ Some d → with_machine s.machines name machine n ≡ Some d
    known n d h = by_bool (is_text name n) _
        (λ k. let e = ap s.machines (same_text name n (sym k)) in absurd (cc))
        (λ k. rw k h)

module _ (log : Log) (s : Setting) (w : World) (ts : List TakenStep) (name : List ℕ) (machine : Definition) (h : StandsAt log s w ts) (none : s.machines name ≡ None) where
  -- a run in the setting is one where the machine is defined
  run_knowing : (base v : World) (ns : List Step) (us : List TakenStep) → run (steps s) base ns ≡ Some (v, us) → run (steps (knowing s name machine)) base ns ≡ Some (v, us)
  run_knowing base v ns us runs =
      subst (λ l. run (steps (knowing s name machine)) base l ≡ Some (v, us)) (run_names (steps s) ns base v us runs)
      (to_run (steps (knowing s name machine)) us base v (runs_more s (knowing s name machine) (extended s name machine none) us base v (from_run (steps s) us base v (run_is (steps s) ns base v us runs))))

  setting_defined : setting_in log.begin (after_entry log.begin (remainder log) (Define name machine)) ≡ knowing s name machine
  setting_defined = ap (λ (x : Setting). knowing x name machine) h.setting

  pub stands_defined : StandsAt (appended log (Define name machine)) (knowing s name machine) w ts
  stands_defined =
      stands_next log (Define name machine) (knowing s name machine) (base_of log) w h.before ts setting_defined
      (run_knowing (first_world log.begin) (base_of log) (settled log) h.before h.leads)
      (run_knowing (base_of log) w (remaining log) ts (steps_run log s w ts h))

  -- and the base is as it was
  pub base_defined : base_of (appended log (Define name machine)) ≡ base_of log
  base_defined =
      ap (base_in log.begin) (remainder_next log (Define name machine))
      ∙ base_given log.begin (after_entry log.begin (remainder log) (Define name machine)) (knowing s name machine) (base_of log) h.before setting_defined
      (run_knowing (first_world log.begin) (base_of log) (settled log) h.before h.leads)

pub stands_started : (log : Log) (s : Setting) (w v : World) (ts : List TakenStep) (exec : Thread) (machine : List ℕ) (input : Json) (f : Fact) → StandsAt log s w ts → take_step s w (started exec.exec machine input) ≡ Some (v, f)
    → StandsAt (appended log (Start exec machine input)) s v (ts ++ taken_in w (started exec.exec machine input) f ∷ [])
stands_started log s w v ts exec machine input f h k =
    stands_next log (Start exec machine input) s (base_of log) v h.before (ts ++ taken_in w (started exec.exec machine input) f ∷ []) h.setting h.leads
    (run_then (steps s) (remaining log) (base_of log) w v ts (started exec.exec machine input) f (steps_run log s w ts h) k)

pub stands_moved : (log : Log) (s : Setting) (w v : World) (ts : List TakenStep) (name : StepName) (kind : Kind) (f : Fact) → StandsAt log s w ts → take_step s w (moved name) ≡ Some (v, f)
    → StandsAt (appended log (Stepped name kind)) s v (ts ++ taken_in w (moved name) f ∷ [])
stands_moved log s w v ts name kind f h k =
    stands_next log (Stepped name kind) s (base_of log) v h.before (ts ++ taken_in w (moved name) f ∷ []) h.setting h.leads
    (run_then (steps s) (remaining log) (base_of log) w v ts (moved name) f (steps_run log s w ts h) k)

or_false : (b : Bool) → (b || false) ≡ b
or_false true = refl
or_false false = refl

-- the steps but a step are those of its past without it
but_one : (s : Setting) (t : TakenStep) (ts : List TakenStep) → names_of (steps s) (without (steps s) (t ∷ []) ts) ≡ steps_but (name_of t.step) (names_of (steps s) ts)
but_one s t ts =
    names-without (steps s) (t ∷ []) ts
    ∙ filter-same (λ n. not (is_same_step (name_of t.step) (name_of n) || false)) (λ n. not (is_same_step (name_of t.step) (name_of n))) (names_of (steps s) ts) (λ n i. ap not (or_false (is_same_step (name_of t.step) (name_of n))))

pub stands_undone : (log : Log) (s : Setting) (w : World) (ts : List TakenStep) (name : StepName) (t : TakenStep) → StandsAt log s w ts → IsMaximal (steps s) ts t → name_of t.step ≡ name
    → StandsAt (appended log (Undo name)) s (undone (steps s) w t) (without (steps s) (t ∷ []) ts)
stands_undone log s w ts name t h free e =
    stands_next log (Undo name) s (base_of log) (undone (steps s) w t) h.before (without (steps s) (t ∷ []) ts) h.setting h.leads
    (subst (λ l. run (steps s) (base_of log) l ≡ Some (undone (steps s) w t, without (steps s) (t ∷ []) ts))
    (but_one s t ts ∙ ap₂ (λ (n : StepName) (l : List Step). steps_but n l) e (names_there log s w ts h))
    (undo_free (steps s) (base_of log) (steps_have_names s (base_of log) (from_start log s w ts h)) (steps_are_reversible s (base_of log) (from_start log s w ts h)) w ts t (is_run log s w ts h) free))

pub rolled_there : (log : Log) (s : Setting) (w : World) (ts : List TakenStep) (name : StepName) → StandsAt log s w ts
    → rolled_back log.begin (remainder log) name ≡ names_of (steps s) (without (steps s) (consequences (steps s) ts (moved name)) ts)
unfolding rolled_back consequences_in
rolled_there log s w ts name h = ap₂ (λ (x : Setting) (l : List TakenStep). names_of (steps x) (without (steps x) (consequences (steps x) l (moved name)) l)) h.setting (past_there log s w ts h)

pub stands_rolled : (log : Log) (s : Setting) (w : World) (ts : List TakenStep) (name : StepName) (undone_names : List StepName) (t : TakenStep) → StandsAt log s w ts → In t ts → name_of t.step ≡ name
    → StandsAt (appended log (Rollback name undone_names)) s (undo_each (steps s) w (reverse (consequences (steps s) ts t.step))) (without (steps s) (consequences (steps s) ts t.step) ts)
stands_rolled log s w ts name undone_names t h i e =
    let all = consequences (steps s) ts t.step in
    stands_next log (Rollback name undone_names) s (base_of log) (undo_each (steps s) w (reverse all)) h.before (without (steps s) all ts) h.setting h.leads
    (subst (λ l. run (steps s) (base_of log) l ≡ Some (undo_each (steps s) w (reverse all), without (steps s) all ts))
    (ap (λ (l : List TakenStep). names_of (steps s) (without (steps s) l ts)) (after_same s t.step (moved name) ts e) ∙ sym (rolled_there log s w ts name h))
    (after_undoes (steps s) (base_of log) (steps_have_names s (base_of log) (from_start log s w ts h)) (steps_are_reversible s (base_of log) (from_start log s w ts h)) w ts t (is_run log s w ts h) i).1)

-- what remained is settled: the log stands where it stood, at its new base
pub stands_settled : (log : Log) (s : Setting) (w : World) (ts : List TakenStep) → StandsAt log s w ts → StandsAt (appended log Settle) s w []
stands_settled log s w ts h = stands_next log Settle s w w (h.before ++ ts) [] h.setting (settled_run log s w ts h) refl

-- a hold moves nothing
pub stands_held : (log : Log) (s : Setting) (w : World) (ts : List TakenStep) (name : StepName) (count : ℕ) → StandsAt log s w ts → StandsAt (appended log (Hold name count)) s w ts
stands_held log s w ts name count h = stands_next log (Hold name count) s (base_of log) w h.before ts h.setting h.leads (steps_run log s w ts h)

pub base_settled : (log : Log) (s : Setting) (w : World) (ts : List TakenStep) → StandsAt log s w ts → base_of (appended log Settle) ≡ w
base_settled log s w ts h = let k = stands_settled log s w ts h in from_run (steps s) [] (base_of (appended log Settle)) w (is_run (appended log Settle) s w [] k)
