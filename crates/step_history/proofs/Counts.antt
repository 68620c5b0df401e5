-- How far the frames of a history count: no further than its steps are many.
use Rattle.std.proofs.Common.{◌≡◌, ◌≤◌, arith, ℕ, ◌+◌, nat_le, cond, codes, Bool, true, false, List, [], ◌∷◌, ◌++◌, length, zero, suc, refl, ap, sym, subst, ◌∙◌, inl, inr, Option, None, Some, Result, Ok, Err}
use Rattle.std.specs.Prelude.{◌⊎◌, option_map, is_some, slice_get, if◌then◌else◌}
use Rattle.std.proofs.lemmas.Option.{same_Some}
use Rattle.json_tree.specs.Data.{Data}
use Rattle.json_tree.specs.View.{data_of}
use Rattle.attr_values.specs.declared.key.Key.{Key}
use Rattle.item_store.specs.Calls.{call_of}
use Rattle.item_store.specs.Table as table
use Rattle.item_store.specs.declared.access.AccessMode.{AccessMode}
use Rattle.item_store.specs.declared.call.Call as call
use Rattle.asl_errors.specs.declared.errors.ErrorHandling.{ErrorHandling}
use Rattle.asl_tree.specs.Definition.{Definition}
use Rattle.asl_tree.specs.declared.state.Map.{Map}
use Rattle.asl_tree.specs.declared.state.State.{State}
use Rattle.asl_tree.specs.declared.state.State.TheVariants as state
use Rattle.asl_states.specs.declared.state.Task.{Task}
use Rattle.asl_forward.specs.Forks.{branch_frame, with_others, begins_branch, frames_from, parallel_frames, element_frames, element_input, counted_frames, elements, map_frames}
use Rattle.asl_forward.specs.Outcomes.{outcome_of_call, task_turn, forks, fork_of, turn_of, turn, action_of}
use Rattle.asl_forward.specs.Results.{Work, state_work, after_join, after_answer}
use Rattle.asl_forward.specs.Processing.{effective, within_levels}
use Rattle.asl_frames.specs.Turn.{Location, first_frame}
use Rattle.asl_frames.specs.declared.frame.Fault.{Fault}
use Rattle.asl_frames.specs.declared.frame.Frame.{Frame}
use Rattle.asl_frames.specs.declared.frame.Phase.{Phase}
use Rattle.asl_frames.specs.declared.frame.Phase.TheVariants.{Ready, Parked, Done, Failed}
use Rattle.asl_forward.specs.declared.prepared.Outcome.{Outcome}
use Rattle.asl_forward.specs.declared.prepared.Outcome.TheVariants as outcome
use Rattle.saved_steps.specs.FlatMap.{is_parked}
use Rattle.saved_steps.specs.Paths.{Path, rest_after}
use Rattle.step_names.specs.Thread.{Thread, execution}
use Rattle.step_names.specs.declared.step.StepName.{StepName}
use Rattle.saved_steps.specs.Effects.{Effect, next_step, own_effect, called, call_effect, effect_of_turn, kids, first_fault, outputs, join_effect, close_effect, effect_in, stands, frame_effect, move_effect, if_numbered, effect_of}
use Rattle.saved_steps.specs.Held.{world_view}
use Rattle.saved_steps.specs.Run.{begun_at, after_effect, take_step}
use Rattle.saved_steps.specs.Steps.{Step, started, moved, start_name, makes, closes}
use Rattle.saved_steps.specs.World.{Setting, World, is_same_thread}
use Rattle.saved_steps.specs.declared.fact.Fact.{Fact}
use Rattle.saved_steps.specs.declared.fact.Kind.TheVariants.{Start, Join}
use Rattle.trace_theory.specs.Traces.{IsRun}
use Rattle.trace_theory.proofs.Base.{run_from}
use Rattle.trace_theory.proofs.Lists.{by_bool}
use Rattle.trace_theory.proofs.Runs.{and_then_some, map_some, Runs, from_run}
use Rattle.depends.specs.Instance.{steps}
use Rattle.depends.specs.Laws.{HasNoFrames}
use Rattle.saved_steps.proofs.Begun.{turn_told}
use Rattle.depends.proofs.Planned.{planned, numbered}
use Rattle.depends.proofs.Worlds.{effect_taken}
use Rattle.step_history.specs.History.{TakenStep, IsHistory}
use Rattle.step_history.specs.declared.history.History.{History}

-- ---- branches begin with a count of 0

abbrev Fresh : List Frame → Type 0
Fresh fs = (i : ℕ) (g : Frame) → slice_get fs i ≡ Some g → (g.count ≡ 0) × (g.phase ≡ Ready)

abbrev AllFresh : Result (List Frame) (List ℕ) → Type 0
AllFresh (Ok fs) = Fresh fs
AllFresh (Err error) = Unit {0}

none_fresh : Fresh []
none_fresh i g h = cc

more_fresh : (f : Frame) (fs : List Frame) → f.count ≡ 0 → f.phase ≡ Ready → Fresh fs → Fresh (f ∷ fs)
more_fresh f fs c r h zero g k = let e : f ≡ g = same_Some f g k in (ap (λ (x : Frame). x.count) (sym e) ∙ c, ap (λ (x : Frame). x.phase) (sym e) ∙ r)
more_fresh f fs c r h (suc i) g k = h i g k

others_fresh : (others : Result (List Frame) (List ℕ)) (f : Frame) (d : Definition) (branch : ℕ) (worked : Result Data (List ℕ)) → AllFresh others → AllFresh (with_others others (begins_branch f d branch worked))
others_fresh (Ok fs) f d branch (Ok input) h = more_fresh (branch_frame f d branch input) fs refl refl h
others_fresh (Err error) f d branch (Ok input) h = tt
others_fresh (Ok fs) f d branch (Err error) h = tt
others_fresh (Err other) f d branch (Err error) h = tt

from_fresh : (f : Frame) (branch : ℕ) (ds : List Definition) (input : Data) → AllFresh (frames_from f branch ds input)
from_fresh f branch [] input = none_fresh
from_fresh f branch (d ∷ ds) input = others_fresh (frames_from f (branch + 1) ds input) f d branch (within_levels input) (from_fresh f (branch + 1) ds input)

elements_fresh : (s : Map) (f : Frame) (input : Data) (index : ℕ) (xs : List Data) → AllFresh (element_frames s f input index xs)
elements_fresh s f input index [] = none_fresh
elements_fresh s f input index (x ∷ xs) = others_fresh (element_frames s f input (index + 1) xs) f s.processor 0 (element_input s.item_selector input index x) (elements_fresh s f input (index + 1) xs)

few_fresh : (b : Bool) (fs : Result (List Frame) (List ℕ)) (error : List ℕ) → AllFresh fs → AllFresh (cond b fs (Err error))
few_fresh true fs error h = h
few_fresh false fs error h = tt

counted_fresh : (s : Map) (f : Frame) (input : Data) (xs : Result (List Data) (List ℕ)) → AllFresh (counted_frames s f input xs)
counted_fresh s f input (Ok xs) = few_fresh (nat_le (length xs) 4096) (element_frames s f input 0 xs) (codes "States.Runtime") (elements_fresh s f input 0 xs)
counted_fresh s f input (Err error) = tt

fork_fresh : (begin : Frame → Data → Result (List Frame) (List ℕ)) (f : Frame) (worked : Result Data (List ℕ)) → ((input : Data) → AllFresh (begin f input)) → AllFresh (fork_of begin f worked)
fork_fresh begin f (Ok input) h = h input
fork_fresh begin f (Err error) h = tt

abbrev TurnFresh : Outcome → Type 0
TurnFresh (outcome.Next g) = Unit {0}
TurnFresh (outcome.Call c) = Unit {0}
TurnFresh (outcome.Fork g fs) = Fresh fs

forks_fresh : (level : Definition) (errors : ErrorHandling) (f : Frame) (bound : ℕ) (fs : Result (List Frame) (List ℕ)) → AllFresh fs → TurnFresh (forks level errors f bound fs)
forks_fresh level errors f bound (Ok fs) h = h
forks_fresh level errors f bound (Err error) h = tt

asks_fresh : (level : Definition) (s : Task) (f : Frame) (c : Option call.Call) → TurnFresh (outcome_of_call level s f c)
asks_fresh level s f (Some c) = tt
asks_fresh level s f None = tt

task_fresh : (level : Definition) (s : Task) (f : Frame) (worked : Result Data (List ℕ)) → TurnFresh (task_turn level s f worked)
task_fresh level s f (Ok input) = asks_fresh level s f (call_of (action_of s.resource) input)
task_fresh level s f (Err error) = tt

turn_fresh : (level : Definition) (s : State) (f : Frame) → TurnFresh (turn_of level s f)
turn_fresh level (state.Task s) f = task_fresh level s f (effective s.processing (data_of f.raw))
turn_fresh level (state.Parallel s) f =
    forks_fresh level s.errors f 0 (fork_of (parallel_frames s) f (effective s.processing (data_of f.raw))) (fork_fresh (parallel_frames s) f (effective s.processing (data_of f.raw)) (λ input. from_fresh f 0 s.branches input))
turn_fresh level (state.Map s) f =
    forks_fresh level s.errors f s.max_concurrency (fork_of (map_frames s) f (effective s.processing (data_of f.raw))) (fork_fresh (map_frames s) f (effective s.processing (data_of f.raw)) (λ input. counted_fresh s f input (elements s.items_path input)))
turn_fresh level (state.Pass s) f = tt
turn_fresh level (state.Choice s) f = tt
turn_fresh level (state.Wait s) f = tt
turn_fresh level (state.Succeed s) f = tt
turn_fresh level (state.Fail s) f = tt

-- ---- steps

abbrev EffectFresh : Effect → Type 0
EffectFresh d = Fresh d.branches

called_fresh : (name : StepName) (g : Frame) (items : table.Table) (access : Option (Key × AccessMode)) → EffectFresh (called name g items access)
called_fresh name g items None = none_fresh
called_fresh name g items (Some (key, mode)) = none_fresh

step_turn_fresh : (s : Setting) (w : World) (name : StepName) (at : Location) (f : Frame) (o : Outcome) (d : Effect) → TurnFresh o → effect_of_turn s w name at f o ≡ Some d → EffectFresh d
step_turn_fresh s w name at f (outcome.Next g) d t h = subst EffectFresh (same_Some _ _ h) none_fresh
step_turn_fresh s w name at f (outcome.Fork g branches) d t h = subst EffectFresh (same_Some _ _ h) t
step_turn_fresh s w name at f (outcome.Call c) d t h =
    let m = map_some (λ (work : Work). call_effect name at.0 work f (table.in_form s.table s.schema w.items c)) (state_work at.1) d h in
    let o = table.in_form s.table s.schema w.items c in
    subst EffectFresh m.2 (called_fresh name (after_answer at.0 m.0 f o.answer) o.items o.access)

close_fresh : (name : StepName) (at : Location) (f : Frame) (fault : Option Fault) (there : Option (List Data)) (d : Effect) → close_effect name at f fault there ≡ Some d → EffectFresh d
close_fresh name at f (Some fault) there d h = subst EffectFresh (same_Some _ _ h) none_fresh
close_fresh name at f None there d h =
    let j = and_then_some (join_effect name at f) there d h in
    let m = map_some (λ (work : Work). own_effect Join name (after_join at.0 work f j.0)) (state_work at.1) d j.2 in
    subst EffectFresh m.2 none_fresh

phase_fresh : (s : Setting) (w : World) (t : Thread) (at : Location) (f : Frame) (p : Phase) (d : Effect) → effect_in s w t at f p ≡ Some d → EffectFresh d
phase_fresh s w t at f Ready d h =
    let k = turn_told w.frames t f (effect_of_turn s w (next_step t f) at f (turn at f)) d h in
    subst EffectFresh k.told (step_turn_fresh s w (next_step t f) at f (turn at f) k.effect_of (turn_fresh at.0 at.1 f) k.is)
phase_fresh s w t at f (Parked n bound) d h = close_fresh (next_step t f) at f (first_fault (kids w t f n)) (outputs (kids w t f n)) d h
phase_fresh s w t at f (Done output) d h = cc
phase_fresh s w t at f (Failed fault) d h = cc

unless_there : {A : Type 0} (b : Option A) (o : Option Effect) (d : Effect) → (if is_some b then None else o) ≡ Some d → o ≡ Some d
unless_there None o d h = h
unless_there (Some x) o d h = cc

-- the thread had a frame, or the step starts its execution
abbrev GoesOn : World → Effect → Type 0
GoesOn w d = ((f : Frame) × (w.frames d.fact.name.thread ≡ Some f)) ⊎ ((d.fact.name.no ≡ 0) × (is_parked d.frame.phase ≡ false))

fresh_step : (s : Setting) (w : World) (step : Step) (d : Effect) → effect_of s w step ≡ Some d → EffectFresh d × GoesOn w d
fresh_step s w (started exec machine input) d h =
    let k = unless_there (w.frames (execution exec)) (option_map (λ (m : Definition). own_effect Start (start_name exec) (first_frame machine m input)) (s.machines machine)) d h in
    let m = map_some (λ (m : Definition). own_effect Start (start_name exec) (first_frame machine m input)) (s.machines machine) d k in
    subst (λ (e : Effect). EffectFresh e × GoesOn w e) m.2 (none_fresh, inr (refl, refl))
fresh_step s w (moved name) d h =
    let k = and_then_some (if_numbered name.no) (move_effect s w name.thread) d h in
    let n = numbered k.0 d name.no k.2 in
    let f = and_then_some (frame_effect s w name.thread) (w.frames name.thread) k.0 k.1 in
    let a = and_then_some (λ (at : Location). effect_in s w name.thread at f.0 f.0.phase) (stands s f.0) k.0 f.2 in
    (subst EffectFresh n.1 (phase_fresh s w name.thread a.0 f.0 f.0.phase k.0 a.2), inl (f.0, ap (λ (x : StepName). w.frames x.thread) (planned s w (moved name) d h).0 ∙ f.1))

-- ---- worlds

-- a frame counts so far at most, and a parked one has made a step
pub record CountIn (n : ℕ) (f : Frame) : Type 0 where
  pub bound : f.count ≤ n
  pub parked : is_parked f.phase ≡ true → 1 ≤ f.count

abbrev pub Counted : ℕ → World → Type 0
Counted n w = (t : Thread) (f : Frame) → w.frames t ≡ Some f → CountIn n f

begun_counts : (branches : List Frame) → Fresh branches → (n : ℕ) (o : Option Path) (f : Frame) → begun_at branches o ≡ Some f → CountIn n f
begun_counts branches fresh n (Some ((k, i) ∷ [])) f h =
    let e = fresh i f h in
    record { bound = (let c = e.0 in omega (arith, c)); parked = λ p. let q = ap is_parked e.1 in cc }
begun_counts branches fresh n (Some ((k, i) ∷ b ∷ q)) f h = cc
begun_counts branches fresh n (Some []) f h = cc
begun_counts branches fresh n None f h = cc

counted_step : (s : Setting) (w v : World) (step : Step) (fact : Fact) (n : ℕ) → Counted n w → take_step s w step ≡ Some (v, fact) → Counted (n + 1) v
counted_step s w v step fact n c h =
    let k = effect_taken s w v step fact h in
    subst (Counted (n + 1)) k.2 (after_it k.0 k.1)
  where
    own : (d : Effect) → effect_of s w step ≡ Some d → CountIn (n + 1) d.frame
    own d e =
        let p = (planned s w step d e).1 in
        let at = p.count in
        elim (fresh_step s w step d e).1 [
          | inl f ↦ (let no = (p.follows f.0 f.1).0 in let b = (c d.fact.name.thread f.0 f.1).bound in record { bound = omega (arith, at, no, b); parked = λ q. omega (arith, at, no) })
          | inr z ↦ (let no = z.0 in record { bound = omega (arith, at, no); parked = λ q. let r = z.1 in cc })
        ]

    after_it : (d : Effect) → effect_of s w step ≡ Some d → Counted (n + 1) (after_effect w d)
    after_it d e t f there =
        by_bool (is_same_thread d.fact.name.thread t) (CountIn (n + 1) f)
        (λ j. subst (CountIn (n + 1)) (same_Some d.frame f (rw j at there)) (own d e))
        (λ j. by_bool (makes d.fact t) (CountIn (n + 1) f)
        (λ i. begun_counts d.branches (fresh_step s w step d e).0 (n + 1) (rest_after d.fact.name.thread.path t.path) f (rw (j, i) at there))
        (λ i. by_bool (closes d.fact t) (CountIn (n + 1) f)
        (λ l. let none = rw (j, i, l) at there in cc)
        (λ l. let b = c t f (rw (j, i, l) at there) in let m = b.bound in record { bound = omega (arith, m); parked = b.parked })))

counted_along : (s : Setting) (ts : List TakenStep) (w v : World) (n : ℕ) → Counted n w → Runs (steps s) w ts v → Counted (n + length ts) v
counted_along s [] w v n c h = subst (λ (k : ℕ). Counted k v) (let e : n ≡ n + 0 = omega arith in e) (subst (Counted n) h c)
counted_along s (t ∷ ts) w v n c h =
    let e : n + 1 + length ts ≡ n + suc (length ts) = omega arith in
    subst (λ (k : ℕ). Counted k v) e (counted_along s ts h.0 v (n + 1) (counted_step s w h.0 t.step t.fact n c h.1.0) h.2)

no_counts : (first : World) → HasNoFrames first → Counted 0 first
no_counts first none t f k = let n = sym (none t) ∙ k in cc

-- no frame counts further than a run from a world without executions has steps
pub counted_run : (s : Setting) (first v : World) (ts : List TakenStep) → HasNoFrames first → IsRun (steps s) first ts v → Counted (length ts) v
counted_run s first v ts none runs =
    let e : 0 + length ts ≡ length ts = omega arith in
    subst (λ (k : ℕ). Counted k v) e (counted_along s ts first v 0 (no_counts first none) (from_run (steps s) ts first v runs))

-- a parked frame of a history has made a step
pub parked_moved : (s : Setting) (base : World) (ts : List TakenStep) (h : History) → IsHistory s base ts h → (t : Thread) (f : Frame) → (world_view h.world).frames t ≡ Some f → is_parked f.phase ≡ true → 1 ≤ f.count
parked_moved s base ts h is t f there =
    (counted_run s is.from.0 (world_view h.world) (is.from.2.0 ++ ts) is.from.1 (run_from (steps s) is.from.0 base is.from.2 ts (world_view h.world) is.runs) t f there).parked

pub counted : (s : Setting) (base : World) (ts : List TakenStep) (h : History) (n : ℕ) → ((u : Thread) (g : Frame) → base.frames u ≡ Some g → g.count ≤ n) → IsHistory s base ts h → Counted (n + length ts) (world_view h.world)
counted s base ts h n low is =
    let c = counted_run s is.from.0 base is.from.2.0 is.from.1 is.from.2.1 in
    counted_along s ts base (world_view h.world) n (λ t f there. record { bound = low t f there; parked = (c t f there).parked }) (from_run (steps s) ts base (world_view h.world) is.runs)
