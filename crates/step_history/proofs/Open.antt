-- A step that isn't a fork leaves its thread with a frame that isn't parked.
use Rattle.std.proofs.Common.{◌≡◌, ℕ, false, List, refl, subst, Option, None, Some, Result, Ok, Err}
use Rattle.std.specs.Prelude.{option_map, is_some, if◌then◌else◌}
use Rattle.std.proofs.lemmas.Option.{same_Some}
use Rattle.json_tree.specs.Data.{Data, list, items_of}
use Rattle.json_tree.specs.View.{data_of}
use Rattle.attr_values.specs.declared.key.Key.{Key}
use Rattle.item_store.specs.Calls.{call_of}
use Rattle.item_store.specs.Deciding.{Reply, given, refused}
use Rattle.item_store.specs.Faults.{validation}
use Rattle.item_store.specs.Table as table
use Rattle.item_store.specs.declared.access.AccessMode.{AccessMode}
use Rattle.item_store.specs.declared.call.Call as call
use Rattle.asl_errors.specs.declared.errors.Catcher.{Catcher}
use Rattle.asl_errors.specs.declared.errors.ErrorHandling.{ErrorHandling}
use Rattle.asl_tree.specs.Definition.{Definition}
use Rattle.asl_states.specs.declared.state.Choice.{Choice}
use Rattle.asl_states.specs.declared.state.Processing.{Processing}
use Rattle.asl_tree.specs.declared.state.State.{State}
use Rattle.asl_tree.specs.declared.state.State.TheVariants as state
use Rattle.asl_states.specs.declared.state.Task.{Task}
use Rattle.asl_states.specs.declared.state.Transition.{Transition}
use Rattle.asl_states.specs.declared.state.Transition.TheVariants.{Next, End}
use Rattle.asl_forward.specs.Choosing.{chosen}
use Rattle.asl_forward.specs.Forks.{parallel_frames, map_frames}
use Rattle.asl_forward.specs.Handling.{retried, catcher_for, error_object}
use Rattle.asl_forward.specs.Outcomes.{action_of, outcome_of_call, task_turn, forks, fork_of, turn_of, turn}
use Rattle.asl_forward.specs.Results.{Work, state_work, on_catch, on_retry, handled, errors_of, taken_by, after_branch, call_fault, comes_to, after_result, after_answer, after_join}
use Rattle.asl_forward.specs.Processing.{and_then, effective, within_levels, passed_on, placed_in}
use Rattle.asl_frames.specs.Turn.{Location, go_on, ends, own_fault, goes_where, choice_frame, next_frame, pass_output, idle_output, first_frame}
use Rattle.asl_frames.specs.declared.frame.Fault.{Fault}
use Rattle.asl_frames.specs.declared.frame.Frame.{Frame}
use Rattle.asl_frames.specs.declared.frame.Phase.{Phase}
use Rattle.asl_frames.specs.declared.frame.Phase.TheVariants.{Ready, Parked, Done, Failed}
use Rattle.asl_forward.specs.declared.prepared.Outcome.{Outcome}
use Rattle.asl_forward.specs.declared.prepared.Outcome.TheVariants as outcome
use Rattle.step_names.specs.Thread.{Thread, execution}
use Rattle.step_names.specs.declared.step.StepName.{StepName}
use Rattle.saved_steps.specs.Effects.{Effect, next_step, own_effect, called, call_effect, effect_of_turn, kids, first_fault, outputs, join_effect, close_effect, effect_in, stands, frame_effect, move_effect, if_numbered, effect_of}
use Rattle.saved_steps.specs.Made.{is_unparked}
use Rattle.saved_steps.specs.Steps.{Step, started, moved, start_name, is_fork}
use Rattle.saved_steps.specs.World.{Setting, World}
use Rattle.saved_steps.specs.declared.fact.Kind.TheVariants.{Start, Join}
use Rattle.trace_theory.proofs.Runs.{and_then_some, map_some}
use Rattle.saved_steps.proofs.Begun.{turn_told}
use Rattle.depends.proofs.Planned.{numbered}

-- ---- frames

on_open : (level : Definition) (t : Transition) (f : Frame) (output : Data) → is_unparked (go_on level t f output)
on_open level (Next name) f output = refl
on_open level End f output = refl

ends_open : (level : Definition) (t : Transition) (f : Frame) (worked : Result Data (List ℕ)) → is_unparked (ends level t f worked)
ends_open level t f (Ok output) = on_open level t f output
ends_open level t f (Err error) = refl

catch_open : (level : Definition) (f : Frame) (fault : Fault) (c : Option Catcher) → is_unparked (on_catch level f fault c)
catch_open level f fault None = refl
catch_open level f fault (Some c) = ends_open level (Next c.next) f (and_then within_levels (placed_in c.result_path (data_of f.raw) (error_object fault)))

retry_open : (level : Definition) (errors : ErrorHandling) (f : Frame) (fault : Fault) (counters : Option (List ℕ)) → is_unparked (on_retry level errors f fault counters)
retry_open level errors f fault (Some counters) = refl
retry_open level errors f fault None = catch_open level f fault (catcher_for errors.catchers fault)

handled_open : (level : Definition) (errors : ErrorHandling) (f : Frame) (fault : Fault) → is_unparked (handled level errors f fault)
handled_open level errors f fault = retry_open level errors f fault (retried errors.retriers f.retries fault)

comes_open : (level : Definition) (w : Work) (f : Frame) (worked : Result Data (List ℕ)) → is_unparked (comes_to level w f worked)
comes_open level w f (Ok output) = on_open level w.2 f output
comes_open level w f (Err error) = handled_open level w.1 f (own_fault error)

result_open : (level : Definition) (w : Work) (f : Frame) (result : Data) → is_unparked (after_result level w f result)
result_open level w f result = comes_open level w f (passed_on w.0 (data_of f.raw) result)

answer_open : (level : Definition) (w : Work) (f : Frame) (reply : Reply) → is_unparked (after_answer level w f reply)
answer_open level w f (given result) = result_open level w f result
answer_open level w f (refused error) = handled_open level w.1 f (call_fault error)

pub join_open : (level : Definition) (w : Work) (f : Frame) (ds : List Data) → is_unparked (after_join level w f ds)
join_open level w f ds = result_open level w f (list (items_of ds))

pub branch_open : (at : Location) (f : Frame) (fault : Fault) → is_unparked (after_branch at f fault)
branch_open at f fault = handled_open at.0 (errors_of at.1) f (taken_by at.1 fault)

where_open : (level : Definition) (p : Processing) (f : Frame) (input : Data) (name : Result (List ℕ) (List ℕ)) → is_unparked (goes_where level p f input name)
where_open level p f input (Ok name) = ends_open level (Next name) f (passed_on p (data_of f.raw) input)
where_open level p f input (Err error) = refl

choice_open : (level : Definition) (s : Choice) (f : Frame) (worked : Result Data (List ℕ)) → is_unparked (choice_frame level s f worked)
choice_open level s f (Ok input) = where_open level s.processing f input (chosen s.rules s.default input)
choice_open level s f (Err error) = refl

next_open : (level : Definition) (s : State) (f : Frame) → is_unparked (next_frame level s f)
next_open level (state.Pass s) f = ends_open level s.transition f (pass_output s (data_of f.raw))
next_open level (state.Task s) f = refl
next_open level (state.Choice s) f = choice_open level s f (effective s.processing (data_of f.raw))
next_open level (state.Wait s) f = ends_open level s.transition f (idle_output s.processing (data_of f.raw))
next_open level (state.Succeed s) f = ends_open level End f (idle_output s.processing (data_of f.raw))
next_open level (state.Fail s) f = refl
next_open level (state.Parallel s) f = refl
next_open level (state.Map s) f = refl

-- ---- turns

-- the frame that a turn gives by itself isn't parked
abbrev GoesOn : Outcome → Type 0
GoesOn (outcome.Next g) = is_unparked g
GoesOn (outcome.Call c) = Unit {0}
GoesOn (outcome.Fork g branches) = Unit {0}

asks_open : (level : Definition) (s : Task) (f : Frame) (c : Option call.Call) → GoesOn (outcome_of_call level s f c)
asks_open level s f (Some c) = tt
asks_open level s f None = handled_open level s.errors f (call_fault validation)

task_open : (level : Definition) (s : Task) (f : Frame) (input : Result Data (List ℕ)) → GoesOn (task_turn level s f input)
task_open level s f (Ok input) = asks_open level s f (call_of (action_of s.resource) input)
task_open level s f (Err error) = handled_open level s.errors f (own_fault error)

forks_open : (level : Definition) (errors : ErrorHandling) (f : Frame) (bound : ℕ) (frames : Result (List Frame) (List ℕ)) → GoesOn (forks level errors f bound frames)
forks_open level errors f bound (Ok frames) = tt
forks_open level errors f bound (Err error) = handled_open level errors f (own_fault error)

turn_open : (level : Definition) (s : State) (f : Frame) → GoesOn (turn_of level s f)
turn_open level (state.Task s) f = task_open level s f (effective s.processing (data_of f.raw))
turn_open level (state.Parallel s) f = forks_open level s.errors f 0 (fork_of (parallel_frames s) f (effective s.processing (data_of f.raw)))
turn_open level (state.Map s) f = forks_open level s.errors f s.max_concurrency (fork_of (map_frames s) f (effective s.processing (data_of f.raw)))
turn_open level (state.Pass s) f = next_open level (state.Pass s) f
turn_open level (state.Choice s) f = next_open level (state.Choice s) f
turn_open level (state.Wait s) f = next_open level (state.Wait s) f
turn_open level (state.Succeed s) f = next_open level (state.Succeed s) f
turn_open level (state.Fail s) f = next_open level (state.Fail s) f

-- ---- steps

abbrev pub LeavesOpen : Effect → Type 0
LeavesOpen d = is_fork d.fact.kind ≡ false → is_unparked d.frame

called_open : (name : StepName) (g : Frame) (items : table.Table) (access : Option (Key × AccessMode)) → is_unparked g → LeavesOpen (called name g items access)
called_open name g items None h = λ k. h
called_open name g items (Some (key, mode)) h = λ k. h

step_turn_open : (s : Setting) (w : World) (name : StepName) (at : Location) (f : Frame) (o : Outcome) (d : Effect) → GoesOn o → effect_of_turn s w name at f o ≡ Some d → LeavesOpen d
step_turn_open s w name at f (outcome.Next g) d t h = subst LeavesOpen (same_Some _ _ h) (λ k. t)
step_turn_open s w name at f (outcome.Fork g branches) d t h = subst LeavesOpen (same_Some _ _ h) (λ k. cc)
step_turn_open s w name at f (outcome.Call c) d t h =
    let m = map_some (λ (work : Work). call_effect name at.0 work f (table.in_form s.table s.schema w.items c)) (state_work at.1) d h in
    let o = table.in_form s.table s.schema w.items c in
    subst LeavesOpen m.2 (called_open name (after_answer at.0 m.0 f o.answer) o.items o.access (answer_open at.0 m.0 f o.answer))

close_open : (name : StepName) (at : Location) (f : Frame) (fault : Option Fault) (there : Option (List Data)) (d : Effect) → close_effect name at f fault there ≡ Some d → LeavesOpen d
close_open name at f (Some fault) there d h = subst LeavesOpen (same_Some _ _ h) (λ k. branch_open at f fault)
close_open name at f None there d h =
    let j = and_then_some (join_effect name at f) there d h in
    let m = map_some (λ (work : Work). own_effect Join name (after_join at.0 work f j.0)) (state_work at.1) d j.2 in
    subst LeavesOpen m.2 (λ k. join_open at.0 m.0 f j.0)

phase_open : (s : Setting) (w : World) (t : Thread) (at : Location) (f : Frame) (p : Phase) (d : Effect) → effect_in s w t at f p ≡ Some d → LeavesOpen d
phase_open s w t at f Ready d h =
    let k = turn_told w.frames t f (effect_of_turn s w (next_step t f) at f (turn at f)) d h in
    subst LeavesOpen k.told (step_turn_open s w (next_step t f) at f (turn at f) k.effect_of (turn_open at.0 at.1 f) k.is)
phase_open s w t at f (Parked n bound) d h = close_open (next_step t f) at f (first_fault (kids w t f n)) (outputs (kids w t f n)) d h
phase_open s w t at f (Done output) d h = cc
phase_open s w t at f (Failed fault) d h = cc

unless_there : {A : Type 0} (b : Option A) (o : Option Effect) (d : Effect) → (if is_some b then None else o) ≡ Some d → o ≡ Some d
unless_there None o d h = h
unless_there (Some x) o d h = cc

pub leaves_open : (s : Setting) (w : World) (step : Step) (d : Effect) → effect_of s w step ≡ Some d → LeavesOpen d
leaves_open s w (started exec machine input) d h =
    let k = unless_there (w.frames (execution exec)) (option_map (λ (m : Definition). own_effect Start (start_name exec) (first_frame machine m input)) (s.machines machine)) d h in
    let m = map_some (λ (m : Definition). own_effect Start (start_name exec) (first_frame machine m input)) (s.machines machine) d k in
    subst LeavesOpen m.2 (λ j. refl)
leaves_open s w (moved name) d h =
    let k = and_then_some (if_numbered name.no) (move_effect s w name.thread) d h in
    let n = numbered k.0 d name.no k.2 in
    let f = and_then_some (frame_effect s w name.thread) (w.frames name.thread) k.0 k.1 in
    let a = and_then_some (λ (at : Location). effect_in s w name.thread at f.0 f.0.phase) (stands s f.0) k.0 f.2 in
    subst LeavesOpen n.1 (phase_open s w name.thread a.0 f.0 f.0.phase k.0 a.2)
