-- What a move comes to: it counts one, a fork parks its thread, and a thread that is parked only closes its fork.
use Rattle.std.proofs.Common.{◌≡◌, ℕ, ◌+◌, Bool, true, false, List, refl, ap, sym, subst, ◌∙◌, inl, inr, Option, None, Some, Result, Ok, Err}
use Rattle.std.specs.Prelude.{◌⊎◌}
use Rattle.std.proofs.lemmas.Option.{same_Some}
use Rattle.json_tree.specs.Data.{Data, list, items_of}
use Rattle.json_tree.specs.View.{data_of}
use Rattle.attr_values.specs.declared.key.Key.{Key}
use Rattle.item_store.specs.Calls.{call_of}
use Rattle.item_store.specs.Deciding.{Reply, given, refused}
use Rattle.item_store.specs.Faults.{validation}
use Rattle.item_store.specs.Table as table
use Rattle.item_store.specs.declared.access.AccessMode.{AccessMode}
use Rattle.item_store.specs.declared.call.Call as call
use Rattle.saved_steps.specs.Catcher.{Catcher}
use Rattle.saved_steps.specs.ErrorHandling.{ErrorHandling}
use Rattle.saved_steps.specs.Definition.{Definition}
use Rattle.saved_steps.specs.State.{State}
use Rattle.saved_steps.specs.State.TheVariants as state
use Rattle.saved_steps.specs.Task.{Task}
use Rattle.saved_steps.specs.Transition.{Transition}
use Rattle.saved_steps.specs.Transition.TheVariants.{Next, End}
use Rattle.saved_steps.specs.Forks.{parallel_frames, map_frames}
use Rattle.saved_steps.specs.Handling.{retried, catcher_for, error_object}
use Rattle.saved_steps.specs.Outcomes.{action_of, outcome_of_call, task_turn, forks, fork_of, turn_of, turn}
use Rattle.saved_steps.specs.Results.{Work, state_work, on_catch, on_retry, handled, errors_of, taken_by, after_branch, call_fault, comes_to, after_result, after_answer, after_join}
use Rattle.saved_steps.specs.Processing.{and_then, effective, within_levels, passed_on, placed_in}
use Rattle.saved_steps.specs.Turn.{Location, ends, go_on, own_fault}
use Rattle.saved_steps.specs.Fault.{Fault}
use Rattle.saved_steps.specs.Frame.{Frame}
use Rattle.saved_steps.specs.Phase.{Phase}
use Rattle.saved_steps.specs.Phase.TheVariants.{Ready, Parked, Done, Failed}
use Rattle.saved_steps.specs.Outcome.{Outcome}
use Rattle.saved_steps.specs.Outcome.TheVariants as outcome
use Rattle.saved_steps.proofs.Turns.{next_frame-count}
use Rattle.step_names.specs.Thread.{Thread}
use Rattle.step_names.specs.declared.step.StepName.{StepName}
use Rattle.saved_steps.specs.Effects.{Effect, next_step, own_effect, called, call_effect, effect_of_turn, kids, first_fault, outputs, join_effect, close_effect, effect_in, stands, frame_effect, waits, first_bound}
use Rattle.saved_steps.specs.Steps.{is_fork, is_close}
use Rattle.saved_steps.specs.declared.fact.Kind.TheVariants.{Plain, Join, Terminate}
use Rattle.saved_steps.specs.World.{Setting, World}
use Rattle.saved_steps.specs.Ready.{is_done}
use Rattle.saved_steps.proofs.Begun.{turn_told}
use Rattle.trace_theory.proofs.Runs.{and_then_some, map_some}

abbrev pub is_parked : Phase → Bool
is_parked (Parked n bound) = true
is_parked Ready = false
is_parked (Done output) = false
is_parked (Failed fault) = false

-- ---- frames

pub go_on_count : (level : Definition) (t : Transition) (f : Frame) (output : Data) → (go_on level t f output).count ≡ f.count + 1
go_on_count level (Next name) f output = refl
go_on_count level End f output = refl

ends_count : (level : Definition) (t : Transition) (f : Frame) (worked : Result Data (List ℕ)) → (ends level t f worked).count ≡ f.count + 1
ends_count level t f (Ok output) = go_on_count level t f output
ends_count level t f (Err error) = refl

catch_count : (level : Definition) (f : Frame) (fault : Fault) (c : Option Catcher) → (on_catch level f fault c).count ≡ f.count + 1
catch_count level f fault None = refl
catch_count level f fault (Some c) = ends_count level (Next c.next) f (and_then within_levels (placed_in c.result_path (data_of f.raw) (error_object fault)))

retry_count : (level : Definition) (errors : ErrorHandling) (f : Frame) (fault : Fault) (counters : Option (List ℕ)) → (on_retry level errors f fault counters).count ≡ f.count + 1
retry_count level errors f fault (Some counters) = refl
retry_count level errors f fault None = catch_count level f fault (catcher_for errors.catchers fault)

pub handled_count : (level : Definition) (errors : ErrorHandling) (f : Frame) (fault : Fault) → (handled level errors f fault).count ≡ f.count + 1
handled_count level errors f fault = retry_count level errors f fault (retried errors.retriers f.retries fault)

comes_to_count : (level : Definition) (w : Work) (f : Frame) (worked : Result Data (List ℕ)) → (comes_to level w f worked).count ≡ f.count + 1
comes_to_count level w f (Ok output) = go_on_count level w.2 f output
comes_to_count level w f (Err error) = handled_count level w.1 f (own_fault error)

pub after_result_count : (level : Definition) (w : Work) (f : Frame) (result : Data) → (after_result level w f result).count ≡ f.count + 1
after_result_count level w f result = comes_to_count level w f (passed_on w.0 (data_of f.raw) result)

pub after_answer_count : (level : Definition) (w : Work) (f : Frame) (r : Reply) → (after_answer level w f r).count ≡ f.count + 1
after_answer_count level w f (given result) = after_result_count level w f result
after_answer_count level w f (refused error) = handled_count level w.1 f (call_fault error)

-- ---- turns

abbrev pub IsTurn : Frame → Outcome → Type 0
IsTurn f (outcome.Next g) = g.count ≡ f.count + 1
IsTurn f (outcome.Call c) = Unit {0}
IsTurn f (outcome.Fork g branches) = (g.count ≡ f.count + 1) × (is_parked g.phase ≡ true)

asked : (level : Definition) (s : Task) (f : Frame) (c : Option call.Call) → IsTurn f (outcome_of_call level s f c)
asked level s f (Some c) = tt
asked level s f None = handled_count level s.errors f (call_fault validation)

task_turned : (level : Definition) (s : Task) (f : Frame) (input : Result Data (List ℕ)) → IsTurn f (task_turn level s f input)
task_turned level s f (Ok input) = asked level s f (call_of (action_of s.resource) input)
task_turned level s f (Err error) = handled_count level s.errors f (own_fault error)

forked : (level : Definition) (errors : ErrorHandling) (f : Frame) (bound : ℕ) (frames : Result (List Frame) (List ℕ)) → IsTurn f (forks level errors f bound frames)
forked level errors f bound (Ok frames) = (refl, refl)
forked level errors f bound (Err error) = handled_count level errors f (own_fault error)

pub turned : (level : Definition) (s : State) (f : Frame) → IsTurn f (turn_of level s f)
turned level (state.Task s) f = task_turned level s f (effective s.processing (data_of f.raw))
turned level (state.Parallel s) f = forked level s.errors f 0 (fork_of (parallel_frames s) f (effective s.processing (data_of f.raw)))
turned level (state.Map s) f = forked level s.errors f s.max_concurrency (fork_of (map_frames s) f (effective s.processing (data_of f.raw)))
turned level (state.Pass s) f = next_frame-count level (state.Pass s) f
turned level (state.Choice s) f = next_frame-count level (state.Choice s) f
turned level (state.Wait s) f = next_frame-count level (state.Wait s) f
turned level (state.Succeed s) f = next_frame-count level (state.Succeed s) f
turned level (state.Fail s) f = next_frame-count level (state.Fail s) f

-- ---- moves

-- an effect of a frame's move
pub record IsMove (name : StepName) (f : Frame) (d : Effect) : Type 0 where
  pub named : d.fact.name ≡ name
  pub count : d.frame.count ≡ f.count + 1
  pub parks : is_fork d.fact.kind ≡ true → is_parked d.frame.phase ≡ true
  pub closes : is_parked f.phase ≡ true → is_close d.fact.kind ≡ true

module _ (name : StepName) (f : Frame) (ready : is_parked f.phase ≡ false) where
  plain_move : (g : Frame) → g.count ≡ f.count + 1 → IsMove name f (own_effect Plain name g)
  plain_move g count = record { named = refl; count = count; parks = λ h. cc; closes = λ h. cc }

  called_move : (g : Frame) (items : table.Table) (access : Option (Key × AccessMode)) → g.count ≡ f.count + 1 → IsMove name f (called name g items access)
  called_move g items None count = plain_move g count
  called_move g items (Some (key, mode)) count = record { named = refl; count = count; parks = λ h. cc; closes = λ h. cc }

  call_move : (level : Definition) (work : Work) (o : table.Outcome) → IsMove name f (call_effect name level work f o)
  call_move level work o = called_move (after_answer level work f o.answer) o.items o.access (after_answer_count level work f o.answer)

  turn_move : (s : Setting) (w : World) (at : Location) (o : Outcome) (d : Effect) → IsTurn f o → effect_of_turn s w name at f o ≡ Some d → IsMove name f d
  turn_move s w at (outcome.Next g) d t h = subst (IsMove name f) (same_Some _ _ h) (plain_move g t)
  turn_move s w at (outcome.Fork g branches) d t h = subst (IsMove name f) (same_Some _ _ h) (record { named = refl; count = t.0; parks = λ k. t.1; closes = λ k. cc })
  turn_move s w at (outcome.Call c) d t h =
      let m = map_some (λ (work : Work). call_effect name at.0 work f (table.in_form s.table s.schema w.items c)) (state_work at.1) d h in
      subst (IsMove name f) m.2 (call_move at.0 m.0 (table.in_form s.table s.schema w.items c))

-- an effect that closes the fork of a frame
pub close_move : (name : StepName) (at : Location) (f : Frame) (fault : Option Fault) (outputs_there : Option (List Data)) (d : Effect) → close_effect name at f fault outputs_there ≡ Some d → IsMove name f d × (is_close d.fact.kind ≡ true)
close_move name at f (Some fault) outputs_there d h =
    let own : IsMove name f (own_effect Terminate name (after_branch at f fault)) = record { named = refl; count = handled_count at.0 (errors_of at.1) f (taken_by at.1 fault); parks = λ k. cc; closes = λ k. refl } in
    subst (λ (e : Effect). IsMove name f e × (is_close e.fact.kind ≡ true)) (same_Some _ _ h) (own, refl)
close_move name at f None outputs_there d h =
    let j = and_then_some (join_effect name at f) outputs_there d h in
    let m = map_some (λ (work : Work). own_effect Join name (after_join at.0 work f j.0)) (state_work at.1) d j.2 in
    let own : IsMove name f (own_effect Join name (after_join at.0 m.0 f j.0)) = record { named = refl; count = after_result_count at.0 m.0 f (list (items_of j.0)); parks = λ k. cc; closes = λ k. refl } in
    subst (λ (e : Effect). IsMove name f e × (is_close e.fact.kind ≡ true)) m.2 (own, refl)

phase_move : (s : Setting) (w : World) (t : Thread) (at : Location) (f : Frame) (p : Phase) (d : Effect) → f.phase ≡ p → effect_in s w t at f p ≡ Some d → IsMove (next_step t f) f d
phase_move s w t at f Ready d e h =
    let k = turn_told w.frames t f (effect_of_turn s w (next_step t f) at f (turn at f)) d h in
    let m = turn_move (next_step t f) f (ap is_parked e) s w at (turn at f) k.effect_of (turned at.0 at.1 f) k.is in
    subst (IsMove (next_step t f) f) k.told (record { named = m.named; count = m.count; parks = m.parks; closes = m.closes })
phase_move s w t at f (Parked n bound) d e h = (close_move (next_step t f) at f (first_fault (kids w t f n)) (outputs (kids w t f n)) d h).0
phase_move s w t at f (Done output) d e h = cc
phase_move s w t at f (Failed fault) d e h = cc

pub frame_move : (s : Setting) (w : World) (t : Thread) (f : Frame) (d : Effect) → frame_effect s w t f ≡ Some d → IsMove (next_step t f) f d
frame_move s w t f d h =
    let k = and_then_some (λ at. effect_in s w t at f f.phase) (stands s f) d h in
    phase_move s w t k.0 f f.phase d refl k.2

-- ---- a bound

close_unbounded : (name : StepName) (at : Location) (f : Frame) (fault : Option Fault) (outputs_there : Option (List Data)) (d : Effect) → close_effect name at f fault outputs_there ≡ Some d → d.fact.bound ≡ 0
close_unbounded name at f (Some fault) outputs_there d h = subst (λ (e : Effect). e.fact.bound ≡ 0) (same_Some _ _ h) refl
close_unbounded name at f None outputs_there d h =
    let j = and_then_some (join_effect name at f) outputs_there d h in
    let m = map_some (λ (work : Work). own_effect Join name (after_join at.0 work f j.0)) (state_work at.1) d j.2 in
    subst (λ (e : Effect). e.fact.bound ≡ 0) m.2 refl

-- a move has the bound of the fork over it, whose thread may begin; or it has none
pub record IsBounded (w : World) (t : Thread) (f : Frame) (d : Effect) : Type 0 where
  pub begins : waits w.frames t f ≡ false
  pub bound : d.fact.bound ≡ first_bound w.frames t f

phase_bounded : (s : Setting) (w : World) (t : Thread) (at : Location) (f : Frame) (p : Phase) (d : Effect) → effect_in s w t at f p ≡ Some d → (d.fact.bound ≡ 0) ⊎ IsBounded w t f d
phase_bounded s w t at f Ready d h =
    let k = turn_told w.frames t f (effect_of_turn s w (next_step t f) at f (turn at f)) d h in
    inr (record { begins = k.begins; bound = subst (λ (e : Effect). e.fact.bound ≡ first_bound w.frames t f) k.told refl })
phase_bounded s w t at f (Parked n bound) d h = inl (close_unbounded (next_step t f) at f (first_fault (kids w t f n)) (outputs (kids w t f n)) d h)
phase_bounded s w t at f (Done output) d h = cc
phase_bounded s w t at f (Failed fault) d h = cc

phase_goes : (s : Setting) (w : World) (t : Thread) (at : Location) (f : Frame) (p : Phase) (d : Effect) → effect_in s w t at f p ≡ Some d → is_done p ≡ false
phase_goes s w t at f Ready d h = refl
phase_goes s w t at f (Parked n bound) d h = refl
phase_goes s w t at f (Done output) d h = cc
phase_goes s w t at f (Failed fault) d h = cc

pub frame_bounded : (s : Setting) (w : World) (t : Thread) (f : Frame) (d : Effect) → frame_effect s w t f ≡ Some d → ((d.fact.bound ≡ 0) ⊎ IsBounded w t f d) × (is_done f.phase ≡ false)
frame_bounded s w t f d h =
    let k = and_then_some (λ at. effect_in s w t at f f.phase) (stands s f) d h in
    (phase_bounded s w t k.0 f f.phase d k.2, phase_goes s w t k.0 f f.phase d k.2)

-- a thread that moves from a ready frame may begin
pub frame_begins : (s : Setting) (w : World) (t : Thread) (f : Frame) (d : Effect) → frame_effect s w t f ≡ Some d → f.phase ≡ Ready → waits w.frames t f ≡ false
frame_begins s w t f d h e =
    let k = and_then_some (λ at. effect_in s w t at f f.phase) (stands s f) d h in
    (turn_told w.frames t f (effect_of_turn s w (next_step t f) k.0 f (turn k.0 f)) d (ap (effect_in s w t k.0 f) (sym e) ∙ k.2)).begins
