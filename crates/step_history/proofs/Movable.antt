-- Which threads can move: those that are ready, and those whose branches are done or have failed.
use Rattle.std.proofs.Common.{◌≡◌, ℕ, ◌==◌, Bool, true, false, cond, List, [], ◌∷◌, ◌++◌, length, refl, ap, sym, subst, ◌∙◌, Option, None, Some}
use Rattle.std.specs.Prelude.{IsSome, ◌||◌, ◌&&◌, not, option_map, option_and_then, is_some, map}
use Rattle.std.specs.List.{list_any, list_all, range_with_len}
use Rattle.std.proofs.lemmas.List.{append-nil}
use Rattle.json_tree.specs.Data.{Data}
use Rattle.item_store.specs.Table as table
use Rattle.asl_forward.specs.Outcomes.{turn}
use Rattle.asl_forward.specs.Results.{Work, state_work, after_join}
use Rattle.asl_frames.specs.Turn.{Location}
use Rattle.asl_frames.specs.declared.frame.Fault.{Fault}
use Rattle.asl_frames.specs.declared.frame.Frame.{Frame}
use Rattle.asl_frames.specs.declared.frame.Phase.{Phase}
use Rattle.asl_frames.specs.declared.frame.Phase.TheVariants.{Ready, Parked, Done, Failed}
use Rattle.asl_forward.specs.declared.prepared.Outcome.{Outcome}
use Rattle.asl_forward.specs.declared.prepared.Outcome.TheVariants as outcome
use Rattle.saved_steps.specs.BranchFirst.{is_free_to_move}
use Rattle.saved_steps.specs.FlatMap.{FrameMap, is_parked}
use Rattle.saved_steps.specs.Paths.{Path}
use Rattle.saved_steps.specs.Bounds.{place_of}
use Rattle.saved_steps.specs.Readiness.TheVariants as readiness
use Rattle.saved_steps.specs.Ready.{readiness_of, readiness_in, begins_under, progress, frame_is, has_failed, is_done}
use Rattle.step_names.specs.Thread.{Thread, child_of}
use Rattle.step_names.specs.declared.step.StepName.{StepName}
use Rattle.saved_steps.specs.Effects.{Effect, next_step, own_effect, turn_effect, effect_with_bound, first_bound, call_effect, effect_of_turn, fault_of, output_of, or_else, first_fault, outputs, close_effect, effect_in, frame_effect}
use Rattle.saved_steps.specs.Held.{paths_of, world_view}
use Rattle.saved_steps.specs.World.{Setting, World}
use Rattle.saved_steps.specs.declared.fact.Kind.TheVariants.{Join}
use Rattle.step_history.specs.Levels.{HasWellFormedMachines, FramesStand, ThreadsMoveWhereReady}
use Rattle.step_history.proofs.Placed.{Placed, placed, stands_at, IsForked, turn_so}

pub frames_stand : FramesStand
frames_stand s base ts h t f whole is there =
    let p = placed s whole base ts h is t f there in
    record {
      known = subst IsSome (sym p.known) refl;
      stands = subst IsSome (sym (stands_at s whole (length t.path) f p)) refl;
      deep = p.deep;
      below = p.over;
    }

-- ---- branches

some_fault : (p : Phase) → is_some (fault_of p) ≡ has_failed p
some_fault Ready = refl
some_fault (Parked n bound) = refl
some_fault (Done output) = refl
some_fault (Failed fault) = refl

fault_or : (a b : Option Fault) → is_some (or_else a b) ≡ (is_some a || is_some b)
fault_or (Some x) b = refl
fault_or None b = refl

fault_in : (o : Option Frame) → is_some (option_and_then (λ g. fault_of g.phase) o) ≡ frame_is has_failed o
fault_in None = refl
fault_in (Some g) = some_fault g.phase

fault_among : (at : ℕ → Option Frame) (is : List ℕ) → is_some (first_fault (map at is)) ≡ list_any (λ i. frame_is has_failed (at i)) is
fault_among at [] = refl
fault_among at (i ∷ is) =
    fault_or (option_and_then (λ g. fault_of g.phase) (at i)) (first_fault (map at is)) ∙ rw (fault_in (at i), fault_among at is) refl

some_output : (p : Phase) → is_some (output_of p) ≡ is_done p
some_output Ready = refl
some_output (Parked n bound) = refl
some_output (Done output) = refl
some_output (Failed fault) = refl

output_in : (o : Option Frame) → is_some (option_and_then (λ g. output_of g.phase) o) ≡ frame_is is_done o
output_in None = refl
output_in (Some g) = some_output g.phase

output_and : (a : Option Data) (b : Option (List Data)) → is_some (option_and_then (λ d. option_map (λ ds. d ∷ ds) b) a) ≡ (is_some a && is_some b)
output_and (Some d) (Some ds) = refl
output_and (Some d) None = refl
output_and None b = refl

outputs_of : (at : ℕ → Option Frame) (is : List ℕ) → is_some (outputs (map at is)) ≡ list_all (λ i. frame_is is_done (at i)) is
outputs_of at [] = refl
outputs_of at (i ∷ is) =
    output_and (option_and_then (λ g. output_of g.phase) (at i)) (outputs (map at is)) ∙ rw (output_in (at i), outputs_of at is) refl

-- ---- threads

some_mapped : {A B : Type 0} (k : A → B) (o : Option A) → is_some o ≡ true → is_some (option_map k o) ≡ true
some_mapped k (Some x) h = refl
some_mapped k None h = cc

turn_moves : (s : Setting) (w : World) (name : StepName) (at : Location) (f : Frame) (o : Outcome) → IsForked at.1 f o → is_some (effect_of_turn s w name at f o) ≡ true
turn_moves s w name at f (outcome.Next g) so = refl
turn_moves s w name at f (outcome.Fork g fs) so = refl
turn_moves s w name at f (outcome.Call c) so = some_mapped (λ (x : Work). call_effect name at.0 x f (table.in_form s.table s.schema w.items c)) (state_work at.1) so

close_moves : (name : StepName) (at : Location) (f : Frame) (fault : Option Fault) (all : Option (List Data)) → is_some (state_work at.1) ≡ true
    → is_some (close_effect name at f fault all) ≡ is_free_to_move (progress (is_some fault) (is_some all))
close_moves name at f (Some fault) all works = refl
close_moves name at f None None works = refl
close_moves name at f None (Some ds) works = some_mapped (λ (x : Work). own_effect Join name (after_join at.0 x f ds)) (state_work at.1) works

module _ (s : Setting) (w : World) (t : Thread) where
  abbrev below : FrameMap
  below q = w.frames (record { exec = t.exec; path = t.path ++ q })

  -- whether the fork over the thread lets it begin
  abbrev begins : Bool
  begins = begins_under true (paths_of w.frames t.exec) (place_of t.path)

  first_moves : (f : Frame) (o : Option Effect) → is_some o ≡ true → is_some (turn_effect w.frames t f o) ≡ is_free_to_move (cond (f.count == 0 && not begins) readiness.Waiting readiness.Ready)
  first_moves f o h = by (f.count == 0 && not begins) o h
    where
      by : (b : Bool) (o : Option Effect) → is_some o ≡ true → is_some (cond b None (option_map (effect_with_bound (first_bound w.frames t f)) o)) ≡ is_free_to_move (cond b readiness.Waiting readiness.Ready)
      by true o h = refl
      by false o h = some_mapped (effect_with_bound (first_bound w.frames t f)) o h

  moves_by : (at : Location) (f : Frame) (p : Phase) → (is_parked p ≡ true → is_some (state_work at.1) ≡ true) → is_some (effect_in s w t at f p) ≡ is_free_to_move (readiness_in begins below f.count p)
  moves_by at f Ready works = first_moves f (effect_of_turn s w (next_step t f) at f (turn at f)) (turn_moves s w (next_step t f) at f (turn at f) (turn_so at.0 at.1 f))
  moves_by at f (Parked n bound) works =
      let kid : ℕ → Option Frame = λ i. w.frames (child_of t f.count i) in
      let is = range_with_len 0 n in
      close_moves (next_step t f) at f (first_fault (map kid is)) (outputs (map kid is)) (works refl)
      ∙ ap (λ (b : Bool). is_free_to_move (progress b (is_some (outputs (map kid is))))) (fault_among kid is)
      ∙ ap (λ (b : Bool). is_free_to_move (progress (list_any (λ i. frame_is has_failed (kid i)) is) b)) (outputs_of kid is)
  moves_by at f (Done output) works = refl
  moves_by at f (Failed fault) works = refl

  moves_where : HasWellFormedMachines s → (o : Option Frame) → ((f : Frame) → o ≡ Some f → Placed s (length t.path) f) → is_some (option_and_then (frame_effect s w t) o) ≡ is_free_to_move (readiness_of begins below o)
  moves_where whole None all = refl
  moves_where whole (Some f) all =
      let p = all f refl in
      ap (λ (o : Option Location). is_some (option_and_then (λ (at : Location). effect_in s w t at f f.phase) o)) (stands_at s whole (length t.path) f p)
      ∙ moves_by p.at f f.phase p.works

  itself : below [] ≡ w.frames t
  itself = ap (λ (p : Path). w.frames (record { exec = t.exec; path = p })) (append-nil t.path)

pub threads_move : ThreadsMoveWhereReady
threads_move s base ts h t whole is =
    let w = world_view h.world in
    moves_where s w t whole (w.frames t) (placed s whole base ts h is t) ∙ ap (λ (o : Option Frame). is_free_to_move (readiness_of (begins s w t) (below s w t) o)) (sym (itself s w t))
