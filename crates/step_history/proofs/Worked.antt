-- What is worked out of a frame is what its thread's move does.
use Rattle.std.proofs.Common.{◌≡◌, ◌+◌, ◌-◌, arith, ℕ, true, false, List, refl, ap, sym, subst, ◌∙◌, Option, None, Some, Result, Ok, Err, IfOk}
use Rattle.std.specs.Prelude.{IfSome, IsSomeAnd, option_map, option_and_then}
use Rattle.json_tree.specs.Data.{Data}
use Rattle.asl_tree.specs.Definition.{Definition}
use Rattle.asl_forward.specs.Results.{Work, state_work, after_join}
use Rattle.asl_frames.specs.Turn.{Location, located}
use Rattle.asl_frames.specs.declared.frame.Fault.{Fault}
use Rattle.asl_frames.specs.declared.frame.Frame.{Frame}
use Rattle.asl_frames.specs.declared.frame.Phase.TheVariants.{Ready, Parked}
use Rattle.asl_forward.specs.declared.prepared.Prepared.{Prepared}
use Rattle.saved_steps.specs.FlatMap.{is_parked}
use Rattle.step_names.specs.Thread.{Thread}
use Rattle.step_names.specs.declared.step.StepName.{StepName}
use Rattle.saved_steps.specs.Effects.{own_effect, first_fault, outputs, stands, waits, next_step, effect_in, close_effect}
use Rattle.saved_steps.specs.Held.{frames_of, world_view}
use Rattle.saved_steps.specs.Laws.{IsOver, WorkIsEffect, JoinIsEffect, TerminateIsEffect}
use Rattle.saved_steps.specs.Made.{is_unparked, IsParkedSince}
use Rattle.saved_steps.specs.World.{Setting}
use Rattle.saved_steps.specs.World as model
use Rattle.saved_steps.specs.declared.fact.Kind.TheVariants as kind
use Rattle.saved_steps.specs.declared.next.Next.{Next}
use Rattle.saved_steps.specs.declared.next.Next.TheVariants as next
use Rattle.saved_steps.specs.declared.world.World.{World}
use Rattle.step_history.specs.History.{TakenStep, IsHistory}
use Rattle.step_history.specs.Moves.{IsMachineOf, IsMoveOf, IsCloseOf, branches_of}
use Rattle.step_history.specs.declared.history.History.{History}
use Rattle.step_history.proofs.Open.{join_open, branch_open}

pub ok_map : {A E : Type 0} (P Q : A → Type 0) (r : Result A E) → ((x : A) → P x → Q x) → IfOk r P → IfOk r Q
ok_map P Q (Ok x) f h = f x h
ok_map P Q (Err e) f h = h

pub is_over : (s : Setting) (base : model.World) (ts : List TakenStep) (h : History) → IsHistory s base ts h → IsOver s h.world
is_over s base ts h is = record { table = sym is.table; schema = sym is.schema }

module _ (s : Setting) (w : World) (t : Thread) (f : Frame) (m : Definition) (over : IsOver s w) (there : frames_of w t ≡ Some f) (machine : IsMachineOf s (frames_of w t) m) where
  known : s.machines f.level.machine ≡ Some m
  known = subst (λ (o : Option Frame). IfSome o (λ g. s.machines g.level.machine ≡ Some m)) there machine

  stands_so : stands s f ≡ located m f
  stands_so = ap (option_and_then (λ d. located d f)) known

  pub work_move : (p : Prepared) → WorkIsEffect → f.phase ≡ Ready → waits (frames_of w) t f ≡ false → p.frame ≡ f → p.machine ≡ m → IsMoveOf s w t (Some (next.Work p))
  work_move p law ready begins frame from =
      let number : f.count + 1 ≡ p.frame.count + 1 = ap (λ (x : Frame). x.count + 1) (sym frame) in
      let machine_there : s.machines p.frame.level.machine ≡ Some p.machine = ap (λ (x : Frame). s.machines x.level.machine) frame ∙ known ∙ ap Some (sym from) in (
        f,
        there,
        (subst (λ (o : Option Frame). IsSomeAnd o is_unparked) (sym there) (ap is_parked ready), number),
        law s w (next_step t f) p over (there ∙ ap Some (sym frame)) machine_there number (ap (waits (frames_of w) t) frame ∙ begins),
      )

  no_join : (name : StepName) (at : Location) (ds : Option (List Data)) (work : Option Work) → option_and_then (λ (x : Work). ds) work ≡ None
      → option_and_then (λ (d : List Data). option_map (λ (x : Work). own_effect kind.Join name (after_join at.0 x f d)) work) ds ≡ None
  no_join name at None work h = refl
  no_join name at (Some d) None h = refl
  no_join name at (Some d) (Some x) h = cc

  module _ (n bound : ℕ) (phase : f.phase ≡ Parked n bound) where
    parked : IsParkedSince (frames_of w) t (f.count + 1 - 1)
    parked =
        let e : f.count ≡ f.count + 1 - 1 = omega arith in
        subst (λ (o : Option Frame). IsSomeAnd o (λ g. (is_parked g.phase ≡ true) × (g.count ≡ f.count + 1 - 1))) (sym there) (ap is_parked phase, e)

    none_over : (o : Option Location) → stands s f ≡ o → first_fault (branches_of w t f.count 0 n) ≡ None → option_and_then (λ (x : Work). outputs (branches_of w t f.count 0 n)) (option_and_then (λ at. state_work at.1) o) ≡ None
        → option_and_then (λ at. effect_in s (world_view w) t at f f.phase) (stands s f) ≡ None
    none_over None e fault waits = rw e refl
    none_over (Some at) e fault waits =
        let over_branches = branches_of w t f.count 0 n in
        rw e
        (ap (effect_in s (world_view w) t at f) phase
        ∙ ap (λ (o : Option Fault). close_effect (next_step t f) at f o (outputs over_branches)) fault
        ∙ no_join (next_step t f) at (outputs over_branches) (state_work at.1) waits)

    pub close_move : (o : Option Next) → JoinIsEffect → TerminateIsEffect → IsCloseOf m f (branches_of w t f.count 0 n) o → IsMoveOf s w t o
    close_move None join terminate h = rw there (none_over (located m f) stands_so h.0 h.1)
    close_move (Some (next.Begin g)) join terminate h = absurd h
    close_move (Some (next.Work p)) join terminate h = absurd h
    close_move (Some (next.Join g)) join terminate h =
        let at = h.0 in
        let after_it = after_join at.0 h.1 f h.2 in
        subst (λ (x : Frame). IsMoveOf s w t (Some (next.Join x))) (sym h.7)
        (f, there, (parked, join_open at.0 h.1 f h.2), join s w (next_step t f) f n bound at h.1 h.2 there phase (stands_so ∙ h.3) h.4 h.5 h.6 refl)
    close_move (Some (next.Terminate g)) join terminate h =
        let at = h.0 in
        subst (λ (x : Frame). IsMoveOf s w t (Some (next.Terminate x))) (sym h.4)
        (f, there, (parked, branch_open at f h.1), terminate s w (next_step t f) f n bound at h.1 there phase (stands_so ∙ h.2) h.3 refl)
