-- What a step that can be taken does, whether it starts an execution or moves a thread.
use Rattle.std.proofs.Common.{◌≡◌, ℕ, ◌+◌, ◌==◌, Bool, true, false, cond, List, [], refl, ap, ap₂, sym, subst, ◌∙◌, inl, inr, Option, None, Some}
use Rattle.std.specs.Prelude.{◌⊎◌, is_some, option_map}
use Rattle.std.proofs.lemmas.Bool.{eqb-true}
use Rattle.std.proofs.lemmas.Option.{same_Some}
use Rattle.json_tree.specs.declared.tree.Json.{Json}
use Rattle.saved_steps.specs.Definition.{Definition}
use Rattle.saved_steps.specs.Turn.{first_frame}
use Rattle.saved_steps.specs.Frame.{Frame}
use Rattle.step_names.specs.Thread.{Thread, execution}
use Rattle.step_names.specs.declared.step.StepName.{StepName}
use Rattle.saved_steps.specs.Effects.{Effect, next_step, own_effect, move_effect, frame_effect, start_effect, if_numbered, effect_of}
use Rattle.saved_steps.specs.Steps.{Step, started, moved, start_name, name_of, is_fork, is_close}
use Rattle.saved_steps.specs.World.{Setting, World}
use Rattle.saved_steps.specs.declared.fact.Kind.{Kind}
use Rattle.saved_steps.specs.declared.fact.Kind.TheVariants.{Start, Plain, Call, Fork, Join, Terminate}
use Rattle.saved_steps.specs.Laws.{Leaves}
use Rattle.saved_steps.specs.Ready.{frame_is, is_done}
use Rattle.saved_steps.specs.FlatMap as flat
use Rattle.saved_steps.specs.Phase.{Phase}
use Rattle.saved_steps.specs.Phase.TheVariants as phase
use Rattle.saved_steps.proofs.Left.{effects_leave}
use Rattle.trace_theory.proofs.Runs.{and_then_some, map_some}
use Rattle.depends.specs.Dependence.{awaited_by}
use Rattle.depends.proofs.Awaited.{all_done}
use Rattle.depends.proofs.Turned.{is_parked, IsMove, frame_move, IsBounded, frame_bounded}

pub if_some : {A : Type 0} (b : Bool) (x y : A) → cond b (Some x) None ≡ Some y → (b ≡ true) × (x ≡ y)
if_some true x y h = (refl, same_Some x y h)
if_some false x y h = cc

unless_some : {A : Type 0} (b : Bool) (o : Option A) (y : A) → cond b None o ≡ Some y → (b ≡ false) × (o ≡ Some y)
unless_some true o y h = cc
unless_some false o y h = (refl, h)

none_there : {A : Type 0} (o : Option A) → is_some o ≡ false → o ≡ None
none_there None h = refl
none_there (Some x) h = cc

parked_as : (p : Phase) → is_parked p ≡ flat.is_parked p
parked_as phase.Ready = refl
parked_as (phase.Parked n bound) = refl
parked_as (phase.Done output) = refl
parked_as (phase.Failed fault) = refl

pub record IsPlanned (w : World) (d : Effect) : Type 0 where
  pub count : d.frame.count ≡ d.fact.name.no
  pub parks : is_fork d.fact.kind ≡ true → is_parked d.frame.phase ≡ true
  -- it follows on the frame that its thread has
  pub follows : (f : Frame) → w.frames d.fact.name.thread ≡ Some f → (d.fact.name.no ≡ f.count + 1) × (is_parked f.phase ≡ true → is_close d.fact.kind ≡ true)
  -- which isn't done
  pub goes : (f : Frame) → w.frames d.fact.name.thread ≡ Some f → is_done f.phase ≡ false
  -- a fork alone parks its thread
  pub forks : is_parked d.frame.phase ≡ true → is_fork d.fact.kind ≡ true
  -- the branches for which it waited are done
  pub awaits : (t : Thread) → awaited_by d.fact t ≡ Some [] → frame_is is_done (w.frames t) ≡ true
  -- only an execution's own thread may have none
  pub stands : ((f : Frame) × (w.frames d.fact.name.thread ≡ Some f)) ⊎ ((d.fact.name.thread.path ≡ []) × (w.frames d.fact.name.thread ≡ None))

start_planned : (s : Setting) (w : World) (exec machine : List ℕ) (input : Json) (d : Effect) → start_effect s w exec machine input ≡ Some d → (d.fact.name ≡ start_name exec) × IsPlanned w d
start_planned s w exec machine input d h =
    let k = unless_some (is_some (w.frames (execution exec))) (option_map (λ (m : Definition). own_effect Start (start_name exec) (first_frame machine m input)) (s.machines machine)) d h in
    let none = none_there (w.frames (execution exec)) k.0 in
    let m = map_some (λ (m : Definition). own_effect Start (start_name exec) (first_frame machine m input)) (s.machines machine) d k.1 in
    subst (λ (e : Effect). (e.fact.name ≡ start_name exec) × IsPlanned w e) m.2 (
      refl,
      record {
        count = refl;
        parks = λ j. cc;
        follows = λ f j. absurd (nothing f (sym none ∙ j));
        goes = λ f j. absurd (nothing f (sym none ∙ j));
        forks = λ j. cc;
        awaits = λ t j. cc;
        stands = inr (refl, none);
      },
    )
  where
    nothing : (f : Frame) → None ≡ Some f → ⊥
    nothing f e = cc

pub numbered : (d e : Effect) (number : ℕ) → if_numbered number d ≡ Some e → (d.fact.name.no ≡ number) × (d ≡ e)
numbered d e number h = let k = if_some (d.fact.name.no == number) d e h in (eqb-true d.fact.name.no number k.0, k.1)

-- what an effect leaves is parked where it is a fork alone
leaves_fork : (k : Kind) (name : StepName) (f : Frame) → Leaves k name f → is_parked f.phase ≡ true → is_fork k ≡ true
leaves_fork Start name f l h = let e = parked_as f.phase ∙ l in let x = sym h ∙ e in cc
leaves_fork Plain name f l h = let e = parked_as f.phase ∙ l in let x = sym h ∙ e in cc
leaves_fork Call name f l h = let e = parked_as f.phase ∙ l in let x = sym h ∙ e in cc
leaves_fork Fork name f l h = refl
leaves_fork Join name f l h = let e = parked_as f.phase ∙ l in let x = sym h ∙ e in cc
leaves_fork Terminate name f l h = let e = parked_as f.phase ∙ l in let x = sym h ∙ e in cc

-- the branches for which a move waited are done
move_awaits : (w : World) (t u : Thread) (f : Frame) (d : Effect) → d.fact.name.thread ≡ t → (d.fact.bound ≡ 0) ⊎ IsBounded w t f d → awaited_by d.fact u ≡ Some [] → frame_is is_done (w.frames u) ≡ true
move_awaits w t u f d own (inl e) h = let x = rw e at h in cc
move_awaits w t u f d own (inr b) h = all_done w t u f d.fact own b.begins b.bound h

move_planned : (s : Setting) (w : World) (t : Thread) (f : Frame) (d : Effect) → w.frames t ≡ Some f → IsMove (next_step t f) f d → Leaves d.fact.kind d.fact.name d.frame → frame_effect s w t f ≡ Some d → IsPlanned w d
move_planned s w t f d here m left moves = record {
  count = m.count ∙ sym no;
  parks = m.parks;
  follows = λ g h. let e : f ≡ g = same_Some f g (sym there ∙ h) in (no ∙ ap (λ (x : Frame). x.count + 1) e, λ k. m.closes (subst (λ (x : Frame). is_parked x.phase ≡ true) (sym e) k));
  goes = λ g h. let e : f ≡ g = same_Some f g (sym there ∙ h) in subst (λ (x : Frame). is_done x.phase ≡ false) e (frame_bounded s w t f d moves).1;
  forks = leaves_fork d.fact.kind d.fact.name d.frame left;
  awaits = λ u h. move_awaits w t u f d (ap (λ (n : StepName). n.thread) m.named) (frame_bounded s w t f d moves).0 h;
  stands = inl (f, there);
}
  where
    no : d.fact.name.no ≡ f.count + 1
    no = ap (λ (n : StepName). n.no) m.named

    there : w.frames d.fact.name.thread ≡ Some f
    there = ap (λ (n : StepName). w.frames n.thread) m.named ∙ here

pub planned : (s : Setting) (w : World) (step : Step) (d : Effect) → effect_of s w step ≡ Some d → (d.fact.name ≡ name_of step) × IsPlanned w d
planned s w (started exec machine input) d h = start_planned s w exec machine input d h
planned s w (moved name) d h =
    let k = and_then_some (if_numbered name.no) (move_effect s w name.thread) d h in
    let n = numbered k.0 d name.no k.2 in
    let f = and_then_some (frame_effect s w name.thread) (w.frames name.thread) k.0 k.1 in
    let m = frame_move s w name.thread f.0 k.0 f.2 in
    let left : Leaves k.0.fact.kind k.0.fact.name k.0.frame = subst (λ (e : Effect). Leaves e.fact.kind e.fact.name e.frame) (sym n.1) (effects_leave s w (moved name) d h) in
    subst (λ (e : Effect). (e.fact.name ≡ name) × IsPlanned w e) n.1
    (ap₂ (λ (t : Thread) (no : ℕ). let x : StepName = record { thread = t; no = no } in x) (ap (λ (x : StepName). x.thread) m.named) n.0, move_planned s w name.thread f.0 k.0 f.1 m left f.2)
