-- A run where more machines are known.
use Rattle.std.proofs.Common.{◌≡◌, ℕ, List, [], ◌∷◌, refl, ap, ap₂, sym, subst, ◌∙◌, Option, None, Some}
use Rattle.std.specs.Prelude.{option_map, option_and_then, is_some, if◌then◌else◌}
use Rattle.attr_values.specs.declared.key.KeySchema.{KeySchema}
use Rattle.saved_steps.specs.Definition.{Definition}
use Rattle.saved_steps.specs.Turn.{Location, located, first_frame}
use Rattle.saved_steps.specs.Frame.{Frame}
use Rattle.step_names.specs.Thread.{execution}
use Rattle.saved_steps.specs.Effects.{Effect, effect_of, own_effect, effect_in, frame_effect, if_numbered}
use Rattle.saved_steps.specs.Run.{after_effect, take_step}
use Rattle.saved_steps.specs.Steps.{Step, started, moved, start_name}
use Rattle.saved_steps.specs.World.{Setting, World}
use Rattle.saved_steps.specs.declared.fact.Fact.{Fact}
use Rattle.saved_steps.specs.declared.fact.Kind.TheVariants.{Start}
use Rattle.trace_theory.proofs.Runs.{map_some, Runs}
use Rattle.depends.specs.Instance.{TakenStep, steps}
use Rattle.depends.specs.Laws.{ExtendsSetting}

-- where a frame stands, it stands with more machines too
and_then_more : {A B : Type 0} (k : A → Option B) (o p : Option A) (b : B) → ((a : A) → o ≡ Some a → p ≡ Some a) → option_and_then k o ≡ Some b → option_and_then k p ≡ Some b
and_then_more k None p b more h = cc
and_then_more k (Some a) p b more h = ap (option_and_then k) (more a refl) ∙ h

map_more : {A B : Type 0} (k : A → B) (o p : Option A) (b : B) → ((a : A) → o ≡ Some a → p ≡ Some a) → option_map k o ≡ Some b → option_map k p ≡ Some b
map_more k None p b more h = cc
map_more k (Some a) p b more h = ap (option_map k) (more a refl) ∙ h

start_more : {A : Type 0} (there : Option A) (o p : Option Effect) (d : Effect) → (o ≡ Some d → p ≡ Some d) → (if is_some there then None else o) ≡ Some d → (if is_some there then None else p) ≡ Some d
start_more None o p d more h = more h
start_more (Some x) o p d more h = h

module _ (s more : Setting) (e : ExtendsSetting s more) where
  effect_more : (w : World) (step : Step) (d : Effect) → effect_of s w step ≡ Some d → effect_of (record { machines = more.machines; table = s.table; schema = s.schema }) w step ≡ Some d
  effect_more w (started exec machine input) d h =
      start_more (w.frames (execution exec)) (option_map (λ (m : Definition). own_effect Start (start_name exec) (first_frame machine m input)) (s.machines machine)) (option_map (λ (m : Definition). own_effect Start (start_name exec) (first_frame machine m input)) (more.machines machine)) d
      (map_more (λ (m : Definition). own_effect Start (start_name exec) (first_frame machine m input)) (s.machines machine) (more.machines machine) d (e.machines machine)) h
  effect_more w (moved name) d h = on_frame (w.frames name.thread) h
    where
      at_frame : (f : Frame) (a : Effect) → frame_effect s w name.thread f ≡ Some a → frame_effect (record { machines = more.machines; table = s.table; schema = s.schema }) w name.thread f ≡ Some a
      at_frame f a k =
          and_then_more (λ (at : Location). effect_in s w name.thread at f f.phase) (option_and_then (λ m. located m f) (s.machines f.level.machine)) (option_and_then (λ m. located m f) (more.machines f.level.machine)) a
          (λ at there. and_then_more (λ (m : Definition). located m f) (s.machines f.level.machine) (more.machines f.level.machine) at (e.machines f.level.machine) there) k

      on_frame : (o : Option Frame) → option_and_then (if_numbered name.no) (option_and_then (frame_effect s w name.thread) o) ≡ Some d
          → option_and_then (if_numbered name.no) (option_and_then (frame_effect (record { machines = more.machines; table = s.table; schema = s.schema }) w name.thread) o) ≡ Some d
      on_frame None k = cc
      on_frame (Some f) k = and_then_more (if_numbered name.no) (frame_effect s w name.thread f) (frame_effect (record { machines = more.machines; table = s.table; schema = s.schema }) w name.thread f) d (at_frame f) k

  take_more : (w v : World) (step : Step) (fact : Fact) → take_step s w step ≡ Some (v, fact) → take_step more w step ≡ Some (v, fact)
  take_more w v step fact h =
      let k = map_some (λ (d : Effect). (after_effect w d, d.fact)) (effect_of s w step) (v, fact) h in
      let own = subst (λ (x : Setting). effect_of x w step ≡ Some k.0) whole_record (effect_more w step k.0 k.1) in
      ap (option_map (λ (d : Effect). (after_effect w d, d.fact))) own ∙ ap Some k.2
    where
      whole_record : record { machines = more.machines; table = s.table; schema = s.schema } ≡ more
      whole_record = ap₂ (λ (x : List ℕ) (k : KeySchema). let r : Setting = record { machines = more.machines; table = x; schema = k } in r) (sym e.table) (sym e.schema)

  pub runs_more : (ts : List TakenStep) (w v : World) → Runs (steps s) w ts v → Runs (steps more) w ts v
  runs_more [] w v h = h
  runs_more (t ∷ ts) w v h = (h.0, (take_more w h.0 t.step t.fact h.1.0, h.1.1), runs_more ts h.0 v h.2)
