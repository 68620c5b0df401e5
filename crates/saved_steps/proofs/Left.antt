-- Where each step leaves its thread, and that this is where its record needs it to be.
use Rattle.std.proofs.Common.{◌≡◌, ◌==◌, Bool, true, false, cond, List, refl, sym, ap, ◌∙◌, subst, Option, Some, None, IsSomeAnd}
use Rattle.std.specs.Option.{option_map, option_and_then, is_some}
use Rattle.std.proofs.lemmas.Option.{same_Some}
use Rattle.json_tree.specs.Data.{Data}
use Rattle.attr_values.specs.declared.key.Key.{Key}
use Rattle.item_store.specs.Table as table
use Rattle.item_store.specs.Table.{Table}
use Rattle.item_store.specs.declared.access.AccessMode.{AccessMode}
use Rattle.branch_tree.specs.Definition.{Definition}
use Rattle.asl_forward.specs.Outcomes.{turn}
use Rattle.asl_forward.specs.Results.{state_work, after_answer}
use Rattle.branch_tree.specs.Turn.{Location}
use Rattle.branch_tree.specs.Fault.{Fault}
use Rattle.branch_tree.specs.Frame.{Frame}
use Rattle.branch_tree.specs.Phase.{Phase}
use Rattle.branch_tree.specs.Phase.TheVariants as phase
use Rattle.asl_forward.specs.declared.prepared.Outcome.{Outcome}
use Rattle.asl_forward.specs.declared.prepared.Outcome.TheVariants as outcome
use Rattle.branch_tree.specs.FlatMap.{is_parked}
use Rattle.step_names.specs.Thread.{Thread, execution}
use Rattle.step_names.specs.declared.step.StepName.{StepName}
use Rattle.step_names.proofs.OrderLaws.{thread_itself}
use Rattle.saved_steps.specs.Effects.{Effect, effect_of_turn, effect_in, close_effect, join_effect, if_numbered, called, stands, frame_effect, move_effect, next_step, kids, first_fault, outputs}
use Rattle.saved_steps.specs.Held.{frames_of, world_view}
use Rattle.saved_steps.specs.Laws.{Leaves, EffectsLeave, LeftToUndo}
use Rattle.saved_steps.specs.Made.{is_unparked}
use Rattle.saved_steps.specs.Run.{after_effect}
use Rattle.saved_steps.specs.Steps.{started, moved, is_close}
use Rattle.saved_steps.specs.Undoing.{IsSavedOf, StandsAfter}
use Rattle.saved_steps.specs.World.{World, Setting}
use Rattle.saved_steps.specs.declared.fact.Fact.{Fact}
use Rattle.saved_steps.specs.declared.fact.Kind.{Kind}
use Rattle.saved_steps.specs.declared.fact.Kind.TheVariants as kind
use Rattle.saved_steps.specs.declared.record.Saved.{Saved}
use Rattle.saved_steps.specs.declared.record.Saved.TheVariants.{Started, Framed, Called, Forked, Closed}
use Rattle.saved_steps.specs.declared.world.World as held
use Rattle.saved_steps.proofs.Begun.{turn_told}
use Rattle.saved_steps.proofs.Turned.{Yields, turn_yields, answer_open, join_open, branch_open}

-- ---- where an effect leaves its thread

abbrev LeftBy : Effect → Type 0
LeftBy d = Leaves d.fact.kind d.fact.name d.frame

each : {A : Type 0} (o : Option A) (next : A → Option Effect) (d : Effect) → option_and_then next o ≡ Some d → ((x : A) → o ≡ Some x → next x ≡ Some d → LeftBy d) → LeftBy d
each None next d h k = cc
each (Some x) next d h k = k x refl h

mapped : {A : Type 0} (o : Option A) (make : A → Effect) (d : Effect) → option_map make o ≡ Some d → ((x : A) → o ≡ Some x → LeftBy (make x)) → LeftBy d
mapped None make d h k = cc
mapped (Some x) make d h k = subst LeftBy (same_Some (make x) d h) (k x refl)

called_left : (name : StepName) (g : Frame) (items : Table) (access : Option (Key × AccessMode)) → is_unparked g → LeftBy (called name g items access)
called_left name g items None h = h
called_left name g items (Some x) h = h

turn_left : (s : Setting) (w : World) (t : Thread) (at : Location) (f : Frame) (o : Outcome) (d : Effect) → Yields f o → effect_of_turn s w (next_step t f) at f o ≡ Some d → LeftBy d
turn_left s w t at f (outcome.Next g) d y h = subst LeftBy (same_Some _ d h) y
turn_left s w t at f (outcome.Fork g branches) d y h = subst LeftBy (same_Some _ d h) (ap is_parked y.1, y.2)
turn_left s w t at f (outcome.Call c) d y h =
    let o = table.in_form s.table s.schema w.items c in
    mapped (state_work at.1) (λ work. called (next_step t f) (after_answer at.0 work f o.answer) o.items o.access) d h
    (λ work e. called_left (next_step t f) (after_answer at.0 work f o.answer) o.items o.access (answer_open at.0 work f o.answer))

join_left : (name : StepName) (at : Location) (f : Frame) (ds : List Data) (d : Effect) → join_effect name at f ds ≡ Some d → LeftBy d
join_left name at f ds d h = mapped (state_work at.1) _ d h (λ work e. join_open at.0 work f ds)

close_left : (name : StepName) (at : Location) (f : Frame) (fault : Option Fault) (ds : Option (List Data)) (d : Effect) → close_effect name at f fault ds ≡ Some d → LeftBy d
close_left name at f (Some fault) ds d h = subst LeftBy (same_Some _ d h) (branch_open at f fault)
close_left name at f None ds d h = each ds (join_effect name at f) d h (λ xs e k. join_left name at f xs d k)

in_left : (s : Setting) (w : World) (t : Thread) (at : Location) (f : Frame) (p : Phase) (d : Effect) → effect_in s w t at f p ≡ Some d → LeftBy d
in_left s w t at f phase.Ready d h =
    let k = turn_told w.frames t f (effect_of_turn s w (next_step t f) at f (turn at f)) d h in
    subst LeftBy k.told (turn_left s w t at f (turn at f) k.effect_of (turn_yields at.0 at.1 f) k.is)
in_left s w t at f (phase.Parked n bound) d h = close_left (next_step t f) at f (first_fault (kids w t f n)) (outputs (kids w t f n)) d h
in_left s w t at f (phase.Done output) d h = cc
in_left s w t at f (phase.Failed fault) d h = cc

move_left : (s : Setting) (w : World) (t : Thread) (d : Effect) → move_effect s w t ≡ Some d → LeftBy d
move_left s w t d h = each (w.frames t) (frame_effect s w t) d h (λ f e k. each (stands s f) (λ at. effect_in s w t at f f.phase) d k (λ at x y. in_left s w t at f f.phase d y))

numbered_left : (b : Bool) (c d : Effect) → cond b (Some c) None ≡ Some d → LeftBy c → LeftBy d
numbered_left true c d h k = subst LeftBy (same_Some c d h) k
numbered_left false c d h k = cc

start_left : (there : Bool) (machine : Option Definition) (make : Definition → Effect) (d : Effect) → cond there None (option_map make machine) ≡ Some d → ((x : Definition) → LeftBy (make x)) → LeftBy d
start_left true machine make d h k = cc
start_left false machine make d h k = mapped machine make d h (λ x e. k x)

pub effects_leave : EffectsLeave
effects_leave s w (started exec machine input) d h = start_left (is_some (w.frames (execution exec))) (s.machines machine) _ d h (λ x. refl)
effects_leave s w (moved name) d h = each (move_effect s w name.thread) (if_numbered name.no) d h (λ c e k. numbered_left (c.fact.name.no == name.no) c d k (move_left s w name.thread c e))

-- ---- and what its record needs

frame_there : (w : held.World) (x : World) (d : Effect) (s : Fact) → world_view w ≡ after_effect x d → s ≡ d.fact → frames_of w s.name.thread ≡ Some d.frame
frame_there w x d s h e =
    ap (λ (v : World). v.frames s.name.thread) h ∙ ap (λ (y : Fact). (after_effect x d).frames y.name.thread) e ∙ here
  where
    here : (after_effect x d).frames d.fact.name.thread ≡ Some d.frame
    here = rw (thread_itself d.fact.name.thread) refl

closes_open : (k : Kind) (name : StepName) (f : Frame) → is_close k ≡ true → Leaves k name f → is_unparked f
closes_open kind.Start name f h l = l
closes_open kind.Plain name f h l = l
closes_open kind.Call name f h l = l
closes_open kind.Fork name f h l = cc
closes_open kind.Join name f h l = l
closes_open kind.Terminate name f h l = l

left_by : (w : held.World) (f : Frame) (s : Fact) (saved : Saved) → frames_of w s.name.thread ≡ Some f → Leaves s.kind s.name f → IsSavedOf s saved → StandsAfter w s saved
left_by w f s Started h l fits = subst (λ (o : Option Frame). IsSomeAnd o is_unparked) (sym h) (subst (λ (k : Kind). Leaves k s.name f) fits.0 l)
left_by w f s (Framed g) h l fits = subst (λ (o : Option Frame). IsSomeAnd o is_unparked) (sym h) (subst (λ (k : Kind). Leaves k s.name f) fits.0 l)
left_by w f s (Called g slot old) h l fits = subst (λ (o : Option Frame). IsSomeAnd o is_unparked) (sym h) (subst (λ (k : Kind). Leaves k s.name f) fits.0 l)
left_by w f s (Forked g) h l fits = subst (λ (o : Option Frame). IsSomeAnd o (λ x. (is_parked x.phase ≡ true) × (x.count ≡ s.name.no))) (sym h) (subst (λ (k : Kind). Leaves k s.name f) fits.0 l)
left_by w f s (Closed g kids) h l fits = subst (λ (o : Option Frame). IsSomeAnd o is_unparked) (sym h) (closes_open s.kind s.name f fits.0 l)

pub left_to_undo : LeftToUndo
left_to_undo w x d r h e l fits = left_by w d.frame r.fact r.saved (frame_there w x d r.fact h e) (subst (λ (s : Fact). Leaves s.kind s.name d.frame) (sym e) l) fits
