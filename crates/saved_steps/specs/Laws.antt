-- Laws of what steps do and of what takes them back.
use Rattle.std.specs.Prelude.{◌≡◌, ℕ, ◌+◌, List, Bool, true, false, ◌||◌, if◌then◌else◌, Some, None}
use Rattle.attr_values.specs.declared.key.Key.{Key}
use Rattle.json_tree.specs.Data.{Data}
use Rattle.json_tree.specs.declared.tree.Json.{Json}
use Rattle.branch_tree.specs.Definition.{Definition}
use Rattle.asl_forward.specs.Results.{Work, state_work, after_branch, after_join}
use Rattle.branch_tree.specs.Turn.{Location, first_frame}
use Rattle.branch_tree.specs.Fault.{Fault}
use Rattle.branch_tree.specs.Frame.{Frame}
use Rattle.branch_tree.specs.Phase.TheVariants.{Parked}
use Rattle.asl_forward.specs.declared.prepared.Prepared.{Prepared}
use Rattle.step_names.specs.Thread.{Thread, execution}
use Rattle.step_names.specs.declared.step.StepName.{StepName}
use Rattle.saved_steps.specs.Effects.{Effect, effect_of, stands, waits, kids, first_fault, outputs}
use Rattle.saved_steps.specs.Held.{frames_of, world_view}
use Rattle.saved_steps.specs.Saving.{kept, undo}
use Rattle.branch_tree.specs.FlatMap.{is_parked}
use Rattle.saved_steps.specs.Made.{is_unparked, effect_of_next}
use Rattle.saved_steps.specs.Run.{after_effect}
use Rattle.saved_steps.specs.Steps.{Step, started, moved, start_name, makes, closes, writes_key}
use Rattle.saved_steps.specs.Undoing.{IsRecord, StandsAfter}
use Rattle.saved_steps.specs.World as model
use Rattle.saved_steps.specs.World.{Setting, is_same_thread}
use Rattle.saved_steps.specs.declared.fact.Fact.{Fact}
use Rattle.saved_steps.specs.declared.fact.Kind.{Kind}
use Rattle.saved_steps.specs.declared.fact.Kind.TheVariants as kind
use Rattle.saved_steps.specs.declared.next.Next.TheVariants as next
use Rattle.saved_steps.specs.declared.record.StepRecord.{StepRecord}
use Rattle.saved_steps.specs.declared.world.World.{World}

-- ---- taken back, and taken again

-- the threads that a step changes: its own, and those under the fork that it makes or closes
abbrev pub changes : Fact → Thread → Bool
changes s t = is_same_thread s.name.thread t || (makes s t || closes s t)

-- the two worlds show the same at the threads and the key that a step changes
pub record AgreeAt (s : Fact) (w x : model.World) : Type 0 where
  pub frames : (t : Thread) → changes s t ≡ true → x.frames t ≡ w.frames t
  pub items : (key : Key) → writes_key s key ≡ true → x.items key ≡ w.items key

-- the first world, but for what the second shows where the step changes something
abbrev pub with_places : Fact → model.World → model.World → model.World
with_places s x w = record { frames = λ t. if changes s t then w.frames t else x.frames t; items = λ key. if writes_key s key then w.items key else x.items key }

-- nothing stands under the fork that a step makes
abbrev pub NothingMade : model.World → Fact → Type 0
NothingMade w s = (t : Thread) → makes s t ≡ true → w.frames t ≡ None

-- a step that is undone right after it was taken leaves no change
abbrev pub UndoneAtOnce : Type 0
UndoneAtOnce = (w : model.World) (d : Effect) → NothingMade w d.fact → undo (after_effect w d) d.fact (kept w d.fact) ≡ w

-- Undone later, it gives its places what they had, and leaves what other steps did elsewhere.
abbrev pub UndoneLater : Type 0
UndoneLater = (w x : model.World) (s : Fact) → NothingMade w s → undo x s (kept w s) ≡ with_places s x w

-- and where its places are as it left them, its effect done again gives the world that there was
abbrev pub TakenAgain : Type 0
TakenAgain = (w x : model.World) (d : Effect) → AgreeAt d.fact (after_effect w d) x → after_effect (undo x d.fact (kept w d.fact)) d ≡ x

-- ---- a step's next is what its thread's move does

-- a world over the setting's table
pub record IsOver (s : Setting) (w : World) : Type 0 where
  pub table : w.items.table ≡ s.table
  pub schema : w.items.schema ≡ s.schema

abbrev pub StartIsEffect : Type 0
StartIsEffect = (s : Setting) (w : World) (exec machine : List ℕ) (input : Json) (d : Definition) → frames_of w (execution exec) ≡ None → s.machines machine ≡ Some d
    → effect_of s (world_view w) (started exec machine input) ≡ effect_of_next w (start_name exec) (next.Begin (first_frame machine d input))

-- a turn that was prepared from the frame, in its machine, of a thread that may begin
abbrev pub WorkIsEffect : Type 0
WorkIsEffect = (s : Setting) (w : World) (name : StepName) (p : Prepared) → IsOver s w → frames_of w name.thread ≡ Some p.frame → s.machines p.frame.level.machine ≡ Some p.machine
    → name.no ≡ p.frame.count + 1 → waits (frames_of w) name.thread p.frame ≡ false → effect_of s (world_view w) (moved name) ≡ effect_of_next w name (next.Work p)

-- a frame after its branches' outputs, where none has failed
abbrev pub JoinIsEffect : Type 0
JoinIsEffect = (s : Setting) (w : World) (name : StepName) (f : Frame) (n bound : ℕ) (at : Location) (work : Work) (ds : List Data)
    → frames_of w name.thread ≡ Some f → f.phase ≡ Parked n bound → stands s f ≡ Some at → state_work at.1 ≡ Some work
    → first_fault (kids (world_view w) name.thread f n) ≡ None → outputs (kids (world_view w) name.thread f n) ≡ Some ds → name.no ≡ f.count + 1
    → effect_of s (world_view w) (moved name) ≡ effect_of_next w name (next.Join (after_join at.0 work f ds))

-- a frame after the error of the first branch that has failed
abbrev pub TerminateIsEffect : Type 0
TerminateIsEffect = (s : Setting) (w : World) (name : StepName) (f : Frame) (n bound : ℕ) (at : Location) (fault : Fault)
    → frames_of w name.thread ≡ Some f → f.phase ≡ Parked n bound → stands s f ≡ Some at → first_fault (kids (world_view w) name.thread f n) ≡ Some fault → name.no ≡ f.count + 1
    → effect_of s (world_view w) (moved name) ≡ effect_of_next w name (next.Terminate (after_branch at f fault))

-- ---- where a step leaves its thread

-- parked since a fork, and not parked after any other step
abbrev pub Leaves : Kind → StepName → Frame → Type 0
Leaves kind.Start name f = is_unparked f
Leaves kind.Plain name f = is_unparked f
Leaves kind.Call name f = is_unparked f
Leaves kind.Fork name f = (is_parked f.phase ≡ true) × (f.count ≡ name.no)
Leaves kind.Join name f = is_unparked f
Leaves kind.Terminate name f = is_unparked f

abbrev pub EffectsLeave : Type 0
EffectsLeave = (s : Setting) (w : model.World) (step : Step) (d : Effect) → effect_of s w step ≡ Some d → Leaves d.fact.kind d.fact.name d.frame

-- In the world after an effect its thread stands where a record of that step needs it to be.
abbrev pub LeftToUndo : Type 0
LeftToUndo = (w : World) (x : model.World) (d : Effect) (r : StepRecord) → world_view w ≡ after_effect x d → r.fact ≡ d.fact → Leaves d.fact.kind d.fact.name d.frame → IsRecord r → StandsAfter w r.fact r.saved
