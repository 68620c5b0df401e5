-- What is worked out of a command before everything is made for it.
use Rattle.std.specs.Prelude.{◌≡◌, ◌+◌, ◌<◌, ◌^◌, ℕ, List, true, false, IsSome, None, Some, Ok}
use Rattle.json_tree.specs.declared.tree.Json.{Json}
use Rattle.step_history.specs.Frame.{Frame}
use Rattle.step_history.specs.Phase.TheVariants.{Ready}
use Rattle.asl_tree.specs.Definition.{Definition}
use Rattle.saved_steps.specs.Effects as effects
use Rattle.saved_steps.specs.Held.{frames_of}
use Rattle.saved_steps.specs.Made.{CanMake, CanApply, IsMadeFor, effect_of_next}
use Rattle.saved_steps.specs.Steps.{started, moved, start_name}
use Rattle.saved_steps.specs.declared.fact.Kind.TheVariants as kind
use Rattle.saved_steps.specs.declared.made.Made.{Made as MadeStep}
use Rattle.saved_steps.specs.declared.next.Next.{Next}
use Rattle.saved_steps.specs.declared.next.Next.TheVariants.{Begin}
use Rattle.step_history.specs.History.{HasRoom, history_world}
use Rattle.step_history.specs.Levels.{HasNamesBelow}
use Rattle.step_names.specs.Thread.{Thread}
use Rattle.step_names.specs.declared.step.StepName.{StepName}
use Rattle.book_log.specs.Answers.{effect_answer, is_enabled, is_full_for_step, needed_left, start_answer, step_answer}
use Rattle.book_log.specs.Log.{Log, step_on_hold, setting_of, world_of}
use Rattle.book_log.specs.declared.refusal.Refusal.{Refusal}
use Rattle.book_log.specs.declared.refusal.Refusal.TheVariants as refusal
use Rattle.saved_steps.specs.declared.fact.Fact.{Fact}
use Rattle.rollback_book.specs.Book.{BookView}
use Rattle.rollback_book.specs.Holding.{HasHeldRoom}

-- where nothing is held there is room for a step
abbrev pub HasRoomUnlessHeld : Log → Type 0
HasRoomUnlessHeld log = step_on_hold log ≡ None → is_full_for_step log ≡ false

-- a step of this fact depends directly on nothing that is left, and there is room for it
abbrev pub MayEnter : Log → Fact → Type 0
MayEnter log fact = (needed_left log fact ≡ None) × (is_full_for_step log ≡ false)

-- why it may not: for the earliest that is left on which it would depend, for want of room, or of memory where something is held
abbrev pub IsHeldBack : Log → Fact → Refusal → Type 0
IsHeldBack log fact (refusal.Held name) = (x : Fact) × (needed_left log fact ≡ Some x) × (name ≡ x.name)
IsHeldBack log fact refusal.Full = (needed_left log fact ≡ None) × (is_full_for_step log ≡ true)
IsHeldBack log fact refusal.Memory = IsSome (step_on_hold log)
IsHeldBack log fact _ = ⊥

-- the execution begins with this frame, and the start is accepted
pub record IsStartOf (b : BookView) (exec : Thread) (machine : List ℕ) (input : Json) (f : Frame) : Type 0 where
  pub answer : start_answer b.log exec machine ≡ Ok (start_name exec.exec)
  pub suits : CanMake (history_world b.history) (start_name exec.exec) (Begin f)
  pub does : effects.effect_of (setting_of b.log) (world_of b.log) (started exec.exec machine input) ≡ Some (effects.own_effect kind.Start (start_name exec.exec) f)

-- the thread's next step has this name and does what this next says; where nothing is held there is room for it
pub record IsNextOf (b : BookView) (t : Thread) (name : StepName) (next : Next) : Type 0 where
  pub thread : name.thread ≡ t
  pub suits : CanMake (history_world b.history) name next
  pub effect : effects.Effect
  pub does : effects.effect_of (setting_of b.log) (world_of b.log) (moved name) ≡ Some effect
  pub same : effect_of_next (history_world b.history) name next ≡ Some effect
  pub named : effect.fact.name ≡ name
  pub answer : step_answer b.log t ≡ effect_answer b.log effect
  pub moves : is_enabled b.log t ≡ true
  pub room : HasRoomUnlessHeld b.log

-- in the second book everything is made for a step that is to be taken in the first
pub record IsMadeIn (before after : BookView) (name : StepName) (next : Next) (m : MadeStep) : Type 0 where
  pub effect : effects.Effect
  pub is : effect_of_next (history_world before.history) name next ≡ Some effect
  pub made : IsMadeFor m effect
  pub ready : CanApply (history_world after.history) m
  pub room : HasRoom after.history
  pub held_room : HasHeldRoom after.held

-- the thread has this frame, of this machine, and a move, for which there is room where nothing is held
pub record IsReadyTo (b : BookView) (t : Thread) (machine : Definition) (f : Frame) : Type 0 where
  pub frame : frames_of (history_world b.history) t ≡ Some f
  pub known : (setting_of b.log).machines f.level.machine ≡ Some machine
  pub effect : effects.Effect
  pub moves : effects.move_effect (setting_of b.log) (world_of b.log) t ≡ Some effect
  pub few : f.count + 1 < 2 ^ 32
  pub below : HasNamesBelow t f
  pub begins : f.phase ≡ Ready → effects.waits (frames_of (history_world b.history)) t f ≡ false
  pub answer : step_answer b.log t ≡ effect_answer b.log effect
  pub room : HasRoomUnlessHeld b.log
