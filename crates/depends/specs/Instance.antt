-- Steps of executions as steps that may commute: what they depend on, what they keep, and what they touch.
use Rattle.std.specs.Prelude.{◌==◌, Bool, true, false, ◌||◌, [], ◌∷◌, Option, None, Some, option_map, if◌then◌else◌}
use Rattle.attr_values.specs.declared.key.Key.{Key}
use Rattle.item_store.specs.Deciding.{ItemAttributes}
use Rattle.saved_steps.specs.Frame.{Frame}
use Rattle.step_names.specs.Thread.{Thread}
use Rattle.trace_theory.specs.Footprints.{Plans}
use Rattle.trace_theory.specs.Traces.{Machine, Occurrence}
use Rattle.saved_steps.specs.Effects.{Effect, effect_of}
use Rattle.saved_steps.specs.Saving.{SavedState, kept, undo}
use Rattle.saved_steps.specs.Run.{begun_frame, after_effect, take_step}
use Rattle.saved_steps.specs.Steps.{Step, name_of, makes, closes, touches_key, writes_key}
use Rattle.saved_steps.specs.World.{Setting, World, is_same_thread, is_same_step}
use Rattle.saved_steps.specs.declared.fact.Fact.{Fact}
use Rattle.saved_steps.specs.Bounds.{place_of}
use Rattle.saved_steps.specs.Paths.{Path}
use Rattle.depends.specs.Dependence.{awaited_by, depends_directly}

-- two steps of one name
abbrev pub is_one_step : Step → Step → Bool
is_one_step a b = is_same_step (name_of a) (name_of b)

abbrev pub steps : Setting → Machine World Step Fact SavedState
steps s = record { take = take_step s; is_same = is_one_step; depends = depends_directly; saved = kept; undo = undo }

-- a step that was taken, with its fact and what it kept
abbrev pub TakenStep : Type 0
TakenStep = Occurrence Step Fact SavedState

-- a step that is taken in a world, with its fact and what it keeps of that world
abbrev pub taken_in : World → Step → Fact → TakenStep
taken_in w step fact = record { step = step; fact = fact; saved = kept w fact }

-- ---- footprints

-- the frame of a thread, or the item of a key
pub data Cell : Type 0 where
  frame_at : Thread → Cell
  item_at : Key → Cell

pub data Content : Type 0 where
  a_frame : Option Frame → Content
  an_item : Option ItemAttributes → Content

abbrev pub at : World → Cell → Content
at w (frame_at t) = a_frame (w.frames t)
at w (item_at key) = an_item (w.items key)

-- the thread lies under the fork that a step makes or closes
abbrev pub reaches : Fact → Thread → Bool
reaches s t = makes s t || closes s t

-- a branch's first move looks at the thread that forked it
abbrev pub forked_by : Fact → Option Thread
forked_by s = if s.name.no == 1 then option_map (λ b. record { exec = s.name.thread.exec; path = b.0 }) (place_of s.name.thread.path) else None

abbrev pub is_thread : Option Thread → Thread → Bool
is_thread None t = false
is_thread (Some u) t = is_same_thread u t

abbrev pub is_path_end : Option Path → Bool
is_path_end None = false
is_path_end (Some []) = true
is_path_end (Some (b ∷ p)) = false

-- and at the branches for which it waited
abbrev pub looks : Fact → Thread → Bool
looks s t = is_thread (forked_by s) t || is_path_end (awaited_by s t)

-- a step touches its own thread, what lies under the fork that it makes or closes, what a first move looks at, and the item of
-- its key
abbrev pub touches : Effect → Cell → Bool
touches d (frame_at t) = (is_same_thread d.fact.name.thread t || reaches d.fact t) || looks d.fact t
touches d (item_at key) = touches_key d.fact key

-- of these it writes all but what a first move looks at, and an item that it reads
abbrev pub writes : Effect → Cell → Bool
writes d (frame_at t) = is_same_thread d.fact.name.thread t || reaches d.fact t
writes d (item_at key) = writes_key d.fact key

-- what stands afterwards where it writes
abbrev pub leaves : Effect → Cell → Content
leaves d (frame_at t) = a_frame (if is_same_thread d.fact.name.thread t then Some d.frame else if makes d.fact t then begun_frame d t else None)
leaves d (item_at key) = an_item d.item

abbrev pub plans : Setting → Plans World Step Fact Cell Content Effect
plans s = record { at = at; plan = effect_of s; after_effect = after_effect; fact = λ d. d.fact; touches = touches; writes = writes; holds = leaves }
