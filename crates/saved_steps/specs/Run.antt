-- Steps taken one after another.
use Rattle.std.specs.Prelude.{List, [], ◌∷◌, if◌then◌else◌, Option, Some, None, slice_get, option_map, option_and_then}
use Rattle.attr_values.specs.declared.key.Key.{Key}
use Rattle.item_store.specs.Deciding.{ItemAttributes}
use Rattle.branch_tree.specs.Frame.{Frame}
use Rattle.branch_tree.specs.Paths.{Path, rest_after}
use Rattle.step_names.specs.Thread.{Thread}
use Rattle.saved_steps.specs.Effects.{Effect, effect_of}
use Rattle.saved_steps.specs.Steps.{Step, makes, closes, writes_key}
use Rattle.saved_steps.specs.World.{Setting, World, is_same_thread}
use Rattle.saved_steps.specs.declared.fact.Fact.{Fact}

abbrev pub begun_at : List Frame → Option Path → Option Frame
begun_at branches (Some ((n, i) ∷ [])) = slice_get branches i
begun_at branches (Some ((n, i) ∷ (b ∷ q))) = None
begun_at branches (Some []) = None
begun_at branches None = None

-- the frame with which a thread under a fork begins: that of its branch; nothing stands under a branch yet
abbrev pub begun_frame : Effect → Thread → Option Frame
begun_frame d t = begun_at d.branches (rest_after d.fact.name.thread.path t.path)

-- the frames, with the effect's in place of those of its thread and of the threads under the fork that it makes or closes
abbrev pub frames_after : (Thread → Option Frame) → Effect → Thread → Option Frame
frames_after frames d t =
    if is_same_thread d.fact.name.thread t then Some d.frame else
    if makes d.fact t then begun_frame d t else
    if closes d.fact t then None else frames t

abbrev pub items_after : (Key → Option ItemAttributes) → Effect → Key → Option ItemAttributes
items_after items d key = if writes_key d.fact key then d.item else items key

abbrev pub after_effect : World → Effect → World
after_effect w d = record { frames = frames_after w.frames d; items = items_after w.items d }

-- the world after a step, and what is known of the step
abbrev pub take_step : Setting → World → Step → Option (World × Fact)
take_step s w step = option_map (λ d. (after_effect w d, d.fact)) (effect_of s w step)

-- the steps taken one after another: the world after them, and the fact of each; none where one of them can't be taken
abbrev pub run_steps : Setting → World → List Step → Option (World × List Fact)
run_steps s w [] = Some (w, [])
run_steps s w (step ∷ steps) = option_and_then (λ p. option_map (λ q. (q.0, p.1 ∷ q.1)) (run_steps s p.0 steps)) (take_step s w step)
