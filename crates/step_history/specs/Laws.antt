-- What is true of histories.
use Rattle.std.specs.Prelude.{◌≡◌, ◌≤◌, ◌+◌, ℕ, true, List, [], ◌∷◌, ◌++◌, length, Some}
use Rattle.asl_frames.specs.declared.frame.Frame.{Frame}
use Rattle.saved_steps.specs.FlatMap.{is_parked}
use Rattle.step_names.specs.Thread.{Thread}
use Rattle.trace_theory.specs.Traces.{IsRun, IsMaximal, IsBackwardOrder, In, Takes, undone, undo_each, without, consequences}
use Rattle.saved_steps.specs.Held.{frames_of, world_view}
use Rattle.saved_steps.specs.World.{Setting, World}
use Rattle.depends.specs.Instance.{steps}
pub use Rattle.depends.specs.Laws.{ExtendsSetting}
use Rattle.step_history.specs.History.{TakenStep, IsHistory}
use Rattle.step_history.specs.declared.history.History.{History}

-- a frame counts no further than the base's frames and so many steps more, and a parked one has made one
abbrev pub FramesAreCounted : Type 0
FramesAreCounted =
    (s : Setting) (base : World) (ts : List TakenStep) (h : History) (t : Thread) (f : Frame) (n : ℕ)
    → ((u : Thread) (g : Frame) → base.frames u ≡ Some g → g.count ≤ n)
    → IsHistory s base ts h → frames_of h.world t ≡ Some f → (f.count ≤ n + length ts) × (is_parked f.phase ≡ true → 1 ≤ f.count)

-- a history stays one where machines are defined
abbrev pub MoreMachinesKeepHistories : Type 0
MoreMachinesKeepHistories = (s more : Setting) (base : World) (ts : List TakenStep) (h : History) → ExtendsSetting s more → IsHistory s base ts h → IsHistory more base ts h

-- Every order in which each step is free at its turn leaves the run of the rest, and takes with each step all its consequences.
abbrev pub BackwardOrdersUndo : Type 0
BackwardOrdersUndo =
    (s : Setting) (base : World) (ts xs : List TakenStep) (h : History) → IsHistory s base ts h → IsBackwardOrder (steps s) ts xs
    → IsRun (steps s) base (without (steps s) xs ts) (undo_each (steps s) (world_view h.world) xs)
    × ((x y : TakenStep) → In x xs → In y (consequences (steps s) ts x.step) → In y xs)

-- a free step that is undone can be taken again, and then stands last, with all as before
abbrev pub MaximalStepsReturn : Type 0
MaximalStepsReturn =
    (s : Setting) (base : World) (ts : List TakenStep) (t : TakenStep) (h : History) → IsHistory s base ts h → IsMaximal (steps s) ts t
    → Takes (steps s) (undone (steps s) (world_view h.world) t) t (world_view h.world) × IsRun (steps s) base (without (steps s) (t ∷ []) ts ++ t ∷ []) (world_view h.world)
