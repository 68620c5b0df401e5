-- Where the frames of histories stand, and which threads can move, in settings whose machines are whole.
use Rattle.std.specs.Prelude.{◌≡◌, ◌≤◌, ◌<◌, ℕ, List, length, Some, IsSome, IfSome, is_some}
use Rattle.asl_tree.specs.Levels.{IsWellFormedThroughout}
use Rattle.asl_frames.specs.declared.frame.Frame.{Frame}
use Rattle.asl_frames.specs.declared.frame.Phase.TheVariants.{Parked}
use Rattle.saved_steps.specs.BranchFirst.{is_free_to_move}
use Rattle.saved_steps.specs.Ready.{readiness_at}
use Rattle.step_names.specs.Thread.{Thread}
use Rattle.saved_steps.specs.Effects.{stands, move_effect}
use Rattle.saved_steps.specs.Held.{frames_of, paths_of, world_view}
use Rattle.saved_steps.specs.World.{Setting, World}
use Rattle.step_history.specs.History.{TakenStep, IsHistory}
use Rattle.step_history.specs.declared.history.History.{History}

-- as machines are that a definition defines
abbrev pub HasWellFormedMachines : Setting → Type 0
HasWellFormedMachines s = (name : List ℕ) → IfSome (s.machines name) IsWellFormedThroughout

-- there is a name for each branch of a thread that is parked over one or more
abbrev pub HasNamesBelow : Thread → Frame → Type 0
HasNamesBelow t f = (n bound : ℕ) → f.phase ≡ Parked n bound → 1 ≤ n → length t.path < 31

-- The frame stands before a state of the setting's machine, as many levels deep as its thread has branches above it.
pub record IsPlaced (s : Setting) (t : Thread) (f : Frame) : Type 0 where
  pub known : IsSome (s.machines f.level.machine)
  pub stands : IsSome (stands s f)
  pub deep : length f.level.path ≡ length t.path
  pub below : HasNamesBelow t f

-- every frame of a history is placed
abbrev pub FramesStand : Type 0
FramesStand =
    (s : Setting) (base : World) (ts : List TakenStep) (h : History) (t : Thread) (f : Frame)
    → HasWellFormedMachines s → IsHistory s base ts h → frames_of h.world t ≡ Some f → IsPlaced s t f

-- a thread has a move just where its frame and its branches say so
abbrev pub ThreadsMoveWhereReady : Type 0
ThreadsMoveWhereReady =
    (s : Setting) (base : World) (ts : List TakenStep) (h : History) (t : Thread)
    → HasWellFormedMachines s → IsHistory s base ts h → is_some (move_effect s (world_view h.world) t) ≡ is_free_to_move (readiness_at (paths_of (frames_of h.world) t.exec) t.path)
