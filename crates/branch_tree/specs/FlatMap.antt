-- The frames of an execution as one flat map from path to frame.
use Rattle.std.specs.Prelude.{◌≡◌, ℕ, Bool, true, false, ◌&&◌, [], ◌∷◌, ◌++◌, ◌==◌, nat_lt, if◌then◌else◌, Option, Some, None, IsSome, is_some}
use Rattle.asl_frames.specs.declared.frame.Frame.{Frame}
use Rattle.asl_frames.specs.declared.frame.Phase.{Phase}
use Rattle.asl_frames.specs.declared.frame.Phase.TheVariants.{Ready, Parked, Done, Failed}
use Rattle.branch_tree.specs.Paths.{Path, same_path, rest_after}

abbrev pub FrameMap : Type 0
FrameMap = Path → Option Frame

-- how many branches a frame stands over
abbrev pub branch_count : Phase → ℕ
branch_count Ready = 0
branch_count (Parked n bound) = n
branch_count (Done output) = 0
branch_count (Failed fault) = 0

abbrev pub is_parked : Phase → Bool
is_parked Ready = false
is_parked (Parked n bound) = true
is_parked (Done output) = false
is_parked (Failed fault) = false

-- what a frame without branches has at and under its path
abbrev pub alone : Frame → FrameMap
alone frame [] = Some frame
alone frame (b ∷ q) = None

-- the same frames, but for this one at a path
abbrev pub with_frame : FrameMap → Path → Frame → FrameMap
with_frame frames p frame q = if same_path p q then Some frame else frames q

abbrev pub grafted_at : Option Path → FrameMap → Option Frame → Option Frame
grafted_at None part old = old
grafted_at (Some r) part old = part r

-- the same frames, but for a part in place of all that stands at and under a path
abbrev pub grafted : FrameMap → Path → FrameMap → FrameMap
grafted frames p part q = grafted_at (rest_after p q) part (frames q)

-- A frame parked over n branches has those of its own last move, 0 to n - 1, and no other frame has one; what has no
-- frame has no branches.
pub record IsTree (frames : FrameMap) : Type 0 where
  pub root : IsSome (frames [])
  pub branches : (p : Path) (f : Frame) → frames p ≡ Some f → (b : ℕ × ℕ) → is_some (frames (p ++ b ∷ [])) ≡ (f.count == b.0 && nat_lt b.1 (branch_count f.phase))
  pub nothing_below : (p : Path) → frames p ≡ None → (b : ℕ × ℕ) → frames (p ++ b ∷ []) ≡ None
