-- What a thread can do next, by the flat map alone.
use Rattle.std.specs.Prelude.{ℕ, ◌==◌, Bool, true, false, ◌&&◌, not, [], ◌∷◌, ◌++◌, if◌then◌else◌, Option, Some, None}
use Rattle.std.specs.List.{list_any, list_all, range_with_len}
use Rattle.asl_frames.specs.declared.frame.Frame.{Frame}
use Rattle.asl_frames.specs.declared.frame.Phase.{Phase}
use Rattle.asl_frames.specs.declared.frame.Phase.TheVariants.{Ready, Parked, Done, Failed}
use Rattle.branch_tree.specs.declared.readiness.Readiness.{Readiness}
use Rattle.branch_tree.specs.declared.readiness.Readiness.TheVariants as readiness
use Rattle.branch_tree.specs.Paths.{Path}
use Rattle.branch_tree.specs.Bounds.{BranchPlace, place_of, sibling, bound_in, in_window}
use Rattle.branch_tree.specs.FlatMap.{FrameMap}

abbrev pub is_done : Phase → Bool
is_done Ready = false
is_done (Parked n bound) = false
is_done (Done output) = true
is_done (Failed fault) = false

abbrev pub has_failed : Phase → Bool
has_failed Ready = false
has_failed (Parked n bound) = false
has_failed (Done output) = false
has_failed (Failed fault) = true

-- a test of the phase of the thread at a path
abbrev pub frame_is : (Phase → Bool) → Option Frame → Bool
frame_is test None = false
frame_is test (Some f) = test f.phase

-- the thread is ready, and has made no move
abbrev pub is_ready : Phase → Bool
is_ready Ready = true
is_ready (Parked n bound) = false
is_ready (Done output) = false
is_ready (Failed fault) = false

abbrev pub is_unmoved : Option Frame → Bool
is_unmoved None = false
is_unmoved (Some f) = is_ready f.phase && f.count == 0

-- a frame over n branches joins where all are done, and terminates where one has failed, whatever the others do
abbrev pub progress : Bool → Bool → Readiness
progress failed done = if failed then readiness.Terminate else (if done then readiness.Join else readiness.Waiting)

-- the bound of the fork that a thread is a branch of
abbrev pub bound_over : FrameMap → Option BranchPlace → ℕ
bound_over frames None = 0
bound_over frames (Some b) = bound_in (frames b.0)

-- a branch may begin once all branches for which it waits are done
abbrev pub may_begin : FrameMap → BranchPlace → Bool
may_begin frames b = not (in_window (bound_in (frames b.0)) b.1.1 (λ j. not (frame_is is_done (frames (sibling b j)))))

-- whether a thread may begin; of one that is no branch here, `root` says it
abbrev pub begins_under : Bool → FrameMap → Option BranchPlace → Bool
begins_under root frames None = root
begins_under root frames (Some b) = may_begin frames b

-- a thread that has made no move waits until it may begin
abbrev pub readiness_in : Bool → FrameMap → ℕ → Phase → Readiness
readiness_in begins frames count Ready = if count == 0 && not begins then readiness.Waiting else readiness.Ready
readiness_in begins frames count (Parked n bound) =
    progress (list_any (λ i. frame_is has_failed (frames ((count, i) ∷ []))) (range_with_len 0 n)) (list_all (λ i. frame_is is_done (frames ((count, i) ∷ []))) (range_with_len 0 n))
readiness_in begins frames count (Done output) = readiness.Done
readiness_in begins frames count (Failed fault) = readiness.Failed

abbrev pub readiness_of : Bool → FrameMap → Option Frame → Readiness
readiness_of begins frames None = readiness.NoThread
readiness_of begins frames (Some f) = readiness_in begins frames f.count f.phase

-- of the thread at the root of a map, which may begin or not
abbrev pub root_readiness : Bool → FrameMap → Readiness
root_readiness begins frames = readiness_of begins frames (frames [])

-- of the thread at a path: of the root of what stands at and under the path
abbrev pub readiness_under : Bool → FrameMap → Path → Readiness
readiness_under root frames p = root_readiness (begins_under root frames (place_of p)) (λ q. frames (p ++ q))

-- of the thread at a path of an execution, whose own thread waits for nothing
abbrev pub readiness_at : FrameMap → Path → Readiness
readiness_at frames p = readiness_under true frames p
