-- The frames of threads, as they are held in the trees of executions.
use Rattle.std.specs.Prelude.{ℕ, List, Option, Some, None, if◌then◌else◌, option_and_then}
use Rattle.std.specs.BTreeMap.{BTreeMap, get_by_text}
use Rattle.std.specs.Global.{Global}
use Rattle.std.specs.Str.{bytes_eq}
use Rattle.std.specs.declared.string.String.{String}
use Rattle.branch_tree.specs.Frame.{Frame}
use Rattle.branch_tree.specs.FlatMap.{FrameMap, grafted_at}
use Rattle.branch_tree.specs.Paths.{rest_after}
use Rattle.branch_tree.specs.Tree.{Rows, frame_at}
use Rattle.step_names.specs.Thread.{Thread}
use Rattle.saved_steps.specs.World as model

-- the places of executions, by their names
abbrev pub Trees : Type 0
Trees = BTreeMap (String Global) (Option Rows)

-- the tree in a place, if it is not empty
abbrev pub placed : Option (Option Rows) → Option Rows
placed None = None
placed (Some place) = place

-- the tree of an execution: an empty place has none
abbrev pub tree_in : {Y : Type 0} → BTreeMap (String Y) (Option Rows) → List ℕ → Option Rows
tree_in m exec = placed (get_by_text m exec)

abbrev pub rows_at : Option Rows → FrameMap
rows_at rows p = option_and_then (λ r. frame_at r p) rows

-- the frame of a thread: the one at its path in its execution's tree
abbrev pub frames_in : {Y : Type 0} → BTreeMap (String Y) (Option Rows) → Thread → Option Frame
frames_in m t = rows_at (tree_in m t.exec) t.path

-- the frames of one execution, by their paths
abbrev pub paths_of : (Thread → Option Frame) → List ℕ → FrameMap
paths_of frames exec p = frames (record { exec = exec; path = p })

-- the frames, but for a part in place of all that stands at and under a thread
abbrev pub put_at : (Thread → Option Frame) → Thread → FrameMap → Thread → Option Frame
put_at frames a part t = if bytes_eq a.exec t.exec then grafted_at (rest_after a.path t.path) part (frames t) else frames t

-- the frames, but for this one at a thread
abbrev pub with_thread : (Thread → Option Frame) → Thread → Frame → Thread → Option Frame
with_thread frames a f t = if model.is_same_thread a t then Some f else frames t
