-- The first thread of all executions, by the order of names, that has a move and is not passed by.
use Rattle.std.specs.Prelude.{◌≡◌, ℕ, List, Bool, true, false, ◌&&◌, not, Option, Some, None}
use Rattle.std.specs.BTreeMap.{BTreeMap}
use Rattle.std.specs.Cmp.Lexicographic.{slice_cmp}
use Rattle.std.specs.Ordering.{nat_cmp}
use Rattle.std.specs.Str.{bytes_eq}
use Rattle.std.specs.declared.string.String.{String}
use Rattle.std.specs.declared.cmp.Ordering.TheVariants.{Less}
use Rattle.branch_tree.specs.Frame.{Frame}
use Rattle.branch_tree.specs.First.{is_free_to_move}
use Rattle.branch_tree.specs.Paths.{Path}
use Rattle.branch_tree.specs.Ready.{readiness_at}
use Rattle.step_names.specs.Order.{thread_cmp}
use Rattle.step_names.specs.Thread.{Thread, IsThread}
use Rattle.branch_tree.specs.Tree.{Rows}
use Rattle.saved_steps.specs.Places.{frames_in, paths_of}

abbrev pub free : (Thread → Option Frame) → (Thread → Bool) → Thread → Bool
free frames passed t = is_free_to_move (readiness_at (paths_of frames t.exec) t.path) && not (passed t)

-- Nothing, where no thread is free; or the name of one that is, with none before it.
abbrev pub IsFirstReady : (Thread → Option Frame) → (Thread → Bool) → Option Thread → Type 0
IsFirstReady frames passed None = (t : Thread) → IsThread t → free frames passed t ≡ false
IsFirstReady frames passed (Some t) =
    IsThread t × (free frames passed t ≡ true) × ((u : Thread) → IsThread u → thread_cmp u t ≡ Less → free frames passed u ≡ false)

-- no thread before the one at this path in this execution is free
abbrev pub NoneBeforeThread : (Thread → Option Frame) → (Thread → Bool) → List ℕ → Path → Type 0
NoneBeforeThread frames passed name path = (t : Thread) → IsThread t → thread_cmp t (record { exec = name; path = path }) ≡ Less → free frames passed t ≡ false

-- no thread of an execution before this name is free
abbrev pub NoneFreeBefore : (Thread → Option Frame) → (Thread → Bool) → List ℕ → Type 0
NoneFreeBefore frames passed name = (t : Thread) → IsThread t → slice_cmp nat_cmp t.exec name ≡ Less → free frames passed t ≡ false

-- ---- executions that are gone by

-- an execution whose name is before this one, and is not that of the one that is awake
pub record IsGoneBy (name awake exec : List ℕ) : Type 0 where
  pub before : slice_cmp nat_cmp exec name ≡ Less
  pub sleeps : bytes_eq awake exec ≡ false

-- no thread of these is free, whichever are passed by
abbrev pub AreQuiet : {Y : Type 0} → BTreeMap (String Y) (Option Rows) → List ℕ → List ℕ → Type 0
AreQuiet trees name awake = (passed : Thread → Bool) (t : Thread) → IsThread t → IsGoneBy name awake t.exec → free (frames_in trees) passed t ≡ false
