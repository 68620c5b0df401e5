-- The first thread, by the order of names, that has a move and is not passed by.
use Rattle.std.specs.Prelude.{◌≡◌, ◌==◌, ℕ, Bool, true, false, ◌&&◌, not, cond, List, [], ◌∷◌, ◌++◌, Option, Some, None}
use Rattle.std.specs.declared.cmp.Ordering.{Ordering}
use Rattle.std.specs.declared.cmp.Ordering.TheVariants.{Less}
use Rattle.std.specs.Cmp.Lexicographic.{slice_cmp}
use Rattle.step_names.specs.Thread.{Thread, IsThread}
use Rattle.step_names.specs.Order.{branch_cmp}
use Rattle.branch_tree.specs.declared.readiness.Readiness.{Readiness}
use Rattle.branch_tree.specs.declared.readiness.Readiness.TheVariants.{Ready, Join, Terminate, Waiting, Done, Failed, NoThread}
use Rattle.branch_tree.specs.Paths.{Path}
use Rattle.branch_tree.specs.FlatMap.{FrameMap}
use Rattle.branch_tree.specs.Ready.{readiness_under}

abbrev pub is_free_to_move : Readiness → Bool
is_free_to_move Ready = true
is_free_to_move Join = true
is_free_to_move Terminate = true
is_free_to_move Waiting = false
is_free_to_move Done = false
is_free_to_move Failed = false
is_free_to_move NoThread = false

-- the thread that a path leads to from another
abbrev pub thread_under : Thread → Path → Thread
thread_under base p = record { exec = base.exec; path = base.path ++ p }

-- branch by branch, the shorter path first
abbrev pub path_cmp : Path → Path → Ordering
path_cmp = slice_cmp branch_cmp

-- of the threads at and under a base, which may begin or not
abbrev pub is_free : Bool → FrameMap → Thread → (Thread → Bool) → Path → Bool
is_free begins frames base passed p = is_free_to_move (readiness_under begins frames p) && not (passed (thread_under base p))

-- Nothing, where no name of a thread at or under the base is free; or the name of one that is, with none before it.
abbrev pub IsFirstFree : Bool → FrameMap → Thread → (Thread → Bool) → Option Thread → Type 0
IsFirstFree begins frames base passed None = (p : Path) → IsThread (thread_under base p) → is_free begins frames base passed p ≡ false
IsFirstFree begins frames base passed (Some t) =
    (p : Path) × (t ≡ thread_under base p) × (is_free begins frames base passed p ≡ true)
    × ((q : Path) → IsThread (thread_under base q) → path_cmp q p ≡ Less → is_free begins frames base passed q ≡ false)

-- no thread whose path comes before this one is free
abbrev pub NoneBeforePath : Bool → FrameMap → Thread → (Thread → Bool) → Path → Type 0
NoneBeforePath begins frames base passed from = (q : Path) → IsThread (thread_under base q) → path_cmp q from ≡ Less → is_free begins frames base passed q ≡ false

-- the branch of a fork at which a path begins, and the path under it; if it isn't of that fork, the first branch and all of it
abbrev pub branch_from : ℕ → Path → ℕ × Path
branch_from fork [] = (0, [])
branch_from fork ((number, index) ∷ under) = cond (number == fork) (index, under) (0, [])
