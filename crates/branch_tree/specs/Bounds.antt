-- How many branches of a fork may run at a time ("Map State", MaxConcurrency): a branch begins once each branch that stands
-- so far before it is done.
use Rattle.std.specs.Prelude.{ℕ, zero, suc, ◌+◌, ◌==◌, Bool, false, ◌&&◌, ◌||◌, not, nat_le, [], ◌∷◌, ◌++◌, Option, Some, None}
use Rattle.asl_frames.specs.declared.frame.Frame.{Frame}
use Rattle.asl_frames.specs.declared.frame.Phase.{Phase}
use Rattle.asl_frames.specs.declared.frame.Phase.TheVariants.{Ready, Parked, Done, Failed}
use Rattle.branch_tree.specs.Paths.{Path}

-- the bound of the fork over which a thread is parked; 0 is none
abbrev pub bound_of : Phase → ℕ
bound_of Ready = 0
bound_of (Parked n bound) = bound
bound_of (Done output) = 0
bound_of (Failed fault) = 0

abbrev pub bound_in : Option Frame → ℕ
bound_in None = 0
bound_in (Some f) = bound_of f.phase

-- ---- a branch's place: the path of the thread that forked it, and which branch of which of that thread's steps it is

abbrev pub BranchPlace : Type 0
BranchPlace = Path × (ℕ × ℕ)

abbrev pub place_by : ℕ × ℕ → Path → BranchPlace
place_by b [] = ([], b)
place_by b (c ∷ p) = let q = place_by c p in (b ∷ q.0, q.1)

-- none for an execution's own thread
abbrev pub place_of : Path → Option BranchPlace
place_of [] = None
place_of (b ∷ p) = Some (place_by b p)

-- the branch of this index of the same fork
abbrev pub sibling : BranchPlace → ℕ → Path
sibling b j = b.0 ++ (b.1.0, j) ∷ []

-- ---- the branches for which a branch waits

abbrev pub any_below : ℕ → (ℕ → Bool) → Bool
any_below zero test = false
any_below (suc n) test = any_below n test || test n

-- under this bound the branch of index i waits for each branch j with j + bound <= i: one of these passes the test
abbrev pub in_window : ℕ → ℕ → (ℕ → Bool) → Bool
in_window bound i test = not (bound == 0) && any_below i (λ j. nat_le (j + bound) i && test j)
