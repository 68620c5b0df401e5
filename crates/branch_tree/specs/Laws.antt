-- Laws over the calls of a tree, by what their contracts say.
use Rattle.std.specs.Prelude.{◌∷◌, ℕ, ◌<◌, ◌≡◌, ◌++◌, Some}
use Rattle.asl_frames.specs.declared.frame.Frame.{Frame}
use Rattle.branch_tree.specs.Paths.{Path, rest_after}
use Rattle.branch_tree.specs.FlatMap.{FrameMap, IsTree, grafted, alone, branch_count}
use Rattle.step_names.specs.Thread.{Thread}
use Rattle.step_names.specs.Order.{thread_cmp}
use Rattle.branch_tree.specs.First.{thread_under, path_cmp}

-- What is taken out at a path is what stood there, and what is put in its place has no branches. Given back, the frames
-- are what they were.
abbrev pub GivenBack : Type 0
GivenBack =
    (before after again part : FrameMap) (p : Path) (put : Frame)
    → ((q : Path) → before (p ++ q) ≡ part q)
    → ((q : Path) → after q ≡ grafted before p (alone put) q)
    → ((q : Path) → again q ≡ grafted after p part q)
    → again ≡ before

-- Branches that a fork made are taken out as they were given, and once the old frame stands at the path again the frames
-- are what they were.
abbrev pub ForkTakenBack : Type 0
ForkTakenBack =
    (before forked after part taken : FrameMap) (p : Path) (old : Frame)
    → ((q : Path) → before (p ++ q) ≡ alone old q)
    → ((q : Path) → forked q ≡ grafted before p part q)
    → ((q : Path) → forked (p ++ q) ≡ taken q)
    → ((q : Path) → after q ≡ grafted forked p (alone old) q)
    → (taken ≡ part) × (after ≡ before)

-- a path goes on from another by what is put after it, and by that alone
abbrev pub RestIsExact : Type 0
RestIsExact = ((p r : Path) → rest_after p (p ++ r) ≡ Some r) × ((p q r : Path) → rest_after p q ≡ Some r → q ≡ p ++ r)

-- names that go on from one name are ordered by what they go on by
abbrev pub NamesByPath : Type 0
NamesByPath = (base : Thread) (p q : Path) → thread_cmp (thread_under base p) (thread_under base q) ≡ path_cmp p q

-- a thread under a branch of another has a frame only while that other is parked over this branch, since its last move
abbrev pub BelowIsParked : Type 0
BelowIsParked =
    (frames : FrameMap) (p r : Path) (b : ℕ × ℕ) (f : Frame) → IsTree frames → frames (p ++ b ∷ r) ≡ Some f
    → (g : Frame) × (frames p ≡ Some g) × (b.0 ≡ g.count) × (b.1 < branch_count g.phase)
