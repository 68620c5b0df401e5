-- A node of the tree, flattened: its frame, and what lies under each branch.
use Rattle.std.specs.Prelude.{◌≡◌, ℕ, ◌+◌, List, [], ◌∷◌, ◌++◌, length, ◌==◌, if◌then◌else◌, Option, Some, None, map, slice_get}
use Rattle.std.specs.Option.{option_and_then}
use Rattle.std.specs.List.{All}
use Rattle.std.specs.Coded.{Coded, coded×, coded_ℕ, coded_list}
use Rattle.asl_frames.specs.declared.frame.Frame.{Frame}
use Rattle.asl_frames.specs.contracts.frame.Frame as frame
use Rattle.branch_tree.specs.Paths.{Path, same_path}
use Rattle.branch_tree.specs.FlatMap.{FrameMap, IsTree, branch_count}

-- the paths that have a frame, each before those under it, the branches in order
abbrev pub Rows : Type 0
Rows = List (Path × Frame)

abbrev pub rows_code : Coded Rows
rows_code = coded_list (coded× (coded_list (coded× coded_ℕ coded_ℕ)) frame.the_row.coded)

abbrev pub under : ℕ × ℕ → Rows → Rows
under b rows = map (λ e. (b ∷ e.0, e.1)) rows

abbrev pub rows_from : ℕ → ℕ → List Rows → Rows
rows_from fork i [] = []
rows_from fork i (kid ∷ kids) = under (fork, i) kid ++ rows_from fork (i + 1) kids

abbrev pub flat : Frame → List Rows → Rows
flat frame kids = ([], frame) ∷ rows_from frame.count 0 kids

abbrev pub frame_at : Rows → Path → Option Frame
frame_at [] q = None
frame_at (e ∷ rows) q = if same_path e.0 q then Some e.1 else frame_at rows q

-- a frame with nothing under it
abbrev pub leaf : Frame → Rows
leaf frame = ([], frame) ∷ []

-- what the branches of a fork have, each at its index
abbrev pub branch_at : ℕ → List Rows → ℕ × ℕ → Path → Option Frame
branch_at fork kids b q = if fork == b.0 then option_and_then (λ kid. frame_at kid q) (slice_get kids b.1) else None

-- what a frame with branches has at and under its path
abbrev pub node_at : Frame → List Rows → FrameMap
node_at frame kids [] = Some frame
node_at frame kids (b ∷ q) = branch_at frame.count kids b q

-- the branches are as many as the frame is parked over, and each is a tree
pub record IsNode (frame : Frame) (kids : List Rows) : Type 0 where
  pub counted : length kids ≡ branch_count frame.phase
  pub trees : All (λ kid. IsTree (frame_at kid)) kids
