-- What a node keeps of its branches: by the number that are done before the first that is not, a branch is told to begin.
use Rattle.std.specs.Prelude.{◌≡◌, ◌<◌, ℕ, suc, ◌+◌, ◌-◌, ◌==◌, Bool, true, false, ◌||◌, List, [], ◌∷◌, length, get_or, set, nat_lt, if◌then◌else◌}
use Rattle.std.specs.List.{slice_get}
use Rattle.std.specs.Option.{option_and_then}
use Rattle.asl_frames.specs.declared.frame.Frame.{Frame}
use Rattle.branch_tree.specs.Ready.{frame_is, is_done, has_failed}
use Rattle.branch_tree.specs.Tree.{Rows, frame_at, IsNode}

abbrev pub leading_done : List Rows → ℕ
leading_done [] = 0
leading_done (kid ∷ kids) = if frame_is is_done (frame_at kid []) then suc (leading_done kids) else 0

abbrev pub is_in_turn : ℕ → ℕ → ℕ → Bool
is_in_turn bound leading index = bound == 0 || nat_lt (index - leading) bound

-- whether the branch of this index is done
abbrev pub done_at : List Rows → ℕ → Bool
done_at kids j = frame_is is_done (option_and_then (λ kid. frame_at kid []) (slice_get kids j))

abbrev pub one_if : Bool → ℕ
one_if true = 1
one_if false = 0

abbrev pub failures : List Rows → ℕ
failures [] = 0
failures (kid ∷ kids) = one_if (frame_is has_failed (frame_at kid [])) + failures kids

-- so many are done before the first that is not, and so many have failed
pub record AreCounted (kids : List Rows) (done lost : ℕ) : Type 0 where
  pub leading : done ≡ leading_done kids
  pub failed : lost ≡ failures kids

-- these were counted so before one was changed, of which it is known whether it had failed
abbrev pub WereCounted : List Rows → ℕ → ℕ → ℕ → Bool → Type 0
WereCounted kids done lost index was =
    (before : List Rows) × (old : Rows) × (new : Rows) × (index < length before) × (old ≡ get_or before index old)
    × (was ≡ frame_is has_failed (frame_at old [])) × (kids ≡ set before index new) × AreCounted before done lost

-- a frame, its branches, and what is kept of them
pub record IsFork (frame : Frame) (kids : List Rows) (done lost : ℕ) : Type 0 where
  pub node : IsNode frame kids
  pub counts : AreCounted kids done lost
