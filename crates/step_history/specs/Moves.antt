-- What a thread's move is to do, as it is worked out from a history.
use Rattle.std.specs.Prelude.{◌≡◌, ℕ, List, map, Option, Some, None, IfSome, option_and_then}
use Rattle.std.specs.List.{range_with_len}
use Rattle.json_tree.specs.Data.{Data}
use Rattle.asl_tree.specs.Definition.{Definition}
use Rattle.asl_frames.specs.declared.frame.Fault.{Fault}
use Rattle.asl_frames.specs.declared.frame.Frame.{Frame}
use Rattle.step_names.specs.Thread.{Thread, child_of}
use Rattle.saved_steps.specs.Effects.{effect_of, next_step, move_effect, fault_of, output_of, first_fault, outputs}
use Rattle.saved_steps.specs.Held.{frames_of, world_view}
use Rattle.saved_steps.specs.Made.{CanMake, effect_of_next}
use Rattle.saved_steps.specs.Steps.{moved}
use Rattle.saved_steps.specs.World.{Setting}
use Rattle.saved_steps.specs.declared.next.Next.{Next}
use Rattle.saved_steps.specs.declared.next.Next.TheVariants.{Begin, Work as WorkOn, Join, Terminate}
use Rattle.asl_forward.specs.Results.{Work, state_work, work_at, after_join, after_branch}
use Rattle.asl_frames.specs.Turn.{Location, located}
use Rattle.saved_steps.specs.declared.world.World.{World}

-- the machine is the setting's of a frame's level
abbrev pub IsMachineOf : Setting → Option Frame → Definition → Type 0
IsMachineOf s frame machine = IfSome frame (λ f. s.machines f.level.machine ≡ Some machine)

-- The thread's next step does what this next says, and can be made; or it has no move.
abbrev pub IsMoveOf : Setting → World → Thread → Option Next → Type 0
IsMoveOf s w t None = move_effect s (world_view w) t ≡ None
IsMoveOf s w t (Some next) =
    (f : Frame) × (frames_of w t ≡ Some f) × CanMake w (next_step t f) next × (effect_of s (world_view w) (moved (next_step t f)) ≡ effect_of_next w (next_step t f) next)

-- ---- branches

-- the frames of some branches of a thread's fork, from one of this number on
abbrev pub branches_of : World → Thread → ℕ → ℕ → ℕ → List (Option Frame)
branches_of w t fork first count = map (λ i. frames_of w (child_of t fork i)) (range_with_len first count)

abbrev pub fault_in : Option Frame → Option Fault
fault_in f = option_and_then (λ g. fault_of g.phase) f

abbrev pub output_in : Option Frame → Option Data
output_in f = option_and_then (λ g. output_of g.phase) f

-- what is to be done with these branches, where one has failed or all are done
abbrev pub IsCloseOf : Definition → Frame → List (Option Frame) → Option Next → Type 0
IsCloseOf d f branches None = (first_fault branches ≡ None) × (option_and_then (λ work. outputs branches) (work_at d f) ≡ None)
IsCloseOf d f branches (Some (Begin g)) = ⊥
IsCloseOf d f branches (Some (WorkOn p)) = ⊥
IsCloseOf d f branches (Some (Join g)) =
    (at : Location) × (w : Work) × (ds : List Data) × (located d f ≡ Some at) × (state_work at.1 ≡ Some w) × (first_fault branches ≡ None) × (outputs branches ≡ Some ds) × (g ≡ after_join at.0 w f ds)
IsCloseOf d f branches (Some (Terminate g)) = (at : Location) × (fault : Fault) × (located d f ≡ Some at) × (first_fault branches ≡ Some fault) × (g ≡ after_branch at f fault)
