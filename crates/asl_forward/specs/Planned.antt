-- The turn of a frame that stands in a machine.
use Rattle.std.specs.Prelude.{◌≡◌, Bool, true, false, IsTrue, Option, Some, option_map}
use Rattle.asl_frames.specs.Definition.{Definition}
use Rattle.asl_forward.specs.Outcomes.{turn}
use Rattle.asl_frames.specs.Turn.{located}
use Rattle.asl_frames.specs.declared.frame.Frame.{Frame}
use Rattle.asl_forward.specs.declared.prepared.Outcome.{Outcome}
use Rattle.asl_forward.specs.declared.prepared.Outcome.TheVariants as outcome

-- whether a turn comes to a call of the table
abbrev pub asks_table : Outcome → Bool
asks_table (outcome.Next f) = false
asks_table (outcome.Call c) = true
asks_table (outcome.Fork f fs) = false

-- what the turn of a frame that stands in this machine comes to
abbrev pub turn_at : Definition → Frame → Option Outcome
turn_at machine f = option_map (λ at. turn at f) (located machine f)

-- the turn of a frame that stands in this machine comes to a call of the table
pub record IsAsking (machine : Definition) (frame : Frame) : Type 0 where
  pub outcome : Outcome
  pub turns : turn_at machine frame ≡ Some outcome
  pub asks : IsTrue (asks_table outcome)
