-- The frame that a turn, a join or a terminate comes to, and the error with which it fails.
use Rattle.std.specs.Prelude.{ℕ, List, Option, Some, None, option_map, option_and_then, Result, Ok, Err}
use Rattle.json_tree.specs.Data.{Data}
use Rattle.attr_values.specs.declared.key.Key.{Key}
use Rattle.item_store.specs.Deciding.{ItemAttributes, Reply, refused, decision}
use Rattle.item_store.specs.Store.{Store}
use Rattle.item_store.specs.Table.{key_asked, told}
use Rattle.item_store.specs.declared.call.Call.{Call}
use Rattle.item_store.specs.declared.call.Request.{Request}
use Rattle.item_store.specs.declared.fault.CallFault.{CallFault}
use Rattle.asl_forward.specs.Definition.{Definition}
use Rattle.asl_forward.specs.Fault.{Fault}
use Rattle.asl_forward.specs.Frame.{Frame}
use Rattle.asl_forward.specs.Phase.{Phase}
use Rattle.asl_forward.specs.Phase.TheVariants as phase
use Rattle.asl_forward.specs.Results.{state_work, after_answer, after_join, after_branch}
use Rattle.asl_forward.specs.Turn.{located}
use Rattle.asl_forward.specs.declared.prepared.Outcome.{Outcome}
use Rattle.asl_forward.specs.declared.prepared.Outcome.TheVariants as outcome

-- ---- what the table answers

abbrev pub reply_by : Request → Option ItemAttributes → Result Key CallFault → Reply
reply_by request item (Ok key) = (decision request item).answer
reply_by request item (Err e) = refused (told e)

-- what a table of this name and schema answers a call, if this item has the call's key
abbrev pub reply_at : Store → Option ItemAttributes → Call → Reply
reply_at table item c = reply_by c.request item (key_asked table.table table.schema c)

-- ---- the frame afterwards

abbrev pub after_reply : Definition → Frame → Reply → Option Frame
after_reply d f reply = option_and_then (λ at. option_map (λ w. after_answer at.0 w f reply) (state_work at.1)) (located d f)

-- the frame that a turn with this outcome comes to
abbrev pub frame_after : Definition → Frame → Store → Option ItemAttributes → Outcome → Option Frame
frame_after d f table item (outcome.Next g) = Some g
frame_after d f table item (outcome.Call c) = after_reply d f (reply_at table item c)
frame_after d f table item (outcome.Fork g fs) = Some g

-- the frame after a join with these outputs
abbrev pub frame_joined : Definition → Frame → List Data → Option Frame
frame_joined d f outputs = option_and_then (λ at. option_map (λ w. after_join at.0 w f outputs) (state_work at.1)) (located d f)

-- the frame after a branch has ended with this error
abbrev pub frame_terminated : Definition → Frame → Fault → Option Frame
frame_terminated d f fault = option_map (λ at. after_branch at f fault) (located d f)

-- ---- the error

abbrev pub phase_fault : Phase → Option Fault
phase_fault (phase.Failed fault) = Some fault
phase_fault _ = None

-- the error with which a thread of this frame has failed
abbrev pub failed_with : Option Frame → Option Fault
failed_with f = option_and_then (λ g. phase_fault g.phase) f
