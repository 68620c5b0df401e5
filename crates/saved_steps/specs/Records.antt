-- What a record says that its step kept.
use Rattle.std.specs.Prelude.{List, if◌then◌else◌, Option, Some, None, option_and_then}
use Rattle.branch_tree.specs.Frame.{Frame}
use Rattle.branch_tree.specs.Paths.{rest_after}
use Rattle.branch_tree.specs.Tree.{Rows, node_at}
use Rattle.item_store.specs.Deciding.{ItemAttributes}
use Rattle.step_names.specs.Thread.{Thread}
use Rattle.saved_steps.specs.Saving.{SavedState}
use Rattle.saved_steps.specs.Steps.{closes}
use Rattle.saved_steps.specs.declared.fact.Fact.{Fact}
use Rattle.saved_steps.specs.declared.record.Saved.{Saved}
use Rattle.saved_steps.specs.declared.record.Saved.TheVariants.{Started, Framed, Called, Forked, Closed}
use Rattle.saved_steps.specs.declared.record.StepRecord.{StepRecord}

-- a frame and an item, and nothing below
abbrev pub keeps : Option Frame → Option ItemAttributes → SavedState
keeps frame item = record { frame = frame; item = item; below = λ _. None }

-- what lay under the fork that a step closes: the branches, each under its number
abbrev pub was_below : Fact → Frame → List Rows → Thread → Option Frame
was_below s frame kids t = if closes s t then option_and_then (node_at frame kids) (rest_after s.name.thread.path t.path) else None

abbrev pub saved_of : Fact → Saved → SavedState
saved_of s Started = keeps None None
saved_of s (Framed frame) = keeps (Some frame) None
saved_of s (Called frame slot old) = keeps (Some frame) old
saved_of s (Forked frame) = keeps (Some frame) None
saved_of s (Closed frame kids) = record { frame = Some frame; item = None; below = was_below s frame kids.items }

abbrev pub saved_by : StepRecord → SavedState
saved_by r = saved_of r.fact r.saved
