-- What a step's undoing gives back.
use Rattle.std.specs.Prelude.{if◌then◌else◌, Option, Some, None}
use Rattle.item_store.specs.Deciding.{ItemAttributes}
use Rattle.item_store.specs.Table.{Table}
use Rattle.branch_tree.specs.Frame.{Frame}
use Rattle.step_names.specs.Thread.{Thread}
use Rattle.saved_steps.specs.Steps.{makes, closes, is_write, writes_key}
use Rattle.saved_steps.specs.World.{World, is_same_thread}
use Rattle.saved_steps.specs.declared.fact.Access.{Access}
use Rattle.saved_steps.specs.declared.fact.Fact.{Fact}

-- the thread's frame, the item at the key of a write, and what lies under the fork that a join or a terminate closes
pub record SavedState : Type 0 where
  pub frame : Option Frame
  pub item : Option ItemAttributes
  pub below : Thread → Option Frame

abbrev pub item_written : Table → Option Access → Option ItemAttributes
item_written items None = None
item_written items (Some a) = if is_write a.mode then items a.key else None

-- what a step keeps of the world in which it is taken
abbrev pub kept : World → Fact → SavedState
kept w s = record { frame = w.frames s.name.thread; item = item_written w.items s.access; below = λ t. if closes s t then w.frames t else None }

-- the world once a step is undone that kept this: what was under a fork goes, and what was under a closed one comes back
abbrev pub undo : World → Fact → SavedState → World
undo w s k = record {
  frames = λ t. if is_same_thread s.name.thread t then k.frame else (if makes s t then None else (if closes s t then k.below t else w.frames t));
  items = λ key. if writes_key s key then k.item else w.items key;
}
