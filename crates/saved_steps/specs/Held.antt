-- The world as it is held, in trees and slots, and as the model sees it.
use Rattle.std.specs.Prelude.{Option}
use Rattle.branch_tree.specs.Frame.{Frame}
use Rattle.item_store.specs.Store.{Store, stored_items}
use Rattle.step_names.specs.Thread.{Thread}
use Rattle.saved_steps.specs.World as model
use Rattle.saved_steps.specs.declared.world.World.{World}
pub use Rattle.saved_steps.specs.Places.{placed, tree_in, rows_at, frames_in, paths_of, put_at, with_thread}

-- the frame of a thread: the one at its path in its execution's tree
abbrev pub frames_of : World → Thread → Option Frame
frames_of w = frames_in w.executions.trees

-- the items of the table, as they are held
abbrev pub store_of : World → Store
store_of w = w.items

-- the world as the model sees it
abbrev pub world_view : World → model.World
world_view w = record { frames = frames_of w; items = stored_items w.items }
