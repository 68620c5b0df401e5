use Rattle.std.proofs.Common.{◌≡◌, drop}
use Rattle.json_tree.specs.View.{data_of}
use Rattle.ref_paths.specs.Picking.{pick_at}
use Rattle.ref_paths.proofs.picking.pick_steps.Given as goal

-- what is left of the path picks from here what the whole path picks from the root
abbrev pub invariant-loop-step : goal.invariant-loop-step
invariant-loop-step l = pick_at (drop l.step-index l.steps) (data_of l.current) ≡ pick_at l.steps (data_of l.root)
