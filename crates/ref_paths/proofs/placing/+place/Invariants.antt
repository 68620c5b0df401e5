use Rattle.std.proofs.Common.{◌+◌, ◌*◌, length}
use Rattle.ref_paths.proofs.placing.+place.Given as goal

-- the steps that are left
abbrev pub decreases-place_in : goal.decreases-place_in
decreases-place_in l = 2 * length l.steps.now

abbrev pub decreases-place_in_field : goal.decreases-place_in_field
decreases-place_in_field l = 2 * length l.rest.now + 1

abbrev pub decreases-place_in_item : goal.decreases-place_in_item
decreases-place_in_item l = 2 * length l.rest.now + 1
