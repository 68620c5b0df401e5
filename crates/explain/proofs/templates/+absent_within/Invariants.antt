use Rattle.std.proofs.Common.{◌+◌, ◌*◌}
use Rattle.explain.proofs.templates.+absent_within.Given as goal

abbrev pub decreases-absent_within : goal.decreases-absent_within
decreases-absent_within l = 3 * l.levels

abbrev pub decreases-absent_in_list : goal.decreases-absent_in_list
decreases-absent_in_list l = 3 * l.levels + 1

abbrev pub decreases-absent_in_field : goal.decreases-absent_in_field
decreases-absent_in_field l = 3 * l.levels + 1

abbrev pub decreases-absent_in_fields : goal.decreases-absent_in_fields
decreases-absent_in_fields l = 3 * l.levels + 2
