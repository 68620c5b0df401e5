use Rattle.std.proofs.Common.{◌≡◌, ◌≤◌, ◌-◌, length, max, vec_capacity}
use Rattle.linked_classes.specs.Cells.{key_at}
use Rattle.linked_classes.proofs.sparse.fill.Given as goal

abbrev pub invariant-loop-keys : goal.invariant-loop-keys
invariant-loop-keys l =
    record {
      same : key_at l.keys.items ≡ key_at l.fn.keys.items;
      longer : length l.fn.keys.items ≤ length l.keys.items;
      most : length l.keys.items ≤ max (length l.fn.keys.items) l.end;
      capacity : vec_capacity l.keys ≡ vec_capacity l.fn.keys;
    }

abbrev pub decreases-loop-keys : goal.decreases-loop-keys
decreases-loop-keys l = l.end - length l.keys.items
