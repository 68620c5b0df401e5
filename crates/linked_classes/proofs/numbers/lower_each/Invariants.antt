use Rattle.std.proofs.Common.{◌≡◌, ◌≤◌, ◌-◌, ℕ, Some, length}
use Rattle.std.specs.Prelude.{slice_get}
use Rattle.linked_classes.specs.Numbers.{lowered_blocks}
use Rattle.linked_classes.specs.declared.numbers.Block.{Block}
use Rattle.linked_classes.proofs.numbers.lower_each.Given as goal

abbrev pub invariant-loop-at : goal.invariant-loop-at
invariant-loop-at l = record {
  same : lowered_blocks l.at l.blocks ≡ lowered_blocks l.fn.from l.fn.blocks;
  ones : (k : ℕ) (b : Block) → l.at ≤ k → slice_get l.blocks k ≡ Some b → 1 ≤ b.start;
}

abbrev pub decreases-loop-at : goal.decreases-loop-at
decreases-loop-at l = length l.blocks - l.at
