use Rattle.std.proofs.Common.{◌≡◌, ◌<◌, ◌≤◌, ◌-◌, Some, length}
use Rattle.std.specs.Prelude.{slice_get}
use Rattle.linked_classes.specs.declared.numbers.Block.{Block}
use Rattle.linked_classes.proofs.numbers.block_of.Given as goal

abbrev pub invariant-loop-high : goal.invariant-loop-high
invariant-loop-high l = record {
  below : l.low < l.high;
  most : l.high ≤ length l.blocks;
  from : (b : Block) → slice_get l.blocks l.low ≡ Some b → b.start ≤ l.at;
  before : (b : Block) → slice_get l.blocks l.high ≡ Some b → l.at < b.start;
}

abbrev pub decreases-loop-high : goal.decreases-loop-high
decreases-loop-high l = l.high - l.low
