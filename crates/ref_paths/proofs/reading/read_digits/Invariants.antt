use Rattle.std.proofs.Common.{take}
use Rattle.ref_paths.specs.Scanner.{IsIndexSoFar}
use Rattle.ref_paths.proofs.reading.read_digits.Given as goal

abbrev pub invariant-loop-end : goal.invariant-loop-end
invariant-loop-end l = IsIndexSoFar l.index (take l.end l.bytes)
