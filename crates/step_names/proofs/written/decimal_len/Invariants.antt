use Rattle.std.proofs.Common.{◌+◌, ◌≡◌, ◌≤◌, length}
use Rattle.std.specs.Fmt.{decimal}
use Rattle.step_names.proofs.written.decimal_len.Given as goal

abbrev pub invariant-loop-rest : goal.invariant-loop-rest
invariant-loop-rest l =
    (l.len + length (decimal l.rest) ≡ 1 + length (decimal l.number)) × (l.rest ≤ l.number) × (1 ≤ length (decimal l.rest)) × (length (decimal l.number) ≤ 10)

abbrev pub decreases-loop-rest : goal.decreases-loop-rest
decreases-loop-rest l = l.rest
