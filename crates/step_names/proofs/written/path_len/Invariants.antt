use Rattle.std.proofs.Common.{◌+◌, ◌*◌, ◌≡◌, ◌≤◌, length, drop}
use Rattle.std.specs.List.{flat_map}
use Rattle.step_names.specs.Written.{branch_text}
use Rattle.step_names.proofs.written.path_len.Given as goal

abbrev pub invariant-loop-branch : goal.invariant-loop-branch
invariant-loop-branch l =
    (l.len + length (flat_map branch_text (drop l.branch-index l.path)) ≡ length (flat_map branch_text l.path)) × (l.len ≤ 22 * l.branch-index)
