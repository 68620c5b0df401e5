use Rattle.std.proofs.Common.{◌+◌, ◌≡◌, ◌≤◌, ◌++◌, length, drop, string_bytes, string_len}
use Rattle.std.specs.String.{string_capacity}
use Rattle.std.specs.List.{flat_map}
use Rattle.step_names.specs.Written.{branch_text}
use Rattle.step_names.proofs.written.push_path.Given as goal

abbrev pub invariant-loop-branch : goal.invariant-loop-branch
invariant-loop-branch l = record {
  bytes : string_bytes l.out ++ flat_map branch_text (drop l.branch-index l.path) ≡ string_bytes l.initial.out ++ flat_map branch_text l.path;
  len : string_len l.out + length (flat_map branch_text (drop l.branch-index l.path)) ≡ string_len l.initial.out + length (flat_map branch_text l.path);
  room : string_len l.out + length (flat_map branch_text (drop l.branch-index l.path)) ≤ string_capacity l.out;
  capacity : string_capacity l.initial.out ≤ string_capacity l.out;
}
