use Rattle.std.proofs.Common.{◌≡◌, true, take}
use Rattle.std.specs.List.{list_all}
use Rattle.ref_paths.specs.Grammar.{is_path_name_byte}
use Rattle.ref_paths.proofs.reading.name_len.Given as goal

abbrev pub invariant-loop-i : goal.invariant-loop-i
invariant-loop-i l = list_all is_path_name_byte (take l.i l.bytes) ≡ true
