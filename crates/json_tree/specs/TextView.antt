-- The bytes of a text, however it is held.
use Rattle.std.specs.Prelude.{ℕ, List, string_bytes}
use Rattle.std.specs.Arc.{arc_value}
use Rattle.json_tree.specs.declared.text.TextBytes.{TextBytes}
use Rattle.json_tree.specs.declared.text.TextBytes.TheVariants.{Short, Shared}

abbrev pub held_bytes : TextBytes → List ℕ
held_bytes (Short s) = s
held_bytes (Shared node) = string_bytes (arc_value node)
