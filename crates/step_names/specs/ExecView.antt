-- The bytes of an execution's name, however they are held.
use Rattle.std.specs.Prelude.{ℕ, List, string_bytes}
use Rattle.step_names.specs.declared.exec_name.ExecBytes.{ExecBytes}
use Rattle.step_names.specs.declared.exec_name.ExecBytes.TheVariants.{Shared, Roomed}

abbrev pub exec_bytes : ExecBytes → List ℕ
exec_bytes (Shared text) = text
exec_bytes (Roomed string) = string_bytes string
