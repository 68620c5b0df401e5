-- What is known beforehand of how deep the values of a list or of an object nest.
use Rattle.std.specs.Prelude.{◌≡◌, ℕ, Option, None, Some}
use Rattle.json_tree.specs.declared.told.Told.{Told}

-- where it is known, it is so
abbrev pub IsLevels : Option ℕ → ℕ → Type 0
IsLevels None n = Unit {0}
IsLevels (Some d) n = d ≡ n

abbrev pub IsTold : Told → ℕ → Type 0
IsTold t n = IsLevels t.levels n
