-- Items as lists of names and values.
use Rattle.std.specs.Prelude.{ℕ, List, Option}
use Rattle.std.specs.BTreeMap.{is_at}
use Rattle.std.specs.List.Sorted.{IsStrictlySortedBy}
use Rattle.std.specs.Map.{keys_of, lookup}
use Rattle.json_tree.specs.Fields.{text_cmp}
use Rattle.attr_values.specs.Datum.{Datum}

-- the value of a name
abbrev pub get_attribute : List ℕ → List (List ℕ × Datum) → Option Datum
get_attribute name ms = lookup (is_at (text_cmp name)) ms

-- each name stands once, and the names rise
abbrev pub IsItemInNameOrder : List (List ℕ × Datum) → Type 0
IsItemInNameOrder ms = IsStrictlySortedBy text_cmp (keys_of ms)
