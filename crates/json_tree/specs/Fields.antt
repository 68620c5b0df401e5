-- Fields as a list of names and values, in the order of the names' bytes.
use Rattle.std.specs.Prelude.{ℕ, ◌==◌, List, Bool, Option}
use Rattle.std.specs.declared.cmp.Ordering.{Ordering}
use Rattle.std.specs.BTreeMap.{insert_entry, is_at}
use Rattle.std.specs.Cmp.Lexicographic.{slice_cmp}
use Rattle.std.specs.List.Sorted.{IsStrictlySortedBy}
use Rattle.std.specs.Map.{keys_of, lookup, remove_entry}
use Rattle.std.specs.Ordering.{nat_cmp}
use lib.Pointwise.{pointwise}
use Rattle.json_tree.specs.Data.{Data}

-- the order of texts: the first byte that differs decides, and else the shorter text is less
abbrev pub text_cmp : List ℕ → List ℕ → Ordering
text_cmp = slice_cmp nat_cmp

-- whether two texts have the same bytes
abbrev pub is_text : List ℕ → List ℕ → Bool
is_text = pointwise ◌==◌

-- each name stands once, and the names rise
abbrev pub IsInNameOrder : List (List ℕ × Data) → Type 0
IsInNameOrder ms = IsStrictlySortedBy text_cmp (keys_of ms)

-- the value of a name
abbrev pub get_field : List ℕ → List (List ℕ × Data) → Option Data
get_field name ms = lookup (is_at (text_cmp name)) ms

-- the fields, with this value at the name: it replaces the name's value, or comes at the name's place in the order
abbrev pub with_field : List ℕ → Data → List (List ℕ × Data) → List (List ℕ × Data)
with_field name d ms = insert_entry text_cmp ms name d

-- the fields but the one of this name
abbrev pub without_field : List ℕ → List (List ℕ × Data) → List (List ℕ × Data)
without_field name ms = remove_entry (is_at (text_cmp name)) ms
