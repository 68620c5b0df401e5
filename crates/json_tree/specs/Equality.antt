-- What `==` says of two values.
use Rattle.std.specs.Prelude.{◌≡◌, ◌↔◌, true}
use Rattle.std.specs.Ordering.{eq_by_cmp, on}
use Rattle.json_tree.specs.Order.{data_cmp}
use Rattle.json_tree.specs.View.{data_of}
use Rattle.json_tree.specs.declared.tree.Json.{Json}

-- `==` answers true of one value, and of no two
abbrev pub EqualityIsOfValues : Type 0
EqualityIsOfValues = (a b : Json) → (eq_by_cmp (on data_of data_cmp) a b ≡ true) ↔ (a ≡ b)
