-- The data that a `Json` stands for.
use Rattle.std.specs.Prelude.{ℕ, List, [], Option, Some, None, map}
use Rattle.std.specs.Arc.{arc_value}
use Rattle.std.specs.declared.sync.Arc.{Arc}
use Rattle.std.specs.declared.vec.Vec.{Vec}
use Rattle.json_tree.specs.Data.{Data, null, boolean, whole, text, list, fields, items_of, members_of}
use Rattle.json_tree.specs.declared.tree.Json.{Json}
use Rattle.json_tree.specs.declared.tree.Json.TheVariants.{Null, Bool, Whole, Text, List as ListOf, Fields}
use Rattle.json_tree.specs.declared.tree.Field.{Field}

abbrev pub data_of : Json → Data
data_of Null = null
data_of (Bool b) = boolean b
data_of (Whole z) = whole z
data_of (Text s) = text s
data_of (ListOf ds) = list (items_of ds)
data_of (Fields ms) = fields (members_of ms)

abbrev pub list_of : List Json → List Data
list_of = map data_of

abbrev pub field_of : Field → List ℕ × Data
field_of f = (f.name, data_of f.value)

abbrev pub fields_of : List Field → List (List ℕ × Data)
fields_of = map field_of

-- what a shared node holds, where there is one
abbrev pub held : {X A B : Type 0} → Option (Arc (Vec X A) B) → List X
held None = []
held (Some node) = (arc_value node).items
