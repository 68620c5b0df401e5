-- What a list or some fields hold nests less deep than they do.
use denote.Param.Weighed.{most}
use Rattle.std.specs.Prelude.{◌≤◌, List, [], ◌∷◌, Option, Some, None}
use Rattle.std.specs.Arc.{arc_value}
use Rattle.std.specs.declared.sync.Arc.{Arc}
use Rattle.std.specs.declared.vec.Vec.{Vec}
use Rattle.std.proofs.Common.{arith}
use Rattle.json_tree.specs.Data.{depth, list_depth, fields_depth}
use Rattle.json_tree.specs.View.{data_of, list_of, fields_of, held}
use Rattle.json_tree.specs.declared.tree.Json.{Json}
use Rattle.json_tree.specs.declared.tree.Json.TheVariants.{Null, Bool, Whole, Text, List as ListOf, Fields}
use Rattle.json_tree.specs.declared.tree.Field.{Field}
use Rattle.json_tree.specs.declared.tree.JsonFields.TheDeep.{deep-Json, deep-Field, deep-JsonList, deep-JsonFields}
use Rattle.json_tree.specs.declared.tree.JsonFields.TheInside as fields_inside
use Rattle.json_tree.specs.declared.tree.JsonList.TheInside as list_inside
use Rattle.std.specs.declared.alloc.Global.{Global}
use Rattle.json_tree.specs.declared.told.Told.{Told}

deep_le : (j : Json) → deep-Json j ≤ depth (data_of j)
deep_le Null = omega arith
deep_le (Bool b) = omega arith
deep_le (Whole z) = omega arith
deep_le (Text s) = omega arith
deep_le (ListOf ds) = omega arith
deep_le (Fields ms) = omega arith

items_fall : (js : List Json) → most (λ j. deep-Json j) js ≤ list_depth (list_of js)
items_fall [] = omega arith
items_fall (j ∷ js) = omega (arith, deep_le j, items_fall js)

members_fall : (fs : List Field) → most (λ f. deep-Field f) fs ≤ fields_depth (fields_of fs)
members_fall [] = omega arith
members_fall (f ∷ fs) = omega (arith, deep_le f.value, members_fall fs)

list_falls_at : (alloc : Global) (inner : Option (Arc (Vec Json Global) Global)) (told : Told) → deep-JsonList (record { alloc = alloc; inner = inner; told = told }) ≤ list_depth (list_of (held inner))
list_falls_at alloc None told = omega arith
list_falls_at alloc (Some node) told = omega (arith, items_fall (arc_value node).items)

pub list_falls : (a : list_inside.Inside) → deep-JsonList a ≤ list_depth (list_of (held a.inner))
list_falls a = list_falls_at a.alloc a.inner a.told

fields_fall_at : (alloc : Global) (inner : Option (Arc (Vec Field Global) Global)) (told : Told) → deep-JsonFields (record { alloc = alloc; inner = inner; told = told }) ≤ fields_depth (fields_of (held inner))
fields_fall_at alloc None told = omega arith
fields_fall_at alloc (Some node) told = omega (arith, members_fall (arc_value node).items)

pub fields_fall : (a : fields_inside.Inside) → deep-JsonFields a ≤ fields_depth (fields_of (held a.inner))
fields_fall a = fields_fall_at a.alloc a.inner a.told
