-- What a list or some attributes hold nests less deep than they do.
use denote.Param.Weighed.{most}
use Rattle.std.specs.Prelude.{◌≤◌, List, [], ◌∷◌}
use Rattle.std.specs.Arc.{arc_value}
use Rattle.std.specs.declared.alloc.Global.{Global}
use Rattle.std.specs.declared.sync.Arc.{Arc}
use Rattle.std.specs.declared.vec.Vec.{Vec}
use Rattle.std.proofs.Common.{arith}
use Rattle.attr_values.specs.Datum.{depth, datum_list_depth, entries_depth}
use Rattle.attr_values.specs.View.{datum_of, datum_list_of, entries_of}
use Rattle.attr_values.specs.declared.value.Attribute.{Attribute}
use Rattle.attr_values.specs.declared.value.Value.{Value}
use Rattle.attr_values.specs.declared.value.Value.TheVariants.{S, N, Bool, Null, L, M, Ss, Ns}
use Rattle.attr_values.specs.declared.value.ValueList.TheDeep.{deep-Value, deep-Attribute, deep-ValueList, deep-ValueMap}
use Rattle.attr_values.specs.declared.value.ValueList.TheInside as list_inside
use Rattle.attr_values.specs.declared.value.ValueMap.TheInside as map_inside

deep_le : (v : Value) → deep-Value v ≤ depth (datum_of v)
deep_le (S s) = omega arith
deep_le (N n) = omega arith
deep_le (Bool b) = omega arith
deep_le Null = omega arith
deep_le (L ds) = omega arith
deep_le (M ms) = omega arith
deep_le (Ss ss) = omega arith
deep_le (Ns ns) = omega arith

values_fall : (vs : List Value) → most (λ v. deep-Value v) vs ≤ datum_list_depth (datum_list_of vs)
values_fall [] = omega arith
values_fall (v ∷ vs) = omega (arith, deep_le v, values_fall vs)

attributes_fall : (xs : List Attribute) → most (λ a. deep-Attribute a) xs ≤ entries_depth (entries_of xs)
attributes_fall [] = omega arith
attributes_fall (a ∷ xs) = omega (arith, deep_le a.value, attributes_fall xs)

list_falls_at : (inner : Arc (Vec Value Global) Global) → deep-ValueList (record { inner = inner }) ≤ datum_list_depth (datum_list_of (arc_value inner).items)
list_falls_at inner = omega (arith, values_fall (arc_value inner).items)

pub datum_list_falls : (a : list_inside.Inside) → deep-ValueList a ≤ datum_list_depth (datum_list_of (arc_value a.inner).items)
datum_list_falls a = list_falls_at a.inner

entries_fall_at : (inner : Arc (Vec Attribute Global) Global) → deep-ValueMap (record { inner = inner }) ≤ entries_depth (entries_of (arc_value inner).items)
entries_fall_at inner = omega (arith, attributes_fall (arc_value inner).items)

pub entries_fall : (a : map_inside.Inside) → deep-ValueMap a ≤ entries_depth (entries_of (arc_value a.inner).items)
entries_fall a = entries_fall_at a.inner
