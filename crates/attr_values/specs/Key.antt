-- Keys: one attribute or two, each a text that is not empty or a number; their order, and the key of an item.
use Rattle.std.specs.Prelude.{ℕ, List, [], ◌∷◌, ◌++◌, Option, Some, None, Result, Ok, Err, Bool, true, false, ◌||◌}
use Rattle.std.specs.Hash as fed
use Rattle.std.specs.Option.{option_cmp}
use Rattle.std.specs.Ordering.{ordering_then}
use Rattle.std.specs.declared.cmp.Ordering.{Ordering}
use Rattle.std.specs.declared.cmp.Ordering.TheVariants.{Less, Greater}
use Rattle.json_tree.specs.Fields.{text_cmp}
use Rattle.attr_values.specs.Datum.{Datum, text, number}
use Rattle.attr_values.specs.Decimal.{decimal_cmp}
use Rattle.attr_values.specs.Faults.{result_map, result_and_then}
use Rattle.attr_values.specs.Item.{get_attribute}
use Rattle.attr_values.specs.declared.fault.ItemFault.{ItemFault}
use Rattle.attr_values.specs.declared.fault.ItemFault.TheVariants.{NoKey, KeyType as WrongType, EmptyKey}
use Rattle.attr_values.specs.declared.key.Key.{Key}
use Rattle.attr_values.specs.declared.key.KeyAttribute.{KeyAttribute}
use Rattle.attr_values.specs.declared.key_part.KeyPart.{KeyPart}
use Rattle.attr_values.specs.declared.key_part.KeyPart.TheVariants.{S, N}
use Rattle.attr_values.specs.declared.key.KeySchema.{KeySchema}
use Rattle.attr_values.specs.declared.key.KeyType.{KeyType}
use Rattle.attr_values.specs.declared.key.KeyType.TheVariants.{S as TextType, N as NumberType}

-- texts by their bytes, numbers by their order, and a text before a number
abbrev pub part_cmp : KeyPart → KeyPart → Ordering
part_cmp (S s) (S t) = text_cmp s t
part_cmp (S s) (N n) = Less
part_cmp (N m) (S t) = Greater
part_cmp (N m) (N n) = decimal_cmp m n

-- by the partition, and then by the sort attribute
abbrev pub key_cmp : Key → Key → Ordering
key_cmp a b = ordering_then (part_cmp a.partition b.partition) (option_cmp part_cmp a.sort b.sort)

-- what is fed to a hasher
abbrev pub part_input : KeyPart → fed.HashWrites
part_input (S s) = fed.u8 0 ++ fed.str s
part_input (N n) = fed.u8 1 ++ (fed.i128 n.coefficient ++ fed.u8 n.places)

abbrev pub key_input : Key → fed.HashWrites
key_input k = part_input k.partition ++ fed.option part_input k.sort

-- the part that a value gives to a key
abbrev pub part_from : KeyType → Option Datum → Result KeyPart ItemFault
part_from kind None = Err NoKey
part_from TextType (Some (text [])) = Err EmptyKey
part_from TextType (Some (text (c ∷ s))) = Ok (S (c ∷ s))
part_from NumberType (Some (number n)) = Ok (N n)
part_from _ (Some _) = Err WrongType

abbrev pub part_of : KeyAttribute → List (List ℕ × Datum) → Result KeyPart ItemFault
part_of a item = part_from a.kind (get_attribute a.name item)

abbrev pub sort_of : Option KeyAttribute → List (List ℕ × Datum) → Result (Option KeyPart) ItemFault
sort_of None item = Ok None
sort_of (Some a) item = result_map Some (part_of a item)

-- the key of an item: its partition, and then its sort attribute, where the keys have one
abbrev pub key_of : KeySchema → List (List ℕ × Datum) → Result Key ItemFault
key_of schema item = result_and_then (λ p. result_map (λ s. record { partition = p; sort = s }) (sort_of schema.sort item)) (part_of schema.partition item)

-- whether a key has a text: only then is memory taken to make it
abbrev pub is_text_type : KeyType → Bool
is_text_type TextType = true
is_text_type NumberType = false

abbrev pub sort_is_text : Option KeyAttribute → Bool
sort_is_text None = false
sort_is_text (Some a) = is_text_type a.kind

abbrev pub has_text : KeySchema → Bool
has_text schema = is_text_type schema.partition.kind || sort_is_text schema.sort
