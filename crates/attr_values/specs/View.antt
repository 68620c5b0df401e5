-- The datum that a `Value` stands for.
use Rattle.std.specs.Prelude.{ℕ, List, map}
use Rattle.attr_values.specs.Datum.{Datum, text, number, boolean, null, list, document, texts, numbers, elements_of, attributes_of}
use Rattle.attr_values.specs.declared.value.Attribute.{Attribute}
use Rattle.attr_values.specs.declared.value.Value.{Value}
use Rattle.attr_values.specs.declared.value.Value.TheVariants.{S, N, Bool, Null, L, M, Ss, Ns}

abbrev pub datum_of : Value → Datum
datum_of (S s) = text s
datum_of (N n) = number n
datum_of (Bool b) = boolean b
datum_of Null = null
datum_of (L ds) = list (elements_of ds)
datum_of (M ms) = document (attributes_of ms)
datum_of (Ss ss) = texts ss
datum_of (Ns ns) = numbers ns

abbrev pub datum_list_of : List Value → List Datum
datum_list_of = map datum_of

abbrev pub attribute_pair : Attribute → List ℕ × Datum
attribute_pair a = (a.name, datum_of a.value)

abbrev pub entries_of : List Attribute → List (List ℕ × Datum)
entries_of = map attribute_pair
