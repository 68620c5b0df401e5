-- What holds of values, items and keys over several calls.
use Rattle.std.specs.Prelude.{◌≡◌, ◌↔◌, ℕ, ◌*◌, ◌^◌, ◌++◌, unsigned_abs, true, List, [], ◌∷◌, length, Option, Some, None, Ok, ◌==◌, if◌then◌else◌}
use Rattle.std.specs.List.{before_first, after_first}
use Rattle.std.specs.Ordering.{eq_by_cmp, on}
use Rattle.std.specs.declared.cmp.Ordering.TheVariants.{Equal}
use Rattle.std.specs.Str.Parse.{digits_value}
use Rattle.attr_values.specs.Datum.{Datum, text, number, attributes_of}
use Rattle.attr_values.specs.Decimal.{Decimal, IsNormal, value_cmp, decimal_cmp}
use Rattle.attr_values.specs.Item.{get_attribute}
use Rattle.attr_values.specs.Key.{key_cmp, key_of}
use Rattle.attr_values.specs.Numeral.{is_point, read_number, number_text}
use Rattle.attr_values.specs.Order.{datum_cmp, attributes_cmp}
use Rattle.attr_values.specs.Proper.{IsProper, IsItem}
use Rattle.attr_values.specs.Reading.{read_datum, read_item}
use Rattle.attr_values.specs.View.{datum_of}
use Rattle.attr_values.specs.Writing.{json_of, item_json}
use Rattle.attr_values.specs.declared.key.Key.{Key}
use Rattle.attr_values.specs.declared.key.KeyAttribute.{KeyAttribute}
use Rattle.attr_values.specs.declared.key.KeySchema.{KeySchema}
use Rattle.attr_values.specs.declared.value.Value.{Value}

-- a text without its sign
abbrev pub without_sign : List ℕ → List ℕ
without_sign [] = []
without_sign (c ∷ s) = if c == 45 then s else c ∷ s

-- the number that all the digits of a text write, and how many of them stand after the point
abbrev pub written_digits : List ℕ → ℕ
written_digits s = digits_value 10 (before_first is_point (without_sign s) ++ after_first is_point (without_sign s))

abbrev pub written_places : List ℕ → ℕ
written_places s = length (after_first is_point (without_sign s))

-- the number that is read is the one that the text writes, digits over ten to the places, and it is in normal form
abbrev pub ReadsTheNumber : Type 0
ReadsTheNumber = (s : List ℕ) (n : Decimal) → read_number s ≡ Some n → (unsigned_abs n.coefficient * 10 ^ written_places s ≡ written_digits s * 10 ^ n.places) × IsNormal n

-- a number that is written is read back
abbrev pub NumberReadsBack : Type 0
NumberReadsBack = (n : Decimal) → IsNormal n → read_number (number_text n) ≡ Some n

-- equal numbers have one form, and the order is that of the numbers
abbrev pub OneFormANumber : Type 0
OneFormANumber = (m n : Decimal) → IsNormal m → IsNormal n → (value_cmp m n ≡ Equal → m ≡ n) × (decimal_cmp m n ≡ value_cmp m n)

-- two spellings of one number are read to one number
abbrev pub OneNumberASpelling : Type 0
OneNumberASpelling = (s t : List ℕ) (m n : Decimal) → read_number s ≡ Some m → read_number t ≡ Some n → value_cmp m n ≡ Equal → m ≡ n

-- what is read is proper, and what is proper and written is read back
abbrev pub ValueReadsBack : Type 0
ValueReadsBack = (levels : ℕ) (d : Datum) → IsProper levels d → read_datum levels (json_of d) ≡ Ok d

abbrev pub ItemReadsBack : Type 0
ItemReadsBack = (item : List (List ℕ × Datum)) → IsItem item → read_item (item_json item) ≡ Ok (attributes_of item)

-- `==` answers true of one value, and of no two
abbrev pub EqualityIsOfItemValues : Type 0
EqualityIsOfItemValues =
    ((a b : Value) → (eq_by_cmp (on datum_of datum_cmp) a b ≡ true) ↔ (a ≡ b))
    × ((a b : List (List ℕ × Datum)) → (eq_by_cmp (on attributes_of attributes_cmp) a b ≡ true) ↔ (a ≡ b))
    × ((a b : Key) → (eq_by_cmp key_cmp a b ≡ true) ↔ (a ≡ b))

-- two data are one text, or one number
abbrev pub SameByValue : Datum → Datum → Type 0
SameByValue (text s) (text t) = s ≡ t
SameByValue (number m) (number n) = value_cmp m n ≡ Equal
SameByValue _ _ = ⊥

abbrev pub BothSame : Option Datum → Option Datum → Type 0
BothSame (Some d) (Some e) = SameByValue d e
BothSame _ _ = ⊥

-- two items agree at an attribute of their key
abbrev pub AgreeAtAttribute : KeyAttribute → List (List ℕ × Datum) → List (List ℕ × Datum) → Type 0
AgreeAtAttribute a x y = BothSame (get_attribute a.name x) (get_attribute a.name y)

abbrev pub AgreeAtSort : Option KeyAttribute → List (List ℕ × Datum) → List (List ℕ × Datum) → Type 0
AgreeAtSort None x y = Unit {0}
AgreeAtSort (Some a) x y = AgreeAtAttribute a x y

-- two items whose keys are equal by value have one key
abbrev pub OneKeyAValue : Type 0
OneKeyAValue = (schema : KeySchema) (x y : List (List ℕ × Datum)) → IsItem x → IsItem y → AgreeAtAttribute schema.partition x y → AgreeAtSort schema.sort x y → key_of schema x ≡ key_of schema y
