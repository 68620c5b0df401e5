-- The one JSON value that is written for a value: an object with one field, named for its type.
use Rattle.std.specs.Prelude.{◌≡◌, ℕ, true, List, map, codes}
use Rattle.json_tree.specs.Data as json
use Rattle.attr_values.specs.Decimal.{Decimal}
use Rattle.attr_values.specs.Numeral.{number_text}
use Rattle.attr_values.specs.Proper.{IsItem}
use Rattle.attr_values.specs.Datum.{Datum, text, number, boolean, null, list, document, texts, numbers, Elements, no_elements, element, Attributes, no_attributes, attribute, attributes_of}

abbrev pub one_field : List ℕ → json.Data → json.Data
one_field name d = json.fields (json.member name d json.no_members)

abbrev pub number_json : Decimal → json.Data
number_json n = json.text (number_text n)

abbrev mutual
  pub json_of : Datum → json.Data
  json_of (text s) = one_field (codes "S") (json.text s)
  json_of (number n) = one_field (codes "N") (number_json n)
  json_of (boolean b) = one_field (codes "BOOL") (json.boolean b)
  json_of null = one_field (codes "NULL") (json.boolean true)
  json_of (list ds) = one_field (codes "L") (json.list (json_items ds))
  json_of (document ms) = one_field (codes "M") (json.fields (json_members ms))
  json_of (texts ss) = one_field (codes "SS") (json.list (json.items_of (map json.text ss)))
  json_of (numbers ns) = one_field (codes "NS") (json.list (json.items_of (map number_json ns)))

  pub json_items : Elements → json.Items
  json_items no_elements = json.no_items
  json_items (element d ds) = json.item (json_of d) (json_items ds)

  pub json_members : Attributes → json.Members
  json_members no_attributes = json.no_members
  json_members (attribute k d ms) = json.member k (json_of d) (json_members ms)

abbrev pub json_entry : List ℕ × Datum → List ℕ × json.Data
json_entry m = (m.0, json_of m.1)

abbrev pub json_entries : List (List ℕ × Datum) → List (List ℕ × json.Data)
json_entries = map json_entry

abbrev pub item_json : List (List ℕ × Datum) → json.Data
item_json ms = json.fields (json_members (attributes_of ms))

-- what each item keeps beside its attributes: the fields that are written for it
pub record KeepsJson (ms : List (List ℕ × Datum)) (written : List (List ℕ × json.Data)) : Type 0 where
  pub item : IsItem ms
  pub fields : written ≡ json_entries ms
