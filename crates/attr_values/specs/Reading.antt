-- What is read: AttributeValue of the DynamoDB API in JSON. A value is an object with one field, named for its type.
use Rattle.std.specs.Prelude.{ℕ, suc, Bool, true, false, Option, Some, None, Result, Ok, Err, List, [], codes, ◌==◌, if◌then◌else◌}
use Rattle.std.specs.Option.{ok_or}
use Rattle.std.specs.BTreeMap.{is_at}
use Rattle.std.specs.BTreeSet.{insert_key}
use Rattle.std.specs.List.{list_any}
use Rattle.json_tree.specs.Data as json
use Rattle.json_tree.specs.Fields.{text_cmp}
use Rattle.attr_values.specs.Decimal.{Decimal, decimal_cmp}
use Rattle.attr_values.specs.Numeral.{read_number}
use Rattle.attr_values.specs.Faults.{result_map, result_and_then}
use Rattle.attr_values.specs.Datum.{Datum, text, number, boolean, null, list, document, texts, numbers, Elements, no_elements, element, Attributes, no_attributes, attribute}
use Rattle.attr_values.specs.declared.fault.ItemFault.{ItemFault}
use Rattle.attr_values.specs.declared.fault.ItemFault.TheVariants.{BadValue, BadNumber}
use Rattle.attr_values.specs.declared.reading.Kind.{Kind}
use Rattle.attr_values.specs.declared.reading.Kind.TheVariants.{S, N, Bool as BoolKind, Null, L, M, Ss, Ns}
use lib.Pointwise.{pointwise}

-- the type that a name stands for
abbrev pub type_kind_of : List ℕ → Option Kind
type_kind_of name =
    if pointwise ◌==◌ name (codes "S") then Some S else
    if pointwise ◌==◌ name (codes "N") then Some N else
    if pointwise ◌==◌ name (codes "BOOL") then Some BoolKind else
    if pointwise ◌==◌ name (codes "NULL") then Some Null else
    if pointwise ◌==◌ name (codes "L") then Some L else
    if pointwise ◌==◌ name (codes "M") then Some M else
    if pointwise ◌==◌ name (codes "SS") then Some Ss else
    if pointwise ◌==◌ name (codes "NS") then Some Ns else None

abbrev pub read_number_text : List ℕ → Result Decimal ItemFault
read_number_text s = ok_or (read_number s) BadNumber

-- texts that are put into a set one by one; a repeat is refused
abbrev pub read_texts : List (List ℕ) → json.Items → Result (List (List ℕ)) ItemFault
read_texts set json.no_items = Ok set
read_texts set (json.item (json.text s) ds) = if list_any (is_at (text_cmp s)) set then Err BadValue else read_texts (insert_key text_cmp set s) ds
read_texts set _ = Err BadValue

-- the same of numbers, where equal numbers are one
abbrev pub read_numbers : List Decimal → json.Items → Result (List Decimal) ItemFault
read_numbers set json.no_items = Ok set
read_numbers set (json.item (json.text s) ds) =
    result_and_then (λ n. if list_any (is_at (decimal_cmp n)) set then Err BadValue else read_numbers (insert_key decimal_cmp set n) ds) (read_number_text s)
read_numbers set _ = Err BadValue

abbrev mutual
  -- a value that nests lists and maps at most `levels` deep
  pub read_datum : ℕ → json.Data → Result Datum ItemFault
  read_datum levels (json.fields (json.member name d json.no_members)) = read_kind (type_kind_of name) levels d
  read_datum levels _ = Err BadValue

  pub read_kind : Option Kind → ℕ → json.Data → Result Datum ItemFault
  read_kind (Some S) levels (json.text s) = Ok (text s)
  read_kind (Some N) levels (json.text s) = result_map number (read_number_text s)
  read_kind (Some BoolKind) levels (json.boolean b) = Ok (boolean b)
  read_kind (Some Null) levels (json.boolean true) = Ok null
  read_kind (Some L) (suc levels) (json.list ds) = result_map list (read_elements levels ds)
  read_kind (Some M) (suc levels) (json.fields ms) = result_map document (read_attributes levels ms)
  read_kind (Some Ss) levels (json.list (json.item d ds)) = result_map texts (read_texts [] (json.item d ds))
  read_kind (Some Ns) levels (json.list (json.item d ds)) = result_map numbers (read_numbers [] (json.item d ds))
  read_kind _ _ _ = Err BadValue

  pub read_elements : ℕ → json.Items → Result Elements ItemFault
  read_elements levels json.no_items = Ok no_elements
  read_elements levels (json.item d ds) = result_and_then (λ e. result_map (element e) (read_elements levels ds)) (read_datum levels d)

  pub read_attributes : ℕ → json.Members → Result Attributes ItemFault
  read_attributes levels json.no_members = Ok no_attributes
  read_attributes levels (json.member k d ms) = result_and_then (λ e. result_map (attribute k e) (read_attributes levels ms)) (read_datum levels d)

-- an item: attributes, whose values nest at most 32 deep
abbrev pub read_item : json.Data → Result Attributes ItemFault
read_item (json.fields ms) = read_attributes 32 ms
read_item _ = Err BadValue

-- whether to read this takes memory: only where it does may it be refused
abbrev pub kind_takes_memory : Option Kind → json.Data → Bool
kind_takes_memory (Some S) (json.text s) = true
kind_takes_memory (Some L) (json.list ds) = true
kind_takes_memory (Some M) (json.fields ms) = true
kind_takes_memory (Some Ss) (json.list ds) = true
kind_takes_memory (Some Ns) (json.list ds) = true
kind_takes_memory _ _ = false

abbrev pub takes_memory : json.Data → Bool
takes_memory (json.fields (json.member name d json.no_members)) = kind_takes_memory (type_kind_of name) d
takes_memory _ = false

abbrev pub is_object : json.Data → Bool
is_object (json.fields ms) = true
is_object _ = false
