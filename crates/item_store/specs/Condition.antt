-- Conditions (ConditionExpression of the DynamoDB API), of which there are two: `attribute_exists(a)` and
-- `attribute_not_exists(a)`, with spaces round the attribute's name and round the whole.
use Rattle.std.specs.Prelude.{ℕ, ◌==◌, List, [], ◌∷◌, Bool, true, false, ◌&&◌, ◌||◌, not, if◌then◌else◌, Option, Some, None, is_some, option_map, option_and_then, codes}
use Rattle.std.specs.Char.{is_ascii_alphabetic, is_ascii_alphanumeric}
use Rattle.std.specs.List.{list_all}
use Rattle.std.specs.Option.{option_map_or}
pub use Rattle.json_tree.specs.Fields.{is_text}
use Rattle.attr_values.specs.Datum.{Datum}
use Rattle.attr_values.specs.Item.{get_attribute}
use Rattle.item_store.specs.declared.call.Condition.{Condition}
use Rattle.item_store.specs.declared.call.ConditionKind.{ConditionKind}
use Rattle.item_store.specs.declared.call.ConditionKind.TheVariants.{Exists, NotExists}

abbrev pub is_space : ℕ → Bool
is_space c = c == 32

-- an attribute's name in a condition: a letter, and then letters, digits and `_`
abbrev pub is_condition_name_byte : ℕ → Bool
is_condition_name_byte c = is_ascii_alphanumeric c || c == 95

abbrev pub is_attribute_name : List ℕ → Bool
is_attribute_name [] = false
is_attribute_name (c ∷ s) = is_ascii_alphabetic c && list_all is_condition_name_byte s

-- a text after its first spaces
abbrev pub after_spaces : List ℕ → List ℕ
after_spaces [] = []
after_spaces (c ∷ s) = if is_space c then after_spaces s else c ∷ s

-- what stands before the first byte of this value, and what after it
abbrev pub cut_at_byte : ℕ → List ℕ → Option (List ℕ × List ℕ)
cut_at_byte p [] = None
cut_at_byte p (c ∷ s) = if c == p then Some ([], s) else option_map (λ x. (c ∷ x.0, x.1)) (cut_at_byte p s)

-- the condition function of a name
abbrev pub condition_kind_of : List ℕ → Option ConditionKind
condition_kind_of name =
    if is_text name (codes "attribute_exists") then Some Exists else
    if is_text name (codes "attribute_not_exists") then Some NotExists else None

-- a name that only spaces may follow
abbrev pub name_before_spaces : List ℕ → Option (List ℕ × List ℕ) → Option (List ℕ)
name_before_spaces s None = if is_attribute_name s then Some s else None
name_before_spaces s (Some x) = if is_attribute_name x.0 && list_all is_space x.1 then Some x.0 else None

-- a name with spaces round it
abbrev pub condition_attribute : List ℕ → Option (List ℕ)
condition_attribute s = name_before_spaces (after_spaces s) (cut_at_byte 32 (after_spaces s))

abbrev pub condition_on : ConditionKind → List ℕ → Condition
condition_on kind attribute = record { kind = kind; attribute = attribute }

-- a condition by its function's name, what stands in its brackets, and what follows them
abbrev pub condition_from : Option ConditionKind → List ℕ → List ℕ → Option Condition
condition_from kind inside tail =
    option_and_then (λ k. option_map (condition_on k) (if list_all is_space tail then condition_attribute inside else None)) kind

-- the condition that a text writes, if any
abbrev pub condition_of : List ℕ → Option Condition
condition_of s =
    option_and_then (λ x. option_and_then (λ y. condition_from (condition_kind_of (after_spaces x.0)) y.0 y.1) (cut_at_byte 41 x.1)) (cut_at_byte 40 s)

-- an absent item has no attributes
abbrev pub has_attribute : List ℕ → Option (List (List ℕ × Datum)) → Bool
has_attribute name old = option_map_or (λ item. is_some (get_attribute name item)) old false

abbrev pub holds_by : ConditionKind → Bool → Bool
holds_by Exists there = there
holds_by NotExists there = not there

-- whether a condition holds of the item that is there, if any; none always does
abbrev pub holds : Option Condition → Option (List (List ℕ × Datum)) → Bool
holds None old = true
holds (Some c) old = holds_by c.kind (has_attribute c.attribute old)
