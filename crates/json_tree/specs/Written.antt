-- The one text that is written for a value: RFC 8259 with no space, and the shortest escapes.
use Rattle.std.specs.Prelude.{ℕ, ◌/◌, ◌%◌, ◌==◌, List, [], ◌∷◌, ◌++◌, Bool, true, false, if◌then◌else◌, nat_lt, flat_map, codes}
use Rattle.std.specs.Char.{digit_char}
use Rattle.std.specs.Fmt.{signed_decimal}
use Rattle.json_tree.specs.Data.{Data, null, boolean, whole, text, list, fields, Items, no_items, item, Members, no_members, member}

-- a comma, where something stands before
abbrev pub comma_if : Bool → List ℕ
comma_if later = if later then 44 ∷ [] else []

-- what stands within quotes for a byte (section 7): a backslash before a quote and a backslash, a letter for five control
-- characters, two lower case hexadecimal digits for the others, and each other byte for itself
abbrev pub escaped : ℕ → List ℕ
escaped x =
    if x == 34 then codes "\\\"" else
    (if x == 92 then codes "\\\\" else
    (if x == 8 then codes "\\b" else
    (if x == 9 then codes "\\t" else
    (if x == 10 then codes "\\n" else
    (if x == 12 then codes "\\f" else
    (if x == 13 then codes "\\r" else
    (if nat_lt x 32 then codes "\\u00" ++ digit_char (x / 16) ∷ digit_char (x % 16) ∷ [] else x ∷ [])))))))

abbrev pub quoted : List ℕ → List ℕ
quoted s = 34 ∷ (flat_map escaped s ++ 34 ∷ [])

abbrev mutual
  pub text_of : Data → List ℕ
  text_of null = codes "null"
  text_of (boolean true) = codes "true"
  text_of (boolean false) = codes "false"
  text_of (whole z) = signed_decimal z
  text_of (text s) = quoted s
  text_of (list ds) = 91 ∷ items_text false ds
  text_of (fields ms) = 123 ∷ members_text false ms

  -- what stands after the opening bracket, with the closing one
  pub items_text : Bool → Items → List ℕ
  items_text later no_items = 93 ∷ []
  items_text later (item d ds) = comma_if later ++ (text_of d ++ items_text true ds)

  -- the same of fields, each a name in quotes, a colon and a value
  pub members_text : Bool → Members → List ℕ
  members_text later no_members = 125 ∷ []
  members_text later (member k d ms) = comma_if later ++ (quoted k ++ 58 ∷ (text_of d ++ members_text true ms))
