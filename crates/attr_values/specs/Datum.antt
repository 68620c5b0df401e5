-- Attribute values as contracts see them, with the types that the DynamoDB API names S, N, BOOL, NULL, L, M, SS and NS.
-- Texts are their bytes of UTF-8, and attributes stand in a list of names and values.
use Rattle.std.specs.Prelude.{ℕ, suc, max, List, [], ◌∷◌, Bool}
use Rattle.attr_values.specs.Decimal.{Decimal}

mutual
  pub data Datum : Type 0 where
    text : List ℕ → Datum
    number : Decimal → Datum
    boolean : Bool → Datum
    null : Datum
    list : Elements → Datum
    document : Attributes → Datum
    texts : List (List ℕ) → Datum
    numbers : List Decimal → Datum

  pub data Elements : Type 0 where
    no_elements : Elements
    element : Datum → Elements → Elements

  pub data Attributes : Type 0 where
    no_attributes : Attributes
    attribute : List ℕ → Datum → Attributes → Attributes

-- a list of values as the elements of one, and pairs of a name and a value as the attributes of a document
abbrev pub elements_of : List Datum → Elements
elements_of [] = no_elements
elements_of (d ∷ ds) = element d (elements_of ds)

abbrev pub attributes_of : List (List ℕ × Datum) → Attributes
attributes_of [] = no_attributes
attributes_of (m ∷ ms) = attribute m.0 m.1 (attributes_of ms)

-- how deep lists and documents nest: 0 for what is neither, and one more than the deepest value inside
abbrev mutual
  pub depth : Datum → ℕ
  depth (text s) = 0
  depth (number n) = 0
  depth (boolean b) = 0
  depth null = 0
  depth (list ds) = suc (elements_depth ds)
  depth (document ms) = suc (attributes_depth ms)
  depth (texts ss) = 0
  depth (numbers ns) = 0

  pub elements_depth : Elements → ℕ
  elements_depth no_elements = 0
  elements_depth (element d ds) = max (depth d) (elements_depth ds)

  pub attributes_depth : Attributes → ℕ
  attributes_depth no_attributes = 0
  attributes_depth (attribute k d ms) = max (depth d) (attributes_depth ms)

abbrev pub datum_list_depth : List Datum → ℕ
datum_list_depth ds = elements_depth (elements_of ds)

abbrev pub entries_depth : List (List ℕ × Datum) → ℕ
entries_depth ms = attributes_depth (attributes_of ms)
