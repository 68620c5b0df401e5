-- A JSON value as contracts see it (RFC 8259, section 3): every number is whole, a text is its bytes of UTF-8,
-- and fields stand in a list of names and values.
use Rattle.std.specs.Prelude.{ℕ, suc, max, ℤ, List, [], ◌∷◌, Bool, true, false}

mutual
  pub data Data : Type 0 where
    null : Data
    boolean : Bool → Data
    whole : ℤ → Data
    text : List ℕ → Data
    list : Items → Data
    fields : Members → Data

  pub data Items : Type 0 where
    no_items : Items
    item : Data → Items → Items

  pub data Members : Type 0 where
    no_members : Members
    member : List ℕ → Data → Members → Members

-- a list of values as the items of one, and pairs of a name and a value as the members of one
abbrev pub items_of : List Data → Items
items_of [] = no_items
items_of (d ∷ ds) = item d (items_of ds)

abbrev pub members_of : List (List ℕ × Data) → Members
members_of [] = no_members
members_of (m ∷ ms) = member m.0 m.1 (members_of ms)

-- how deep lists and fields nest: 0 for what is neither, and one more than the deepest value inside
abbrev mutual
  pub depth : Data → ℕ
  depth null = 0
  depth (boolean b) = 0
  depth (whole z) = 0
  depth (text s) = 0
  depth (list ds) = suc (items_depth ds)
  depth (fields ms) = suc (members_depth ms)

  pub items_depth : Items → ℕ
  items_depth no_items = 0
  items_depth (item d ds) = max (depth d) (items_depth ds)

  pub members_depth : Members → ℕ
  members_depth no_members = 0
  members_depth (member k d ms) = max (depth d) (members_depth ms)

-- how deep the values of a text, and those that a frame holds, may nest
abbrev pub most_levels : ℕ
most_levels = 127

-- the depth of the deepest value of a list, and of some fields
abbrev pub list_depth : List Data → ℕ
list_depth ds = items_depth (items_of ds)

abbrev pub fields_depth : List (List ℕ × Data) → ℕ
fields_depth ms = members_depth (members_of ms)

-- whether a value is a text, a list or fields, which take memory
abbrev pub has_room : Data → Bool
has_room null = false
has_room (boolean b) = false
has_room (whole z) = false
has_room (text s) = true
has_room (list ds) = true
has_room (fields ms) = true
