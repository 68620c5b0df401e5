-- What each value of the program has, and the laws of reading what was written.
use Rattle.std.specs.Prelude.{◌≡◌, ◌≤◌, ℕ, List, [], ◌∷◌, Some, FitsSigned, IsUtf8, ⊤}
use Rattle.std.specs.Int.{w64}
use Rattle.std.specs.List.Sorted.{IsStrictlySortedBy}
use Rattle.json_tree.specs.Data.{Data, null, boolean, whole, text, list, fields, Items, no_items, item, Members, no_members, member, depth, most_levels}
use Rattle.json_tree.specs.Fields.{text_cmp}
use Rattle.json_tree.specs.Reading.{read_json}
use Rattle.json_tree.specs.Written.{text_of}

abbrev pub names : Members → List (List ℕ)
names no_members = []
names (member k d ms) = k ∷ names ms

-- at every level: whole numbers are of 64 bits with a sign, texts and names are UTF-8, and names rise, so that each stands once
abbrev mutual
  pub IsProper : Data → Type 0
  IsProper null = ⊤
  IsProper (boolean b) = ⊤
  IsProper (whole z) = FitsSigned w64 z
  IsProper (text s) = IsUtf8 s
  IsProper (list ds) = ItemsAreProper ds
  IsProper (fields ms) = IsStrictlySortedBy text_cmp (names ms) × MembersAreProper ms

  pub ItemsAreProper : Items → Type 0
  ItemsAreProper no_items = ⊤
  ItemsAreProper (item d ds) = IsProper d × ItemsAreProper ds

  pub MembersAreProper : Members → Type 0
  MembersAreProper no_members = ⊤
  MembersAreProper (member k d ms) = IsUtf8 k × IsProper d × MembersAreProper ms

-- what is written for a value that nests at most 127 deep is read as that value
abbrev pub ReadsBack : Type 0
ReadsBack = (d : Data) → IsProper d → depth d ≤ most_levels → read_json (text_of d) ≡ Some d

-- such values have one text only where they are one
abbrev pub TextsTellApart : Type 0
TextsTellApart = (d e : Data) → IsProper d → IsProper e → depth d ≤ most_levels → depth e ≤ most_levels → text_of d ≡ text_of e → d ≡ e
