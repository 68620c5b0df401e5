-- What a field of a definition's object says: a text, a path, a template.
use Rattle.std.specs.Prelude.{◌≡◌, ℕ, Bool, true, List, [], Option, None, Some}
use Rattle.serde_json.specs.Data.{Data as Source, null, boolean, number, string, array, object}
use Rattle.serde_json.specs.Find.{as_str}
use Rattle.json_tree.specs.Data.{Data}
use Rattle.json_tree.specs.Reading.{whole_of}
use Rattle.ref_paths.specs.Grammar.{SpellsPath}
use Rattle.ref_paths.specs.Templates.{Payload, IsTemplate}
use Rattle.ref_paths.specs.declared.path.PathStep.{PathStep}
use Rattle.asl_fields.specs.Fields.{has_known_fields, speaks_json_path}
use Rattle.asl_fields.specs.declared.fields.Place.{Place}

-- each name may stand here, and a query language that is named is JSONPath
abbrev pub HasFields : Place → Source → Type 0
HasFields place d = (has_known_fields place d ≡ true) × (speaks_json_path d ≡ true)

abbrev pub IsPathText : List ℕ → Option (List PathStep) → Type 0
IsPathText s None = ⊥
IsPathText s (Some path) = SpellsPath path s

-- `null`, or a path's text
abbrev pub IsPath : Source → Option (List PathStep) → Type 0
IsPath null p = p ≡ None
IsPath (boolean b) p = ⊥
IsPath (number n) p = ⊥
IsPath (string s) p = IsPathText s p
IsPath (array ds) p = ⊥
IsPath (object ms) p = ⊥

-- the path of a field, which is `$` where there is none
abbrev pub IsPathField : Option Source → Option (List PathStep) → Type 0
IsPathField None p = p ≡ Some []
IsPathField (Some d) p = IsPath d p

abbrev pub IsWholeTemplate : Bool → Option Data → Option Payload → Type 0
IsWholeTemplate item_paths None p = ⊥
IsWholeTemplate item_paths (Some j) None = ⊥
IsWholeTemplate item_paths (Some j) (Some p) = IsTemplate item_paths j p

-- the template of a field, whose numbers are whole; none where there is none
abbrev pub IsTemplateField : Bool → Option Source → Option Payload → Type 0
IsTemplateField item_paths None p = p ≡ None
IsTemplateField item_paths (Some d) p = IsWholeTemplate item_paths (whole_of d) p

-- the text of a field, which is empty where there is none
abbrev pub text_or_empty : Option Source → Option (List ℕ)
text_or_empty None = Some []
text_or_empty (Some d) = as_str d
