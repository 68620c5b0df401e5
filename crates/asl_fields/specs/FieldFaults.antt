-- The faults that a field of a definition's object has: its name's, or its value's.
use Rattle.std.specs.Prelude.{◌≡◌, ℕ, List, Bool, true, ◌⊎◌, Option, Some, None, if◌then◌else◌, codes}
use Rattle.serde_json.specs.Data.{Data as Source, Members, no_members, member}
use Rattle.serde_json.specs.Find.{get, as_str, as_object}
use Rattle.json_tree.specs.Data.{Data}
use Rattle.json_tree.specs.Reading.{whole_of}
use Rattle.ref_paths.specs.TemplateFaults.{HasFault, IsNoTemplate}
use Rattle.ref_paths.specs.declared.path.PathStep.{PathStep}
use Rattle.ref_paths.specs.declared.template.TemplateFault.TheVariants.{BadTemplate, Unsupported as LeftOutThere}
use Rattle.asl_fields.specs.Fields.{is_text, is_known, field_status}
use Rattle.asl_fields.specs.Values.{IsPathField}
use Rattle.asl_fields.specs.declared.fault.MachineFault.{MachineFault}
use Rattle.asl_fields.specs.declared.fault.MachineFault.TheVariants.{Missing, UnknownField, Unsupported, BadField}
use Rattle.asl_fields.specs.declared.fields.Place.{Place}
use Rattle.asl_fields.specs.declared.fields.FieldStatus.{FieldStatus}
use Rattle.asl_fields.specs.declared.fields.FieldStatus.TheVariants.{Known, Unsupported as LeftOut, Unknown}

-- ---- a field's name

abbrev pub fault_of_status : FieldStatus → List ℕ → Option MachineFault
fault_of_status Known name = None
fault_of_status LeftOut name = Some (Unsupported name)
fault_of_status Unknown name = Some (UnknownField name)

abbrev pub name_fault : Place → List ℕ → Option MachineFault
name_fault place name = fault_of_status (field_status place name) name

abbrev pub NamesFault : Place → Members → MachineFault → Type 0
NamesFault place no_members e = ⊥
NamesFault place (member name d ms) e = (name_fault place name ≡ Some e) ⊎ NamesFault place ms e

-- ---- a field's value

abbrev pub text_fault : List ℕ → Option (List ℕ) → Option MachineFault
text_fault field None = Some (BadField field)
text_fault field (Some text) = None

-- a field that is required, and is a text
abbrev pub required_text_fault : List ℕ → Option Source → Option MachineFault
required_text_fault field None = Some (Missing field)
required_text_fault field (Some d) = text_fault field (as_str d)

-- a field that is a text where it stands
abbrev pub optional_text_fault : List ℕ → Option Source → Option MachineFault
optional_text_fault field None = None
optional_text_fault field (Some d) = text_fault field (as_str d)

abbrev pub language_fault : Option (List ℕ) → Option MachineFault
language_fault None = Some (BadField (codes "QueryLanguage"))
language_fault (Some language) =
    if is_text language (codes "JSONPath") then None
    else (if is_text language (codes "JSONata") then Some (Unsupported (codes "QueryLanguage")) else Some (BadField (codes "QueryLanguage")))

abbrev pub query_language_fault : Option Source → Option MachineFault
query_language_fault None = None
query_language_fault (Some d) = language_fault (as_str d)

-- of the names of an object's fields
abbrev pub MembersFault : Place → Option Members → MachineFault → Type 0
MembersFault place None e = ⊥
MembersFault place (Some ms) e = NamesFault place ms e

-- a query language that isn't read, where an object may name one
abbrev pub LanguageFault : Place → Source → MachineFault → Type 0
LanguageFault place d e = (is_known place (codes "QueryLanguage") ≡ true) × (query_language_fault (get (codes "QueryLanguage") d) ≡ Some e)

abbrev pub FieldsFault : Place → Source → MachineFault → Type 0
FieldsFault place d e = MembersFault place (as_object d) e ⊎ LanguageFault place d e

-- a field is neither `null` nor a path
abbrev pub PathFieldFault : List ℕ → Option Source → MachineFault → Type 0
PathFieldFault field d e = (e ≡ BadField field) × ((p : Option (List PathStep)) → IsPathField d p → ⊥)

-- a field of a template: it is bad where the template's is, and unsupported where that is
abbrev pub TellsTemplate : Bool → Data → MachineFault → Type 0
TellsTemplate item_paths j (BadField name) = HasFault item_paths j (BadTemplate name)
TellsTemplate item_paths j (Unsupported name) = HasFault item_paths j (LeftOutThere name)
TellsTemplate item_paths j _ = ⊥

abbrev pub WholeTemplateFault : Bool → List ℕ → Option Data → MachineFault → Type 0
WholeTemplateFault item_paths field None e = e ≡ BadField field
WholeTemplateFault item_paths field (Some j) e = TellsTemplate item_paths j e × IsNoTemplate item_paths j

-- a field's template has a number that isn't whole, or a fault of its own
abbrev pub TemplateFieldFault : Bool → List ℕ → Option Source → MachineFault → Type 0
TemplateFieldFault item_paths field None e = ⊥
TemplateFieldFault item_paths field (Some d) e = WholeTemplateFault item_paths field (whole_of d) e
