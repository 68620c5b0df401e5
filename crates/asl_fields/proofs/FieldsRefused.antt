-- A field that has a fault says nothing.
use Rattle.std.proofs.Common.{◌≡◌, ℕ, List, Option, Some, None, Bool, true, false, ◌&&◌, inl, inr, if◌then◌else◌, option_and_then, refl, sym, ap, ◌∙◌, codes}
use Rattle.serde_json.specs.Data.{Data as Source, Members, no_members, member}
use Rattle.serde_json.specs.Find.{get, as_str, as_object}
use Rattle.json_tree.specs.Data.{Data}
use Rattle.json_tree.specs.Reading.{whole_of}
use Rattle.ref_paths.specs.Templates.{Payload}
use Rattle.asl_fields.specs.FieldFaults.{fault_of_status, NamesFault, text_fault, required_text_fault, optional_text_fault, language_fault, query_language_fault, MembersFault, FieldsFault, WholeTemplateFault, TemplateFieldFault}
use Rattle.asl_fields.specs.Fields.{is_text, is_known, is_left_out, all_known, known_in, names_json_path, is_json_path}
use Rattle.asl_fields.specs.Values.{HasFields, IsWholeTemplate, IsTemplateField, text_or_empty}
use Rattle.asl_fields.specs.declared.fault.MachineFault.{MachineFault}
use Rattle.asl_fields.specs.declared.fields.Place.{Place}
use Rattle.asl_fields.specs.declared.fields.FieldStatus.{FieldStatus}
use Rattle.asl_fields.specs.declared.fields.FieldStatus.TheVariants.{Known, Unsupported, Unknown}

not_known : (known left_out : Bool) (name : List ℕ) (e : MachineFault) → fault_of_status (if known then Known else (if left_out then Unsupported else Unknown)) name ≡ Some e → known ≡ false
not_known true left_out name e h = cc h
not_known false left_out name e h = refl

and_false : (b : Bool) → (b && false) ≡ false
and_false true = refl
and_false false = refl

names_refused : (place : Place) (ms : Members) (e : MachineFault) → NamesFault place ms e → all_known place ms ≡ false
names_refused place no_members e fault = absurd fault
names_refused place (member name d ms) e fault =
    elim fault [
      | inl h ↦ ap (λ b. b && all_known place ms) (not_known (is_known place name) (is_left_out name) name e h)
      | inr h ↦ ap (λ b. is_known place name && b) (names_refused place ms e h) ∙ and_false (is_known place name)
    ]

members_refused : (place : Place) (ms : Option Members) (e : MachineFault) → MembersFault place ms e → known_in place ms ≡ true → ⊥
members_refused place None e fault known = fault
members_refused place (Some ms) e fault known = let no : true ≡ false = sym known ∙ names_refused place ms e fault in cc

json_path_fault : (b : Bool) (o : Option MachineFault) (e : MachineFault) → (if b then None else o) ≡ Some e → b ≡ true → ⊥
json_path_fault true o e h known = cc h
json_path_fault false o e h known = cc known

named_language_refused : (language : Option (List ℕ)) (e : MachineFault) → language_fault language ≡ Some e → names_json_path language ≡ true → ⊥
named_language_refused None e fault known = cc known
named_language_refused (Some language) e fault known = json_path_fault (is_text language (codes "JSONPath")) _ e fault known

language_refused : (d : Option Source) (e : MachineFault) → query_language_fault d ≡ Some e → is_json_path d ≡ true → ⊥
language_refused None e fault known = cc fault
language_refused (Some d) e fault known = named_language_refused (as_str d) e fault known

pub fields_refused : (place : Place) (d : Source) (e : MachineFault) → FieldsFault place d e → HasFields place d → ⊥
fields_refused place d e fault has =
    elim fault [ inl h ↦ members_refused place (as_object d) e h has.0 | inr h ↦ language_refused (get (codes "QueryLanguage") d) e h.1 has.1 ]

whole_template_refused : (b : Bool) (field : List ℕ) (d : Option Data) (p : Option Payload) (e : MachineFault) → WholeTemplateFault b field d e → IsWholeTemplate b d p → ⊥
whole_template_refused b field None p e fault is = is
whole_template_refused b field (Some j) None e fault is = is
whole_template_refused b field (Some j) (Some p) e fault is = fault.1 p is

pub template_refused : (b : Bool) (field : List ℕ) (d : Option Source) (p : Option Payload) (e : MachineFault) → TemplateFieldFault b field d e → IsTemplateField b d p → ⊥
template_refused b field None p e fault is = fault
template_refused b field (Some d) p e fault is = whole_template_refused b field (whole_of d) p e fault is

pub optional_refused : (field : List ℕ) (d : Option Source) (text : List ℕ) (e : MachineFault) → optional_text_fault field d ≡ Some e → text_or_empty d ≡ Some text → ⊥
optional_refused field None text e fault is = cc fault
optional_refused field (Some d) text e fault is = elim (as_str d) as (λ o. text_fault field o ≡ Some e → o ≡ Some text → ⊥) [ None ↦ λ f i. cc i | Some t ↦ λ f i. cc f ] fault is

pub required_refused : (field : List ℕ) (d : Option Source) (text : List ℕ) (e : MachineFault) → required_text_fault field d ≡ Some e → option_and_then as_str d ≡ Some text → ⊥
required_refused field None text e fault is = cc is
required_refused field (Some d) text e fault is = elim (as_str d) as (λ o. text_fault field o ≡ Some e → o ≡ Some text → ⊥) [ None ↦ λ f i. cc i | Some t ↦ λ f i. cc f ] fault is
