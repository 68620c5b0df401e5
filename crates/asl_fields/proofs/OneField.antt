-- A field is one path at most, and one template.
use Rattle.std.proofs.Common.{◌≡◌, ℕ, List, Option, Some, None, Bool, sym, ap, ◌∙◌}
use Rattle.serde_json.specs.Data.{Data as Source, null, boolean, number, string, array, object}
use Rattle.json_tree.specs.Data.{Data}
use Rattle.json_tree.specs.Reading.{whole_of}
use Rattle.ref_paths.proofs.OneSpelling.{texts_spell_one_path}
use Rattle.ref_paths.proofs.OneTemplate.{values_are_one_template}
use Rattle.ref_paths.specs.Templates.{Payload}
use Rattle.ref_paths.specs.declared.path.PathStep.{PathStep}
use Rattle.asl_fields.specs.Values.{IsPathText, IsPathField, IsWholeTemplate, IsTemplateField}

one_path_text : (s : List ℕ) (p q : Option (List PathStep)) → IsPathText s p → IsPathText s q → p ≡ q
one_path_text s None q h k = absurd h
one_path_text s (Some p) None h k = absurd k
one_path_text s (Some p) (Some q) h k = ap Some (texts_spell_one_path s p q h k)

pub one_path : (d : Option Source) (p q : Option (List PathStep)) → IsPathField d p → IsPathField d q → p ≡ q
one_path None p q h k = h ∙ sym k
one_path (Some null) p q h k = h ∙ sym k
one_path (Some (boolean b)) p q h k = absurd h
one_path (Some (number n)) p q h k = absurd h
one_path (Some (string s)) p q h k = one_path_text s p q h k
one_path (Some (array ds)) p q h k = absurd h
one_path (Some (object ms)) p q h k = absurd h

one_whole_template : (b : Bool) (d : Option Data) (p q : Option Payload) → IsWholeTemplate b d p → IsWholeTemplate b d q → p ≡ q
one_whole_template b None p q h k = absurd h
one_whole_template b (Some j) None q h k = absurd h
one_whole_template b (Some j) (Some p) None h k = absurd k
one_whole_template b (Some j) (Some p) (Some q) h k = ap Some (values_are_one_template b j p q h k)

pub one_template : (b : Bool) (d : Option Source) (p q : Option Payload) → IsTemplateField b d p → IsTemplateField b d q → p ≡ q
one_template b None p q h k = h ∙ sym k
one_template b (Some d) p q h k = one_whole_template b (whole_of d) p q h k
