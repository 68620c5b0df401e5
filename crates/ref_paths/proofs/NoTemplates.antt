-- A value with a fault is no template.
use Rattle.std.specs.Prelude.{⊤}
use Rattle.std.proofs.Common.{◌≡◌, ℕ, Bool, List, Option, Some, None, IsSome, subst, inl, inr}
use Rattle.json_tree.specs.Data.{Data, null, boolean, whole, text, list, fields, Items, no_items, item, Members, no_members, member}
use Rattle.json_tree.specs.Fields.{get_field}
use Rattle.ref_paths.specs.Picking.{pairs_of}
use Rattle.ref_paths.specs.TemplateFaults.{HasFault, ItemsHaveFault, FieldsHaveFault, FieldHasFault, SourceFaultStands, IsNoTemplate}
use Rattle.ref_paths.specs.Templates.{Payload, IsTemplate, ItemsAreTemplates, FieldsAreTemplates, FieldIs, StandsFor, SpellsSource, OnMarked, OnText, unmarked}
use Rattle.ref_paths.specs.declared.template.TemplateFault.{TemplateFault}
use Rattle.ref_paths.specs.declared.template.TemplateFault.TheVariants.{BadTemplate, Unsupported, Memory}
use Rattle.ref_paths.specs.declared.template_reading.SourceFault.TheVariants.{NoSource, LeftOut}

there : {T : Type 0} (o : Option T) → IsSome o → o ≡ None → ⊥
there None h is = cc
there (Some x) h is = cc

stands : (it : Bool) (all : List (List ℕ × Data)) (k target : List ℕ) (d : Data) (f : List ℕ × Payload) (P : Type 0) → unmarked k ≡ Some target → FieldIs it all k d f P → StandsFor it all target d f
stands it all k target d f P is h = subst (λ o. OnMarked o (λ name. StandsFor it all name d f) ((f.0 ≡ k) × P)) is h

-- a text that spells a source has no fault
no_text : (it : Bool) (d : Data) (p : Payload) → OnText d (λ s. SourceFaultStands it s NoSource) ⊤ → OnText d (SpellsSource it p) ⊥ → ⊥
no_text it null p h g = g
no_text it (boolean b) p h g = g
no_text it (whole z) p h g = g
no_text it (text s) p h g = h.0 p g
no_text it (list ds) p h g = g
no_text it (fields ms) p h g = g

no_text_left_out : (it : Bool) (d : Data) (p : Payload) → OnText d (λ s. SourceFaultStands it s LeftOut) ⊥ → OnText d (SpellsSource it p) ⊥ → ⊥
no_text_left_out it null p h g = g
no_text_left_out it (boolean b) p h g = g
no_text_left_out it (whole z) p h g = g
no_text_left_out it (text s) p h g = h.0 p g
no_text_left_out it (list ds) p h g = g
no_text_left_out it (fields ms) p h g = g

field_faulty : (it : Bool) (all : List (List ℕ × Data)) (k : List ℕ) (d : Data) (e : TemplateFault) (f : List ℕ × Payload) (P : Type 0) → FieldHasFault it all k d e → FieldIs it all k d f P → ⊥
field_faulty it all k d (BadTemplate name) f P (same, target, is, inl h) g = there (get_field target all) h (stands it all k target d f P is g).1
field_faulty it all k d (BadTemplate name) f P (same, target, is, inr h) g = no_text it d f.1 h (stands it all k target d f P is g).2
field_faulty it all k d (Unsupported name) f P (same, target, is, h) g = no_text_left_out it d f.1 h (stands it all k target d f P is g).2
field_faulty it all k d Memory f P h g = h

-- a field without a mark has its value's template
plain : (it : Bool) (all : List (List ℕ × Data)) (k : List ℕ) (d : Data) (f : List ℕ × Payload) (P : Type 0) → unmarked k ≡ None → FieldIs it all k d f P → P
plain it all k d f P is h = (subst (λ o. OnMarked o (λ name. StandsFor it all name d f) ((f.0 ≡ k) × P)) is h).1

mutual
  pub faulty : (it : Bool) (d : Data) (e : TemplateFault) (p : Payload) → HasFault it d e → IsTemplate it d p → ⊥
  faulty it null e p h g = h
  faulty it (boolean b) e p h g = h
  faulty it (whole z) e p h g = h
  faulty it (text s) e p h g = h
  faulty it (list ds) e p h g = items_faulty it ds e g.0 h g.1
  faulty it (fields ms) e p h g = fields_faulty it (pairs_of ms) ms e g.0 h g.1

  items_faulty : (it : Bool) (ds : Items) (e : TemplateFault) (ps : List Payload) → ItemsHaveFault it ds e → ItemsAreTemplates it ds ps → ⊥
  items_faulty it no_items e ps h g = h
  items_faulty it (item d ds) e ps (inl h) g = faulty it d e g.0 h g.2
  items_faulty it (item d ds) e ps (inr h) g = items_faulty it ds e g.1 h g.3

  fields_faulty : (it : Bool) (all : List (List ℕ × Data)) (ms : Members) (e : TemplateFault) (fs : List (List ℕ × Payload)) → FieldsHaveFault it all ms e → FieldsAreTemplates it all ms fs → ⊥
  fields_faulty it all no_members e fs h g = h
  fields_faulty it all (member k d ms) e fs (inl h) g = field_faulty it all k d e g.0 (IsTemplate it d g.0.1) h g.2
  fields_faulty it all (member k d ms) e fs (inr (inl h)) g = faulty it d e g.0.1 h.1 (plain it all k d g.0 (IsTemplate it d g.0.1) h.0 g.2)
  fields_faulty it all (member k d ms) e fs (inr (inr h)) g = fields_faulty it all ms e g.1 h g.3

pub no_template : (it : Bool) (d : Data) (e : TemplateFault) → HasFault it d e → IsNoTemplate it d
no_template it d e h p g = faulty it d e p h g
