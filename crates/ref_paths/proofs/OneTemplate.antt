-- A value is one template.
use Rattle.std.proofs.Common.{◌≡◌, ℕ, Bool, List, ◌∷◌, Option, Some, None, codes, refl, sym, ap, ◌∙◌}
use Rattle.std.proofs.lemmas.List.{append_cancel_left}
use Rattle.json_tree.specs.Data.{Data, null, boolean, whole, text, list as list_data, fields as fields_data, Items, no_items, item, Members, no_members, member}
use Rattle.ref_paths.specs.Picking.{pairs_of}
use Rattle.ref_paths.specs.TemplateLaws.{ValuesAreOneTemplate}
use Rattle.ref_paths.specs.Templates.{Payload, constant, from_input, item_index, from_item, list, fields, payloads_of, named_of, SpellsSource, OnText, OnMarked, StandsFor, IsTemplate, ItemsAreTemplates, FieldsAreTemplates, unmarked}
use Rattle.ref_paths.proofs.OneSpelling.{texts_spell_one_path}
use Rattle.ref_paths.proofs.Sources.{no_path_so, index_is_no_value}

source_one : (it : Bool) (s : List ℕ) (p q : Payload) → SpellsSource it p s → SpellsSource it q s → p ≡ q
source_one it s (constant d) q h g = absurd h
source_one it s (list ps) q h g = absurd h
source_one it s (fields fs) q h g = absurd h
source_one it s (from_input a) (constant d) h g = absurd g
source_one it s (from_input a) (from_input b) h g = ap from_input (texts_spell_one_path s a b h g)
source_one it s (from_input a) item_index h g = absurd (no_path_so a s _ g.1 h)
source_one it s (from_input a) (from_item b) h g = absurd (no_path_so a s _ g.3 h)
source_one it s (from_input a) (list ps) h g = absurd g
source_one it s (from_input a) (fields fs) h g = absurd g
source_one it s item_index (constant d) h g = absurd g
source_one it s item_index (from_input b) h g = absurd (no_path_so b s _ h.1 g)
source_one it s item_index item_index h g = refl
source_one it s item_index (from_item b) h g = absurd (index_is_no_value g.1 (sym g.3 ∙ h.1))
source_one it s item_index (list ps) h g = absurd g
source_one it s item_index (fields fs) h g = absurd g
source_one it s (from_item a) (constant d) h g = absurd g
source_one it s (from_item a) (from_input b) h g = absurd (no_path_so b s _ h.3 g)
source_one it s (from_item a) item_index h g = absurd (index_is_no_value h.1 (sym h.3 ∙ g.1))
source_one it s (from_item a) (from_item b) h g =
    let steps : h.1 ≡ g.1 = append_cancel_left (codes "$$.Map.Item.Value") h.1 g.1 (sym h.3 ∙ g.3) in
    ap from_item (texts_spell_one_path (36 ∷ h.1) a b (h.1, h.2, refl) (g.1, g.2, ap (λ x. 36 ∷ x) steps))
source_one it s (from_item a) (list ps) h g = absurd g
source_one it s (from_item a) (fields fs) h g = absurd g

text_one : (it : Bool) (d : Data) (p q : Payload) → OnText d (SpellsSource it p) ⊥ → OnText d (SpellsSource it q) ⊥ → p ≡ q
text_one it null p q h g = absurd h
text_one it (boolean b) p q h g = absurd h
text_one it (whole z) p q h g = absurd h
text_one it (text s) p q h g = source_one it s p q h g
text_one it (list_data ds) p q h g = absurd h
text_one it (fields_data ms) p q h g = absurd h

pair_one : (f g : List ℕ × Payload) → f.0 ≡ g.0 → f.1 ≡ g.1 → f ≡ g
pair_one f g name value = λ i. (name i, value i)

field_one : (it : Bool) (all : List (List ℕ × Data)) (k : List ℕ) (d : Data) (o : Option (List ℕ)) (f g : List ℕ × Payload) → (IsTemplate it d f.1 → IsTemplate it d g.1 → f.1 ≡ g.1)
    → OnMarked o (λ name. StandsFor it all name d f) ((f.0 ≡ k) × IsTemplate it d f.1) → OnMarked o (λ name. StandsFor it all name d g) ((g.0 ≡ k) × IsTemplate it d g.1) → f ≡ g
field_one it all k d None f g same h j = pair_one f g (h.0 ∙ sym j.0) (same h.1 j.1)
field_one it all k d (Some name) f g same h j = pair_one f g (h.0 ∙ sym j.0) (text_one it d f.1 g.1 h.2 j.2)

mutual
  pub values_are_one_template : ValuesAreOneTemplate
  values_are_one_template it null p q h g = h ∙ sym g
  values_are_one_template it (boolean b) p q h g = h ∙ sym g
  values_are_one_template it (whole z) p q h g = h ∙ sym g
  values_are_one_template it (text s) p q h g = h ∙ sym g
  values_are_one_template it (list_data ds) p q h g = h.2 ∙ ap (λ ps. list (payloads_of ps)) (items_one it ds h.0 g.0 h.1 g.1) ∙ sym g.2
  values_are_one_template it (fields_data ms) p q h g = h.2 ∙ ap (λ fs. fields (named_of fs)) (fields_one it (pairs_of ms) ms h.0 g.0 h.1 g.1) ∙ sym g.2

  items_one : (it : Bool) (ds : Items) (ps qs : List Payload) → ItemsAreTemplates it ds ps → ItemsAreTemplates it ds qs → ps ≡ qs
  items_one it no_items ps qs h g = h ∙ sym g
  items_one it (item d ds) ps qs h g =
      let first : h.0 ≡ g.0 = values_are_one_template it d h.0 g.0 h.2 g.2 in
      let rest : h.1 ≡ g.1 = items_one it ds h.1 g.1 h.3 g.3 in
      h.4 ∙ (λ i. first i ∷ rest i) ∙ sym g.4

  fields_one : (it : Bool) (all : List (List ℕ × Data)) (ms : Members) (fs gs : List (List ℕ × Payload)) → FieldsAreTemplates it all ms fs → FieldsAreTemplates it all ms gs → fs ≡ gs
  fields_one it all no_members fs gs h g = h ∙ sym g
  fields_one it all (member k d ms) fs gs h g =
      let first : h.0 ≡ g.0 = field_one it all k d (unmarked k) h.0 g.0 (λ a b. values_are_one_template it d h.0.1 g.0.1 a b) h.2 g.2 in
      let rest : h.1 ≡ g.1 = fields_one it all ms h.1 g.1 h.3 g.3 in
      h.4 ∙ (λ i. first i ∷ rest i) ∙ sym g.4
