-- Why a value is no template.
use Rattle.std.specs.Prelude.{◌≡◌, ◌≢◌, ℕ, ◌⊎◌, Bool, false, true, ◌||◌, List, ◌++◌, Some, None, ⊤, IsSome, IsTrue, ◌==◌, codes}
use Rattle.std.specs.List.{starts_with}
use Rattle.json_tree.specs.Data.{Data, null, boolean, whole, text, list, fields, Items, no_items, item, Members, no_members, member}
use Rattle.json_tree.specs.Fields.{get_field}
use Rattle.ref_paths.specs.Picking.{pairs_of}
use Rattle.ref_paths.specs.Templates.{Payload, SpellsSource, OnText, IsTemplate, unmarked}
use Rattle.ref_paths.specs.declared.template.TemplateFault.{TemplateFault}
use Rattle.ref_paths.specs.declared.template.TemplateFault.TheVariants.{BadTemplate, Unsupported, Memory}
use Rattle.ref_paths.specs.declared.template_reading.ItemSource.{ItemSource}
use Rattle.ref_paths.specs.declared.template_reading.ItemSource.TheVariants.{Index, Value}
use Rattle.ref_paths.specs.declared.template_reading.SourceFault.{SourceFault}
use Rattle.ref_paths.specs.declared.template_reading.SourceFault.TheVariants.{NoSource, LeftOut, Memory as NoMemory}

-- an intrinsic function, or a part of the context object
abbrev pub is_intrinsic_or_context : List ℕ → Bool
is_intrinsic_or_context s = starts_with ◌==◌ s (codes "States.") || starts_with ◌==◌ s (codes "$$")

abbrev pub SpellsNoSource : Bool → List ℕ → Type 0
SpellsNoSource item_paths s = (p : Payload) → SpellsSource item_paths p s → ⊥

-- with item paths, a text that spells the item's index, or the item and what follows it
abbrev pub IsItemSource : Bool → List ℕ → ItemSource → Type 0
IsItemSource item_paths s Index = IsTrue item_paths × (s ≡ codes "$$.Map.Item.Index")
IsItemSource item_paths s (Value steps) = IsTrue item_paths × (s ≡ codes "$$.Map.Item.Value" ++ steps.now)

abbrev pub SpellsNoItemSource : Bool → List ℕ → Type 0
SpellsNoItemSource item_paths s = IsTrue item_paths → (s ≢ codes "$$.Map.Item.Index") × ((steps : List ℕ) → s ≢ codes "$$.Map.Item.Value" ++ steps)

-- of the text of a marked field
abbrev pub SourceFaultStands : Bool → List ℕ → SourceFault → Type 0
SourceFaultStands item_paths s NoSource = SpellsNoSource item_paths s × (is_intrinsic_or_context s ≡ false)
SourceFaultStands item_paths s LeftOut = SpellsNoSource item_paths s × (is_intrinsic_or_context s ≡ true)
SourceFaultStands item_paths s NoMemory = ⊤

-- of the field of this name, in an object of these fields
abbrev pub FieldHasFault : Bool → List (List ℕ × Data) → List ℕ → Data → TemplateFault → Type 0
FieldHasFault item_paths all k d (BadTemplate name) =
    (name ≡ k) × (target : List ℕ) × (unmarked k ≡ Some target) × (IsSome (get_field target all) ⊎ OnText d (λ s. SourceFaultStands item_paths s NoSource) ⊤)
FieldHasFault item_paths all k d (Unsupported name) =
    (name ≡ k) × (target : List ℕ) × (unmarked k ≡ Some target) × OnText d (λ s. SourceFaultStands item_paths s LeftOut) ⊥
FieldHasFault item_paths all k d Memory = ⊥

-- Of some field, in any object at any depth. The value of a marked field is no object to look into: that field's own fault stands.
abbrev mutual
  pub HasFault : Bool → Data → TemplateFault → Type 0
  HasFault item_paths null e = ⊥
  HasFault item_paths (boolean b) e = ⊥
  HasFault item_paths (whole z) e = ⊥
  HasFault item_paths (text s) e = ⊥
  HasFault item_paths (list ds) e = ItemsHaveFault item_paths ds e
  HasFault item_paths (fields ms) e = FieldsHaveFault item_paths (pairs_of ms) ms e

  pub ItemsHaveFault : Bool → Items → TemplateFault → Type 0
  ItemsHaveFault item_paths no_items e = ⊥
  ItemsHaveFault item_paths (item d ds) e = HasFault item_paths d e ⊎ ItemsHaveFault item_paths ds e

  pub FieldsHaveFault : Bool → List (List ℕ × Data) → Members → TemplateFault → Type 0
  FieldsHaveFault item_paths all no_members e = ⊥
  FieldsHaveFault item_paths all (member k d ms) e = FieldHasFault item_paths all k d e ⊎ ((unmarked k ≡ None) × HasFault item_paths d e) ⊎ FieldsHaveFault item_paths all ms e

-- P of a fault that is named
abbrev pub OnNamed : TemplateFault → Type 0 → Type 0
OnNamed (BadTemplate name) P = P
OnNamed (Unsupported name) P = P
OnNamed Memory P = ⊤

abbrev pub IsNoTemplate : Bool → Data → Type 0
IsNoTemplate item_paths d = (p : Payload) → IsTemplate item_paths d p → ⊥
