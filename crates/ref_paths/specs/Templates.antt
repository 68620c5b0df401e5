-- Templates (Amazon States Language, "Payload Template"): JSON values in which a field whose name ends with `.$` stands
-- for a field with what its path picks.
use Rattle.std.specs.Prelude.{◌≡◌, ℕ, suc, max, ◌-◌, Bool, List, [], ◌∷◌, ◌++◌, length, take, Option, Some, None, IsTrue, ◌==◌, if◌then◌else◌, codes}
use Rattle.std.specs.List.{ends_with}
use Rattle.json_tree.specs.Data.{Data, null, boolean, whole, text, list as list_data, fields as fields_data, Items, no_items, item, Members, no_members, member}
use Rattle.json_tree.specs.Fields.{get_field}
use Rattle.ref_paths.specs.Grammar.{SpellsPath, SpellsSteps}
use Rattle.ref_paths.specs.Picking.{pairs_of}
use Rattle.ref_paths.specs.declared.path.PathStep.{PathStep}

-- a value that stands for itself, what a path picks of the input, the index of an item, and what a path picks of the
-- item; and lists and fields of these
mutual
  pub data Payload : Type 0 where
    constant : Data → Payload
    from_input : List PathStep → Payload
    item_index : Payload
    from_item : List PathStep → Payload
    list : Payloads → Payload
    fields : NamedPayloads → Payload

  pub data Payloads : Type 0 where
    no_payloads : Payloads
    payload : Payload → Payloads → Payloads

  pub data NamedPayloads : Type 0 where
    no_named : NamedPayloads
    named : List ℕ → Payload → NamedPayloads → NamedPayloads

abbrev pub payloads_of : List Payload → Payloads
payloads_of [] = no_payloads
payloads_of (p ∷ ps) = payload p (payloads_of ps)

abbrev pub named_of : List (List ℕ × Payload) → NamedPayloads
named_of [] = no_named
named_of (f ∷ fs) = named f.0 f.1 (named_of fs)

-- how deep lists and fields nest
abbrev mutual
  pub depth : Payload → ℕ
  depth (constant d) = 0
  depth (from_input path) = 0
  depth item_index = 0
  depth (from_item path) = 0
  depth (list ps) = suc (payloads_depth ps)
  depth (fields fs) = suc (named_depth fs)

  pub payloads_depth : Payloads → ℕ
  payloads_depth no_payloads = 0
  payloads_depth (payload p ps) = max (depth p) (payloads_depth ps)

  pub named_depth : NamedPayloads → ℕ
  named_depth no_named = 0
  named_depth (named k p fs) = max (depth p) (named_depth fs)

abbrev pub payload_list_depth : List Payload → ℕ
payload_list_depth ps = payloads_depth (payloads_of ps)

abbrev pub payload_fields_depth : List (List ℕ × Payload) → ℕ
payload_fields_depth fs = named_depth (named_of fs)

-- a name without the `.$` at its end, where it ends so
abbrev pub unmarked : List ℕ → Option (List ℕ)
unmarked name = if ends_with ◌==◌ name (codes ".$") then Some (take (length name - 2) name) else None

-- The text of a marked field: a path into the input; and, where item paths are allowed, the item's index, or the item
-- and the steps of a path into it.
abbrev pub SpellsSource : Bool → Payload → List ℕ → Type 0
SpellsSource item_paths (constant d) s = ⊥
SpellsSource item_paths (from_input path) s = SpellsPath path s
SpellsSource item_paths item_index s = IsTrue item_paths × (s ≡ codes "$$.Map.Item.Index")
SpellsSource item_paths (from_item path) s = IsTrue item_paths × (steps : List ℕ) × SpellsSteps path steps × (s ≡ codes "$$.Map.Item.Value" ++ steps)
SpellsSource item_paths (list ps) s = ⊥
SpellsSource item_paths (fields fs) s = ⊥

-- P of a text, and else another
abbrev pub OnText : Data → (List ℕ → Type 0) → Type 0 → Type 0
OnText null P other = other
OnText (boolean b) P other = other
OnText (whole z) P other = other
OnText (text s) P other = P s
OnText (list_data ds) P other = other
OnText (fields_data ms) P other = other

-- P of the name that is left of a marked one, and else another
abbrev pub OnMarked : Option (List ℕ) → (List ℕ → Type 0) → Type 0 → Type 0
OnMarked (Some name) P other = P name
OnMarked None P other = other

-- A marked field of this name without the mark: no other field of the object, whose fields are `all`, has that name, and
-- the value is a text that spells a source.
abbrev pub StandsFor : Bool → List (List ℕ × Data) → List ℕ → Data → List ℕ × Payload → Type 0
StandsFor item_paths all name d f = (f.0 ≡ name) × (get_field name all ≡ None) × OnText d (SpellsSource item_paths f.1) ⊥

-- a marked field, or another, whose value is a template
abbrev pub FieldIs : Bool → List (List ℕ × Data) → List ℕ → Data → List ℕ × Payload → Type 0 → Type 0
FieldIs item_paths all k d f ValueIs = OnMarked (unmarked k) (λ name. StandsFor item_paths all name d f) ((f.0 ≡ k) × ValueIs)

-- which template a value is
abbrev mutual
  pub IsTemplate : Bool → Data → Payload → Type 0
  IsTemplate item_paths null p = p ≡ constant null
  IsTemplate item_paths (boolean b) p = p ≡ constant (boolean b)
  IsTemplate item_paths (whole z) p = p ≡ constant (whole z)
  IsTemplate item_paths (text s) p = p ≡ constant (text s)
  IsTemplate item_paths (list_data ds) p = (ps : List Payload) × ItemsAreTemplates item_paths ds ps × (p ≡ list (payloads_of ps))
  IsTemplate item_paths (fields_data ms) p = (fs : List (List ℕ × Payload)) × FieldsAreTemplates item_paths (pairs_of ms) ms fs × (p ≡ fields (named_of fs))

  pub ItemsAreTemplates : Bool → Items → List Payload → Type 0
  ItemsAreTemplates item_paths no_items ps = ps ≡ []
  ItemsAreTemplates item_paths (item d ds) ps = (first : Payload) × (rest : List Payload) × IsTemplate item_paths d first × ItemsAreTemplates item_paths ds rest × (ps ≡ first ∷ rest)

  pub FieldsAreTemplates : Bool → List (List ℕ × Data) → Members → List (List ℕ × Payload) → Type 0
  FieldsAreTemplates item_paths all no_members fs = fs ≡ []
  FieldsAreTemplates item_paths all (member k d ms) fs =
      (first : List ℕ × Payload) × (rest : List (List ℕ × Payload))
      × FieldIs item_paths all k d first (IsTemplate item_paths d first.1) × FieldsAreTemplates item_paths all ms rest × (fs ≡ first ∷ rest)
