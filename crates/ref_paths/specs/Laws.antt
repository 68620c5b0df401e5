-- Laws of picking and placing.
use Rattle.std.specs.Prelude.{◌≡◌, ◌≢◌, ℕ, ◌⊎◌, List, [], ◌∷◌, Some}
use Rattle.json_tree.specs.Data.{Data}
use Rattle.ref_paths.specs.Grammar.{SpellsPath}
use Rattle.ref_paths.specs.Picking.{pick_at}
use Rattle.ref_paths.specs.Placing.{place_at}
use Rattle.ref_paths.specs.declared.path.PathStep.{PathStep}

-- two paths that part: after the same steps each goes on by another step
abbrev pub Part : List PathStep → List PathStep → Type 0
Part [] other = ⊥
Part (step ∷ path) [] = ⊥
Part (step ∷ path) (step' ∷ other) = (step ≢ step') ⊎ ((step ≡ step') × Part path other)

-- what was placed is picked again
abbrev pub PlacedIsPicked : Type 0
PlacedIsPicked = (path : List PathStep) (value root after : Data) → place_at path value root ≡ Some after → pick_at path after ≡ Some value

-- what a path picks that leads elsewhere stays
abbrev pub ElsewhereStays : Type 0
ElsewhereStays = (path other : List PathStep) (value root after : Data) → Part path other → place_at path value root ≡ Some after → pick_at other after ≡ pick_at other root

-- the empty path gives the placed value
abbrev pub PlacedAtRoot : Type 0
PlacedAtRoot = (value root : Data) → place_at [] value root ≡ Some value

-- a text spells one path at most
abbrev pub TextsSpellOnePath : Type 0
TextsSpellOnePath = (text : List ℕ) (path other : List PathStep) → SpellsPath path text → SpellsPath other text → path ≡ other
