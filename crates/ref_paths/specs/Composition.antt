-- What one path picks after another has placed a value.
use Rattle.std.specs.Prelude.{◌≡◌, ◌↔◌, ◌≤◌, ◌<◌, ◌+◌, ◌-◌, ◌^◌, ℕ, min, length, List, Option, Some, None, option_map, unwrap_or}
use Rattle.std.specs.Borrow.{Bor}
use Rattle.json_tree.specs.Data.{Data, fields, no_members, depth}
use Rattle.json_tree.specs.View.{data_of}
use Rattle.json_tree.specs.declared.tree.Json.{Json}
use Rattle.ref_paths.specs.Picking.{pick_at}
use Rattle.ref_paths.specs.Placing.{place_at}
use Rattle.ref_paths.specs.declared.path.PathStep.{PathStep}

-- nothing where the value cannot be placed, and else what is picked, if anything
abbrev pub pick_placed_at : List PathStep → List PathStep → Data → Data → Option (Option Data)
pick_placed_at placing picking value root = option_map (pick_at picking) (place_at placing value root)

-- what is picked, if anything, nests no deeper than some levels, as far as a `u32` tells its depth
abbrev pub NestsWithin : ℕ → Option Data → Type 0
NestsWithin levels None = Unit {0}
NestsWithin levels (Some d) = min (depth d) (2 ^ 32 - 1) ≤ levels

-- something is picked, and nests deeper than some levels
abbrev pub PicksDeeper : ℕ → Option (Option Data) → Type 0
PicksDeeper levels picked = (d : Data) × (picked ≡ Some (Some d)) × (levels < depth d)

-- what is there, or the object that is made where there is nothing
abbrev pub data_or_made : Option (Bor Json) → Data
data_or_made json = unwrap_or (option_map (λ j. data_of j.now) json) (fields no_members)

-- how deep a value nests where a path places it, up to what a `u32` tells
abbrev pub told_depth : List PathStep → Data → ℕ
told_depth path value = min (length path + depth value) (2 ^ 32 - 1)

-- a root that nests no deeper than some levels does so with the value in it just where the value does there
abbrev pub DepthIsTold : Type 0
DepthIsTold = (path : List PathStep) (value root after : Data) (levels : ℕ) → depth root ≤ levels → place_at path value root ≡ Some after → (depth after ≤ levels) ↔ (length path + depth value ≤ levels)
