-- What a template gives (Amazon States Language, "Payload Template"): of an input, and perhaps of an item with its index.
use Rattle.std.specs.Prelude.{ℕ, pos, List, [], ◌∷◌, Option, Some, option_map, option_and_then}
use Rattle.std.specs.Borrow.{Bor}
use Rattle.std.specs.List.{fold}
use Rattle.json_tree.specs.Data.{Data, whole, list as list_data, fields as fields_data, items_of, members_of}
use Rattle.json_tree.specs.Fields.{with_field}
use Rattle.json_tree.specs.View.{data_of}
use Rattle.json_tree.specs.declared.tree.Json.{Json}
use Rattle.ref_paths.specs.Picking.{pick_at}
use Rattle.ref_paths.specs.Templates.{Payload, constant, from_input, item_index, from_item, list, fields, Payloads, no_payloads, payload, NamedPayloads, no_named, named}

-- the fields of an object, put one after another
abbrev pub fields_with : List (List ℕ × Data) → List (List ℕ × Data) → List (List ℕ × Data)
fields_with ms more = fold (λ done m. with_field m.0 m.1 done) ms more

-- Nothing where some path picks nothing. Where there is no item, a path into it picks nothing, and there is no index.
abbrev mutual
  pub filled : Data → Option (ℕ × Data) → Payload → Option Data
  filled input it (constant d) = Some d
  filled input it (from_input path) = pick_at path input
  filled input it item_index = option_map (λ i. whole (pos i.0)) it
  filled input it (from_item path) = option_and_then (λ i. pick_at path i.1) it
  filled input it (list ps) = option_map (λ ds. list_data (items_of ds)) (filled_items input it ps)
  filled input it (fields fs) = option_map (λ ms. fields_data (members_of (fields_with [] ms))) (filled_fields input it fs)

  pub filled_items : Data → Option (ℕ × Data) → Payloads → Option (List Data)
  filled_items input it no_payloads = Some []
  filled_items input it (payload p ps) = option_and_then (λ d. option_map (λ ds. d ∷ ds) (filled_items input it ps)) (filled input it p)

  pub filled_fields : Data → Option (ℕ × Data) → NamedPayloads → Option (List (List ℕ × Data))
  filled_fields input it no_named = Some []
  filled_fields input it (named k p fs) = option_and_then (λ d. option_map (λ ms. (k, d) ∷ ms) (filled_fields input it fs)) (filled input it p)

-- an item that is lent, with its index
abbrev pub item_lent : Option (ℕ × Bor Json) → Option (ℕ × Data)
item_lent it = option_map (λ i. (i.0, data_of i.1.now)) it
