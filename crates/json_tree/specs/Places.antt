-- For private clauses: where a name stands among fields in their order, or would go.
use Rattle.std.specs.Prelude.{◌≡◌, ℕ, zero, suc, List, [], ◌∷◌, ⊤}
use Rattle.std.specs.declared.cmp.Ordering.TheVariants.{Less, Equal, Greater}
use Rattle.json_tree.specs.Fields.{text_cmp}
use Rattle.json_tree.specs.declared.tree.Field.{Field}

-- the name is above those of the first i fields, and is the next one's
abbrev pub IsAt : List ℕ → List Field → ℕ → Type 0
IsAt name [] i = ⊥
IsAt name (f ∷ fs) zero = text_cmp name f.name ≡ Equal
IsAt name (f ∷ fs) (suc i) = (text_cmp name f.name ≡ Greater) × IsAt name fs i

-- the name is above those of the first i fields, and below the next one's, if there is one
abbrev pub IsGapFor : List ℕ → List Field → ℕ → Type 0
IsGapFor name [] zero = ⊤
IsGapFor name [] (suc i) = ⊥
IsGapFor name (f ∷ fs) zero = text_cmp name f.name ≡ Less
IsGapFor name (f ∷ fs) (suc i) = (text_cmp name f.name ≡ Greater) × IsGapFor name fs i
