-- The text of a path, branch by branch.
use Rattle.std.proofs.Common.{arith, zero, suc, ◌≡◌, ℕ, ◌+◌, ◌<◌, ◌≤◌, List, [], ◌∷◌, ◌++◌, length, length-append, get_or, drop, drop-cons, refl, ap, ◌∙◌, add-one}
use Rattle.std.specs.List.{flat_map}
use Rattle.step_names.specs.Written.{branch_text}

-- what is left from place i on begins with the branch there
pub rest_text : (path : List (ℕ × ℕ)) (i : ℕ) (d : ℕ × ℕ) → i < length path → flat_map branch_text (drop i path) ≡ branch_text (get_or path i d) ++ flat_map branch_text (drop (i + 1) path)
rest_text path i d h = rw (add-one, drop-cons path i d)

pub rest_len : (path : List (ℕ × ℕ)) (i : ℕ) (d : ℕ × ℕ) → i < length path → length (flat_map branch_text (drop i path)) ≡ length (branch_text (get_or path i d)) + length (flat_map branch_text (drop (i + 1) path))
rest_len path i d h = ap length (rest_text path i d h) ∙ length-append (branch_text (get_or path i d)) (flat_map branch_text (drop (i + 1) path))

pub no_rest : (path : List (ℕ × ℕ)) (i : ℕ) → length path ≤ i → flat_map branch_text (drop i path) ≡ []
no_rest [] zero h = refl
no_rest [] (suc i) h = refl
no_rest (b ∷ path) zero h = absurd (omega arith)
no_rest (b ∷ path) (suc i) h = no_rest path i (omega arith)

pub no_rest_len : (path : List (ℕ × ℕ)) (i : ℕ) → length path ≤ i → length (flat_map branch_text (drop i path)) ≡ 0
no_rest_len path i h = ap length (no_rest path i h)
