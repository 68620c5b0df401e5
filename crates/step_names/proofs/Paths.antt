-- A path is read branch by branch.
use Rattle.std.proofs.Common.{◌+◌, ◌≡◌, ◌≢◌, ℕ, Bool, true, false, cond, List, [], ◌∷◌, ◌++◌, refl, sym, ap, ◌∙◌, length, nat_le, ◌==◌, Option, Some, None}
use Rattle.std.proofs.lemmas.Bool.{ne_eqb}
use Rattle.std.specs.Option.{option_map, option_and_then}
use Rattle.std.specs.List.{slice_split, onto_first}
use Rattle.std.specs.Char.{is_ascii_digit}
use Rattle.std.proofs.lemmas.List.Splits.{join_with_byte-slice_split}
use Rattle.step_names.specs.Grammar.{read_step_number, read_branch, read_branch_parts, read_branches}
use Rattle.step_names.proofs.Parts.{digits_lack, lacks_split}
use Rattle.step_names.proofs.Numbers.{number_parts, numeral_parts}

pub no_parts : (c : ℕ) (bs : List ℕ) → slice_split (λ b. b == c) bs ≡ [] → ⊥
no_parts c [] h = cc
no_parts c (b ∷ bs) h = by_test (b == c) (slice_split (λ b. b == c) bs) h
  where
    onto : (x : ℕ) (parts : List (List ℕ)) → onto_first x parts ≡ [] → ⊥
    onto x [] h = cc
    onto x (part ∷ parts) h = cc

    by_test : (r : Bool) (parts : List (List ℕ)) → cond r ([] ∷ parts) (onto_first b parts) ≡ [] → ⊥
    by_test true parts h = cc
    by_test false parts h = onto b parts h

-- a number has no separator in it
pub number_whole : (c : ℕ) (ds : List ℕ) (n : ℕ) → is_ascii_digit c ≡ false → read_step_number ds ≡ Some n → slice_split (λ b. b == c) ds ≡ ds ∷ []
number_whole c ds n apart h = lacks_split c ds (digits_lack c ds apart (numeral_parts ds (number_parts ds n h).0).0)

abbrev pub both_read : List ℕ → List ℕ → Option (ℕ × ℕ)
both_read fork branch = option_and_then (λ n. option_and_then (λ i. cond (n == 0) None (Some (n, i))) (read_step_number branch)) (read_step_number fork)

neither : (o : Option ℕ) → option_and_then {T = ℕ} {U = ℕ × ℕ} (λ n. option_and_then (λ i. cond (n == 0) None (Some (n, i))) None) o ≡ None
neither None = refl
neither (Some n) = refl

branch_by : (fork branch : List ℕ) (parts : List (List ℕ)) → slice_split (λ b. b == 46) branch ≡ parts → read_branch_parts (fork ∷ parts) ≡ both_read fork branch
branch_by fork branch [] h = absurd (no_parts 46 branch h)
branch_by fork branch (part ∷ []) h =
    let e : part ≡ branch = rw h at (join_with_byte-slice_split 46 branch) in
    ap (λ (text : List ℕ). both_read fork text) e
branch_by fork branch (part ∷ more ∷ parts) h = by_number (read_step_number branch) refl
  where
    by_number : (o : Option ℕ) → read_step_number branch ≡ o → None ≡ both_read fork branch
    by_number None e = rw e (sym (neither (read_step_number fork)))
    by_number (Some i) e = let whole : slice_split (λ b. b == 46) branch ≡ branch ∷ [] = number_whole 46 branch i refl e in cc

pub branch_cut : (bs fork branch : List ℕ) → slice_split (λ b. b == 46) bs ≡ fork ∷ slice_split (λ b. b == 46) branch → read_branch bs ≡ both_read fork branch
branch_cut bs fork branch h = ap read_branch_parts h ∙ branch_by fork branch (slice_split (λ b. b == 46) branch) refl

pub both_none : (fork branch : List ℕ) → read_step_number branch ≡ None → both_read fork branch ≡ None
both_none fork branch h = rw h (neither (read_step_number fork))

pub both_some : (fork branch : List ℕ) (n i : ℕ) → read_step_number fork ≡ Some n → read_step_number branch ≡ Some i → n ≢ 0 → both_read fork branch ≡ Some (n, i)
both_some fork branch n i h k apart = rw (h, k, ne_eqb n 0 apart)

-- what is read of the texts, after the path read before
abbrev pub path_from : List (ℕ × ℕ) → List (List ℕ) → Option (List (ℕ × ℕ))
path_from path texts = cond (nat_le (length path + length texts) 31) (option_map (λ more. path ++ more) (read_branches texts)) None
