-- Each branch has fewer rows than the node above it.
use Rattle.std.specs.Prelude.{ℕ, ◌+◌, ◌≤◌, ◌≡◌, List, [], ◌∷◌, length}
use Rattle.std.proofs.Common.{arith, length-append, suc, refl, ap}
use denote.Param.Weighed.{most}
use Rattle.branch_tree.specs.Tree.{Rows, under, rows_from}

pub under_len : (b : ℕ × ℕ) (rows : Rows) → length (under b rows) ≡ length rows
under_len b [] = refl
under_len b (e ∷ rows) = ap suc (under_len b rows)

pub most_le : (fork i : ℕ) (kids : List Rows) → most (λ k. length k + 1) kids ≤ length (rows_from fork i kids) + 1
most_le fork i [] = omega arith
most_le fork i (k ∷ ks) =
    omega (arith, most_le fork (i + 1) ks, length-append (under (fork, i) k) (rows_from fork (i + 1) ks), under_len (fork, i) k)
