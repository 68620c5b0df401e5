-- The order of names with one beginning.
use Rattle.std.proofs.Common.{arith, ◌≡◌, ℕ, List, [], ◌∷◌, ◌++◌, refl}
use Rattle.std.specs.declared.cmp.Ordering.TheVariants.{Equal}
use Rattle.std.specs.Ordering.{nat_cmp}
use Rattle.std.specs.Cmp.Lexicographic.{slice_cmp}
use Rattle.std.proofs.lemmas.Bool.{eq-eqb, le-ltb}
use Rattle.branch_tree.specs.Paths.{Path}
use Rattle.branch_tree.specs.First.{path_cmp}
use Rattle.branch_tree.specs.Laws.{NamesByPath}

itself : (n : ℕ) → nat_cmp n n ≡ Equal
itself n = rw (le-ltb n n (omega arith), eq-eqb n n refl) refl

same_bytes : (bytes : List ℕ) → slice_cmp nat_cmp bytes bytes ≡ Equal
same_bytes [] = refl
same_bytes (b ∷ bytes) = rw (itself b) (same_bytes bytes)

after_front : (front p q : Path) → path_cmp (front ++ p) (front ++ q) ≡ path_cmp p q
after_front [] p q = refl
after_front (b ∷ front) p q = rw (itself b.0, itself b.1) (after_front front p q)

pub names_by_path : NamesByPath
names_by_path base p q = rw (same_bytes base.exec) (after_front base.path p q)
