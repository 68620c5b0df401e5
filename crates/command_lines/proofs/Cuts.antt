-- Texts cut at a separator.
use Rattle.std.proofs.Common.{◌<◌, ◌≡◌, ℕ, true, not, List, [], ◌∷◌, ◌++◌, refl, ap, ◌∙◌, ◌==◌, eq-eqb, MatchOption, Option, Some, None, Bor}
use Rattle.std.proofs.lemmas.Bool.{and_parts, not-true}
use Rattle.std.proofs.lemmas.Str.Pattern.{IsSplitOnceResult, split_parts}
use Rattle.step_names.proofs.Parts.{lacks, lacks_by_index}
use Rattle.command_lines.specs.Grammar.{cut_at}

pub cut_none : (c : ℕ) (bs : List ℕ) → lacks c bs ≡ true → cut_at c bs ≡ None
cut_none c [] h = refl
cut_none c (b ∷ bs) h =
    let s = and_parts (not (b == c)) (lacks c bs) h in
    rw (not-true (b == c) s.0, cut_none c bs s.1)

pub cut_some : (c : ℕ) (xs ys : List ℕ) → lacks c xs ≡ true → cut_at c (xs ++ c ∷ ys) ≡ Some (xs, ys)
cut_some c [] ys h = rw (eq-eqb c c refl)
cut_some c (x ∷ xs) ys h =
    let s = and_parts (not (x == c)) (lacks c xs) h in
    rw (not-true (x == c) s.0, cut_some c xs ys s.1)

-- what `split_once` gives
pub cut_result : (c : ℕ) (bs : List ℕ) (r : Option (Bor (List ℕ) × Bor (List ℕ))) → IsSplitOnceResult c bs r → c < 128
    → MatchOption r (cut_at c bs ≡ None) (λ x. cut_at c bs ≡ Some (x.0.now, x.1.now))
cut_result c bs None h low = cut_none c bs (lacks_by_index c bs (split_parts c bs None h low))
cut_result c bs (Some x) h low =
    let k = split_parts c bs (Some x) h low in
    ap (cut_at c) k.0 ∙ cut_some c x.0.now x.1.now (lacks_by_index c x.0.now k.1)
