-- Before the first line feed there is none.
use Rattle.std.proofs.Common.{◌≡◌, ◌≤◌, ℕ, zero, suc, true, List, length, take, refl, ap, subst, ◌+◌, ◌∙◌, arith, slice_index}
use Rattle.std.specs.Prelude.{not, ◌==◌, ◌&&◌}
use Rattle.std.proofs.lemmas.Bool.{false_from_ne_true}
use Rattle.std.proofs.lemmas.List.Folds.{list_all_more}
use Rattle.memchr.specs.Find.{Nowhere, Passes, is_byte}
use Rattle.operator_line.specs.Texts.{has_no_feed}

pub none_before : (bytes : List ℕ) (k : ℕ) → k ≤ length bytes → Nowhere (Passes (is_byte 10) bytes) 0 k → has_no_feed (take k bytes) ≡ true
none_before bytes zero within h = refl
none_before bytes (suc k) within h =
    let before = none_before bytes k (omega (arith, within)) (λ i low high. h i low (omega (arith, high))) in
    let here = false_from_ne_true (slice_index bytes k == 10) (h k (omega arith) (omega arith)) in
    let one_more : k + 1 ≡ suc k = omega arith in
    subst (λ n. has_no_feed (take n bytes) ≡ true) one_more
    (list_all_more (λ b. not (b == 10)) bytes k 0 (omega (arith, within)) ∙ ap (λ b. b && not (slice_index bytes k == 10)) before ∙ ap not here)
