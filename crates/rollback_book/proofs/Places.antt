-- Places of machines that are made and filled.
use Rattle.std.proofs.Common.{◌≡◌, Bool, true, false, cond, List, ap, sym, ◌∙◌, Option, None, Some}
use Rattle.std.specs.Prelude.{ℕ}
use Rattle.std.specs.Ordering.{nat_cmp}
use Rattle.std.specs.Cmp.{Equal-is}
use Rattle.std.specs.Cmp.Lexicographic.{slice_cmp, same_text, other_text}
use Rattle.std.specs.BTreeMap.{BTreeMap, UpdatesBy, is_at}
use Rattle.std.proofs.lemmas.Map.Lookups.{exact_bytes}
use Rattle.asl_fields.specs.Fields.{is_text}
use Rattle.asl_tree.specs.Definition.{Definition}
use Rattle.trace_theory.proofs.Lists.{by_bool}
use Rattle.rollback_book.specs.Book.{machine_place, placed_machine}

at_same : (k q : List ℕ) → is_at (slice_cmp nat_cmp k) q ≡ true → k ≡ q
at_same k q h = exact_bytes k q ((Equal-is (slice_cmp nat_cmp k q)).0 h)

module _ (m n : BTreeMap (List ℕ) (Option Definition)) (key : List ℕ) where
  -- an empty place is no machine
  pub emptied : placed_machine (machine_place m.entries key) ≡ None → UpdatesBy (slice_cmp nat_cmp) (slice_cmp nat_cmp key) m n (Some None) → (q : List ℕ) → placed_machine (machine_place n.entries q) ≡ placed_machine (machine_place m.entries q)
  emptied none u q =
      by_bool (is_at (slice_cmp nat_cmp key) q) _
      (λ h. ap placed_machine (u.0 q ∙ ap (λ (b : Bool). cond b (Some None) (machine_place m.entries q)) h) ∙ sym (ap (λ (x : List ℕ). placed_machine (machine_place m.entries x)) (sym (at_same key q h)) ∙ none))
      (λ h. ap placed_machine (u.2 q h))

  pub filled : (machine : Definition) → UpdatesBy (slice_cmp nat_cmp) (slice_cmp nat_cmp key) m n (Some (Some machine))
      → (q : List ℕ) → placed_machine (machine_place n.entries q) ≡ cond (is_text key q) (Some machine) (placed_machine (machine_place m.entries q))
  filled machine u q =
      by_bool (is_text key q) _
      (λ h. let own : placed_machine (machine_place n.entries key) ≡ Some machine = ap placed_machine u.1 in
      ap (λ (x : List ℕ). placed_machine (machine_place n.entries x)) (sym (same_text key q (sym h))) ∙ own ∙ sym (ap (λ (b : Bool). cond b (Some machine) (placed_machine (machine_place m.entries q))) h))
      (λ h. let apart : is_at (slice_cmp nat_cmp key) q ≡ false = by_bool (is_at (slice_cmp nat_cmp key) q) _ (λ k. absurd (other_text key q (sym h) (at_same key q k))) (λ k. k) in
      ap placed_machine (u.2 q apart) ∙ sym (ap (λ (b : Bool). cond b (Some machine) (placed_machine (machine_place m.entries q))) h))
