-- What is near the steps of a plan, by records and by facts.
use Rattle.std.proofs.Common.{◌≡◌, ◌∙◌, ◌+◌, ℕ, Bool, cond, List, [], ◌∷◌, Option, None, Some, drop, map, refl, ap, ap₂, sym}
use Rattle.std.specs.Prelude.{◌||◌, slice_get, option_map}
use Rattle.std.specs.List.{count_by, fold}
use Rattle.std.proofs.lemmas.List.{drop-map}
use Rattle.std.proofs.lemmas.Option.{slice_get-map}
use Rattle.saved_steps.specs.declared.fact.Fact.{Fact}
use Rattle.saved_steps.specs.declared.record.StepRecord.{StepRecord}
use Rattle.step_index.specs.Near.{fact_shares_at, is_near, is_near_fact, near_behind, shares_at}

abbrev fact : StepRecord → Fact
fact r = r.fact

by_fact : (o : Option StepRecord) (g : StepRecord) → shares_at o g ≡ fact_shares_at (option_map fact o) g.fact
by_fact None g = refl
by_fact (Some f) g = refl

module _ (rs : List StepRecord) where
  same : (places : List ℕ) (g : StepRecord) → is_near rs places g ≡ is_near_fact (map fact rs) places g.fact
  same [] g = refl
  same (p ∷ places) g =
      ap₂ (λ (a b : Bool). a || b)
      (by_fact (slice_get rs p) g ∙ ap (λ (o : Option Fact). fact_shares_at o g.fact) (sym (slice_get-map fact rs p)))
      (same places g)

  counted : (places : List ℕ) (n : ℕ) (xs : List StepRecord)
      → fold (λ m x. m + cond (is_near rs places x) 1 0) n xs ≡ fold (λ m x. m + cond (is_near_fact (map fact rs) places x) 1 0) n (map fact xs)
  counted places n [] = refl
  counted places n (x ∷ xs) =
      counted places (n + cond (is_near rs places x) 1 0) xs
      ∙ ap (λ (b : Bool). fold (λ m y. m + cond (is_near_fact (map fact rs) places y) 1 0) (n + cond b 1 0) (map fact xs)) (same places x)

  pub near_by_facts : (places : List ℕ) (at : ℕ) → count_by (is_near rs places) (drop (at + 1) rs) ≡ near_behind (map (λ r. r.fact) rs) places at
  near_by_facts places at =
      counted places 0 (drop (at + 1) rs)
      ∙ ap (count_by (is_near_fact (map fact rs) places)) (sym (drop-map fact (at + 1) rs))
