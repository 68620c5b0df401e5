-- Searches through records, by their places, are searches through their facts.
use Rattle.std.proofs.Common.{◌≡◌, append_assoc, ℕ, ◌+◌, ◌<◌, drop, get_or, true, false, List, [], ◌∷◌, ◌++◌, length, map, refl, ap, sym, subst, ◌∙◌, Option, Some, arith, suc}
use Rattle.std.specs.Prelude.{◌||◌, slice_get, option_map}
use Rattle.std.specs.List.{list_any, position_from}
use Rattle.std.proofs.Math.Seq.{drop-cons}
use Rattle.std.proofs.lemmas.Option.{slice_get-get_or, slice_get-map, get_or_from_slice_get}
use Rattle.saved_steps.specs.declared.fact.Fact.{Fact}
use Rattle.saved_steps.specs.declared.record.StepRecord.{StepRecord}
use Rattle.depends.specs.Dependence.{depends_directly}
use Rattle.depends.specs.Plans.{depends_on, depends_on_some, consequences_behind, consequences_at}

abbrev pub facts : List StepRecord → List Fact
facts rs = map (λ (r : StepRecord). r.fact) rs

pub as_many : (rs : List StepRecord) → length (facts rs) ≡ length rs
as_many [] = refl
as_many (r ∷ rs) = ap suc (as_many rs)

-- the step at a place
module _ (rs : List StepRecord) (i : ℕ) (d : StepRecord) (within : i < length rs) where
  pub fact_at : slice_get (facts rs) i ≡ Some (get_or rs i d).fact
  fact_at = slice_get-map (λ (r : StepRecord). r.fact) rs i ∙ ap (option_map (λ (r : StepRecord). r.fact)) (slice_get-get_or rs i d within)

  pub facts_from : drop i (facts rs) ≡ (get_or rs i d).fact ∷ drop (i + 1) (facts rs)
  facts_from =
      let n : i + 1 ≡ suc i = omega arith in
      let l : i < length (facts rs) = omega (arith, within, as_many rs) in
      drop-cons (facts rs) i d.fact l ∙ ap (λ (f : Fact). f ∷ drop (suc i) (facts rs)) (get_or_from_slice_get (facts rs) i (get_or rs i d).fact d.fact fact_at) ∙ ap (λ (k : ℕ). (get_or rs i d).fact ∷ drop k (facts rs)) (sym n)

  pub search_finds : (f : Fact) → depends_directly f (get_or rs i d).fact ≡ true → position_from (depends_directly f) i (drop i (facts rs)) ≡ Some i
  search_finds f h = let e = facts_from in rw (e, h) refl

  pub search_passes : (f : Fact) → depends_directly f (get_or rs i d).fact ≡ false → position_from (depends_directly f) i (drop i (facts rs)) ≡ position_from (depends_directly f) (i + 1) (drop (i + 1) (facts rs))
  search_passes f h = let e = facts_from in rw (e, h) refl

  -- ---- marked places

  pub marks : (places : List ℕ) → depends_on_some (facts rs) places (get_or rs i d).fact ≡ true → consequences_behind (facts rs) places i (drop i (facts rs)) ≡ i ∷ consequences_behind (facts rs) (places ++ i ∷ []) (i + 1) (drop (i + 1) (facts rs))
  marks places h = let e = facts_from in rw (e, h) refl

  pub passes : (places : List ℕ) → depends_on_some (facts rs) places (get_or rs i d).fact ≡ false → consequences_behind (facts rs) places i (drop i (facts rs)) ≡ consequences_behind (facts rs) places (i + 1) (drop (i + 1) (facts rs))
  passes places h = let e = facts_from in rw (e, h) refl

-- a step depends on those at some places where it does on the first or on those at the others
module _ (rs : List StepRecord) (places : List ℕ) (k : ℕ) (d : StepRecord) (f : Fact) (here : k < length places) (within : get_or places k 0 < length rs) where
  next_place : depends_on_some (facts rs) (drop k places) f ≡ (depends_directly (get_or rs (get_or places k 0) d).fact f || depends_on_some (facts rs) (drop (k + 1) places) f)
  next_place =
      let n : suc k ≡ k + 1 = omega arith in
      let e = fact_at rs (get_or places k 0) d within in
      ap (λ (l : List ℕ). list_any (λ place. depends_on (slice_get (facts rs) place) f) l) (drop-cons places k 0 here)
      ∙ ap (λ (o : Option Fact). depends_on o f || depends_on_some (facts rs) (drop (suc k) places) f) e
      ∙ ap (λ (m : ℕ). depends_directly (get_or rs (get_or places k 0) d).fact f || depends_on_some (facts rs) (drop m places) f) n

  pub place_decides : depends_directly (get_or rs (get_or places k 0) d).fact f ≡ true → depends_on_some (facts rs) (drop k places) f ≡ true
  place_decides h = next_place ∙ ap (λ b. b || depends_on_some (facts rs) (drop (k + 1) places) f) h

  pub place_passes : depends_directly (get_or rs (get_or places k 0) d).fact f ≡ false → depends_on_some (facts rs) (drop k places) f ≡ depends_on_some (facts rs) (drop (k + 1) places) f
  place_passes h = next_place ∙ ap (λ b. b || depends_on_some (facts rs) (drop (k + 1) places) f) h

-- a place that the pass forward comes to
module _ (rs : List StepRecord) (at i : ℕ) (d : StepRecord) (places : List ℕ) (within : i < length rs) (all : places ++ consequences_behind (facts rs) places i (drop i (facts rs)) ≡ consequences_at (facts rs) at) where
  pub is_marked : depends_on_some (facts rs) places (get_or rs i d).fact ≡ true → (places ++ i ∷ []) ++ consequences_behind (facts rs) (places ++ i ∷ []) (i + 1) (drop (i + 1) (facts rs)) ≡ consequences_at (facts rs) at
  is_marked h = append_assoc places (i ∷ []) (consequences_behind (facts rs) (places ++ i ∷ []) (i + 1) (drop (i + 1) (facts rs))) ∙ ap (λ (l : List ℕ). places ++ l) (sym (marks rs i d within places h)) ∙ all

  pub is_passed : depends_on_some (facts rs) places (get_or rs i d).fact ≡ false → places ++ consequences_behind (facts rs) places (i + 1) (drop (i + 1) (facts rs)) ≡ consequences_at (facts rs) at
  is_passed h = ap (λ (l : List ℕ). places ++ l) (sym (passes rs i d within places h)) ∙ all

  pub is_marked_in : (more : List ℕ) → more ≡ places ++ i ∷ [] → depends_on_some (facts rs) places (get_or rs i d).fact ≡ true → more ++ consequences_behind (facts rs) more (i + 1) (drop (i + 1) (facts rs)) ≡ consequences_at (facts rs) at
  is_marked_in more e h = subst (λ (l : List ℕ). l ++ consequences_behind (facts rs) l (i + 1) (drop (i + 1) (facts rs)) ≡ consequences_at (facts rs) at) (sym e) (is_marked h)

  pub is_passed_in : (same : List ℕ) → same ≡ places → depends_on_some (facts rs) places (get_or rs i d).fact ≡ false → same ++ consequences_behind (facts rs) same (i + 1) (drop (i + 1) (facts rs)) ≡ consequences_at (facts rs) at
  is_passed_in same e h = subst (λ (l : List ℕ). l ++ consequences_behind (facts rs) l (i + 1) (drop (i + 1) (facts rs)) ≡ consequences_at (facts rs) at) (sym e) (is_passed h)
