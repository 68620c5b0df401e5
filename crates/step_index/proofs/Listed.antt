-- Classes of places are those of the records there, as records come and go.
use Rattle.std.proofs.Common.{◌≡◌, ◌<◌, arith, ℕ, zero, suc, List, [], ◌∷◌, ◌++◌, Option, None, Some, length, refl, ap, ap₂, sym, ◌∙◌}
use Rattle.std.specs.Prelude.{slice_get, option_map}
use Rattle.std.specs.List.{remove}
use Rattle.std.proofs.lemmas.List.{map-append}
use Rattle.std.proofs.lemmas.Option.{slice_get-map, get_or_from_slice_get}
use Rattle.linked_classes.specs.Cells.{cell_at}
use Rattle.saved_steps.specs.declared.fact.Fact.{Fact}
use Rattle.saved_steps.specs.declared.record.StepRecord.{StepRecord}
use Rattle.step_index.specs.Buckets.{all_classes, by_set, set_number}
use Rattle.step_index.specs.Records.{classes_by}
use Rattle.step_index.specs.declared.buckets.Classing.{Classing}
use Rattle.step_index.specs.declared.buckets.Classing.TheVariants.{Names, Threads, Execs, Gates, Keys, Writes}

pub there : (rs : List StepRecord) (i : ℕ) → i < length rs → (r : StepRecord) × (slice_get rs i ≡ Some r)
there [] i h = absurd (omega (arith, h))
there (r ∷ rs) zero h = (r, refl)
there (r ∷ rs) (suc i) h = there rs i (omega (arith, h))

pub first_out : (rs : List StepRecord) (r : StepRecord) → slice_get rs 0 ≡ Some r → rs ≡ r ∷ remove rs 0
first_out [] r is = absurd (cc)
first_out (x ∷ rs) r is = cc

module _ (by : Fact → Option ℕ) where
  pub class_there : (classes : List (Option ℕ)) (rs : List StepRecord) → classes ≡ classes_by by rs → (k : ℕ) (r : StepRecord) → slice_get rs k ≡ Some r → cell_at classes k ≡ by r.fact
  class_there classes rs e k r is =
      ap (λ cs. cell_at cs k) e ∙ get_or_from_slice_get (classes_by by rs) k (by r.fact) None (slice_get-map (λ (r : StepRecord). by r.fact) rs k ∙ ap (option_map (λ (r : StepRecord). by r.fact)) is)

  pub one_more : (rs : List StepRecord) (r : StepRecord) (classes : List (Option ℕ)) (class : Option ℕ) → classes ≡ classes_by by rs → class ≡ by r.fact → classes ++ class ∷ [] ≡ classes_by by (rs ++ r ∷ [])
  one_more rs r classes class e k = ap₂ (λ (xs : List (Option ℕ)) (x : Option ℕ). xs ++ x ∷ []) e k ∙ sym (map-append (λ (r : StepRecord). by r.fact) rs (r ∷ []))

  removed : (rs : List StepRecord) (at : ℕ) → remove (classes_by by rs) at ≡ classes_by by (remove rs at)
  removed [] zero = refl
  removed [] (suc at) = refl
  removed (x ∷ xs) zero = refl
  removed (x ∷ xs) (suc at) = ap (λ (l : List (Option ℕ)). by x.fact ∷ l) (removed xs at)

  pub one_less : (rs : List StepRecord) (at : ℕ) (classes : List (Option ℕ)) → classes ≡ classes_by by rs → remove classes at ≡ classes_by by (remove rs at)
  one_less rs at classes e = ap (λ cs. remove cs at) e ∙ removed rs at

-- the class of a step in a set is the one of its number
pub in_order : (set : Classing) (f : Fact) → cell_at (all_classes f) (set_number set) ≡ by_set set f
in_order Names f = refl
in_order Threads f = refl
in_order Execs f = refl
in_order Gates f = refl
in_order Keys f = refl
in_order Writes f = refl

pub set_below : (set : Classing) → set_number set < 6
set_below Names = omega arith
set_below Threads = omega arith
set_below Execs = omega arith
set_below Gates = omega arith
set_below Keys = omega arith
set_below Writes = omega arith
