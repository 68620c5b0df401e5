use Rattle.std.proofs.Common.{◌≡◌, ◌==◌, ◌<◌, ◌≤◌, ◌++◌, ◌∷◌, [], arith, ℕ, Bool, List, Some, length, take, ap, ap₂, refl, sym, subst, ◌∙◌}
use Rattle.std.specs.Prelude.{slice_get}
use Rattle.std.specs.List.{list_any}
use Rattle.std.proofs.lemmas.List.{take_more, take_all}
use Rattle.std.proofs.lemmas.Option.{get_or_from_slice_get}
use Rattle.saved_steps.specs.declared.record.StepRecord.{StepRecord}
use Rattle.step_index.specs.Held.{AreLeft}
use Rattle.step_index.proofs.held.HeldSteps.of_plan.Goals as goal

pub loop-place-preserved : goal.loop-place-preserved
loop-place-preserved c =
    let rs = c.args.records.now.items in
    let ms = c.in_ok-marks.marks.items in
    let i = c.loop-place.place in
    let r = c.get.result.now in
    let low : i < length rs = omega arith in
    let many = c.in_ok-marks.ensures.len in
    let within : i < length ms = omega (arith, many) in
    let more = take_more rs i r low ∙ ap (λ (x : StepRecord). take i rs ++ x ∷ []) (get_or_from_slice_get rs i r r c.get.ensures) in
    record {
      marks = c.in_ok-add.ensures.marks ∙ ap₂ (λ (l : List Bool) (m : Bool). l ++ m ∷ []) c.loop-place.invariant.marks c.index.ensures ∙ sym (take_more ms i c.index.result.now within);
      left = subst (λ (l : List StepRecord). AreLeft l c.add.new.self) (sym more) (c.in_ok-add.ensures.left (take i rs) r refl c.loop-place.invariant.left);
    }

pub returns-clause-marks : goal.returns-clause-marks
returns-clause-marks c =
    λ k m is.
    let ms = c.in_ok-marks.marks.items in
    let many = c.in_ok-marks.ensures.len in
    let all : length ms ≤ c.loop-place.place = omega (arith, many) in
    let told = subst (λ (l : List Bool). slice_get l k ≡ Some m) (c.loop-place.invariant.marks ∙ take_all c.loop-place.place ms all) is in
    c.in_ok-marks.ensures.marks k m told ∙ ap (λ (l : List ℕ). list_any (λ (p : ℕ). p == k) l) c.places.ensures
