use Rattle.std.proofs.Common.{◌==◌, ◌<◌, arith, ℕ, get_or, length, take, sym, ◌∙◌}
use Rattle.std.specs.List.{list_any}
use Rattle.std.proofs.lemmas.List.{length-set}
use Rattle.std.proofs.lemmas.List.Elements.{All-get_or}
use Rattle.std.proofs.lemmas.List.Folds.{list_any_more}
use Rattle.step_index.proofs.Left.{marked_more}
use Rattle.step_index.proofs.held.marks_of.Goals as goal

pub loop-place-preserved : goal.loop-place-preserved
loop-place-preserved c =
    let i = c.loop-place.place-index in
    let places = c.args.places.now in
    let ms = c.loop-place.marks.items in
    let place = get_or places i 0 in
    let within = All-get_or (λ (p : ℕ). p < c.args.count) places i 0 c.loop-place-test.true c.requires in
    let low : place < length ms = (let e = c.loop-place.invariant.len in omega (arith, within, e)) in
    record {
      len = simp length-set c.loop-place.invariant.len;
      marked = λ k m is.
          marked_more ms place k m (list_any (λ (p : ℕ). p == k) (take i places)) low (c.loop-place.invariant.marked k) is
          ∙ sym (list_any_more (λ (p : ℕ). p == k) places i 0 c.loop-place-test.true);
    }
