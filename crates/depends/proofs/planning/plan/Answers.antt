use Rattle.std.proofs.Common.{sym, ap, ◌∙◌, subst, List, ℕ, All, length, ◌<◌, get_or}
use Rattle.std.proofs.lemmas.List.Elements.{All-push}
use Rattle.depends.specs.Plans.{depends_on_some}
use Rattle.depends.proofs.Searching.{facts, is_marked_in, is_passed_in}
use Rattle.depends.proofs.planning.plan.Goals as goal
use Rattle.depends.proofs.planning.plan.Goals.{then-depends_on_some+in_ok-push-2, else-depends_on_some}

pub loop-place-preserved : goal.loop-place-preserved
loop-place-preserved c =
    let rs = c.args.records.now in
    let i = c.loop-place.place in
    let places = c.loop-place.places.items in
    let next = c.if-depends_on_some.places.items in
    let d = c.index-records-place.result in
    let told = ap (λ (l : List ℕ). depends_on_some (facts rs) l (get_or rs i d).fact) (sym c.as_slice.ensures.value) ∙ sym c.depends_on_some.ensures in
    elim c.if-depends_on_some.branch [
      | then-depends_on_some+in_ok-push-2 w ↦
          let e = ap (λ v. v.items) w.places-is ∙ w.in_ok-push-2.ensures.items in
          record {
            all = is_marked_in rs c.args.at i d places c.loop-place-test.true c.loop-place.invariant.all next e (told ∙ w.if-depends_on_some.true);
            within = subst (All (λ p. p < length rs)) (sym e) (All-push (λ p. p < length rs) places i c.loop-place.invariant.within c.loop-place-test.true);
          }
      | else-depends_on_some w ↦
          let e = ap (λ v. v.items) w.places-is in
          record {
            all = is_passed_in rs c.args.at i d places c.loop-place-test.true c.loop-place.invariant.all next e (told ∙ w.if-depends_on_some.false);
            within = subst (All (λ p. p < length rs)) (sym e) c.loop-place.invariant.within;
          }
    ]
