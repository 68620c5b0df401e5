use Rattle.std.proofs.Common.{◌≡◌, ◌<◌, ◌-◌, None, arith, ap, sym, subst, ◌∙◌, inl, inr}
use Rattle.std.specs.Prelude.{slice_get}
use Rattle.std.proofs.lemmas.Bool.{cases_lt}
use Rattle.std.proofs.lemmas.Option.{same_Some, slice_get-get_or}
use Rattle.step_graph.specs.Edges.{reason_at}
use Rattle.step_graph.specs.declared.causing.Cause.{Cause}
use Rattle.step_graph.proofs.Inverted.{among, none_needs}
use Rattle.step_graph.proofs.causing.needed.Goals as goal

pub returns-in-Some-clause-among : goal.returns-in-Some-clause-among
returns-in-Some-clause-among c =
    let at = c.loop-left.left - 1 in
    let a = c.loop-left-test.true in
    let b = c.loop-left.invariant.within in
    among c.args.found.now at c.args.at _ (slice_get-get_or c.args.found.now at _ (omega (arith, a, b)))

pub loop-left-preserved : goal.loop-left-preserved
loop-left-preserved c =
    let at = c.loop-left.left - 1 in
    let a = c.loop-left-test.true in
    let b = c.loop-left.invariant.within in
    record {
      within = omega (arith, a, b);
      passed = λ k x is l after. elim (cases_lt k c.loop-left.left) [
        | inl w ↦
            let e : at ≡ k = omega (arith, a, l, w) in
            let same = same_Some _ x (sym (slice_get-get_or c.args.found.now at _ (omega (arith, a, b))) ∙ ap (slice_get c.args.found.now) e ∙ is) in
            subst (λ (y : Cause). reason_at c.args.records.now.items c.args.place y.place ≡ None) same
            (c.reason_behind.ensures.none c.in_default.is (subst (λ (y : Cause). c.args.place < y.place) (sym same) after))
        | inr w ↦ c.loop-left.invariant.passed k x is w after
      ];
    }

pub returns-in-None-clause-none : goal.returns-in-None-clause-none
returns-in-None-clause-none c = λ e.
    none_needs c.args.records.now.items c.args.place c.args.at c.args.found.now
    (λ k x is l after. c.loop-left.invariant.passed k x is (let z = c.loop-left-test.false in omega (arith, z, l)) after)
    (λ l. c.reason_behind-2.ensures.none c.in-None.is l)
