use Rattle.std.proofs.Common.{length, Some, refl, ap, subst, sym, ◌∙◌}
use Rattle.std.specs.Ordering.{eq_by_cmp}
use Rattle.std.proofs.lemmas.Option.{slice_get_read}
use Rattle.step_names.specs.Order.{step_cmp}
use Rattle.step_names.specs.declared.step.StepName.{StepName}
use Rattle.step_names.proofs.OrderLaws.{step_same}
use Rattle.step_history.specs.SettledNames.{SettledNamesView, bucket, is_name_among}
use Rattle.step_history.proofs.NamesClassed.{IsPassed, none_passes, went_on, within}
use Rattle.step_history.proofs.settled_names.SettledNames.contains.Goals as goal

pub loop-next-preserved : goal.loop-next-preserved
loop-next-preserved c =
    let ns = c.self.inside.names.items in
    let v = c.self.inside.classes in
    let name = c.args.name.now in
    let p = λ (n : StepName). eq_by_cmp step_cmp n name in
    let old = subst (λ o. IsPassed v (bucket name) p ns o) c.in-Some.is c.loop-next.invariant in
    let low = within v (bucket name) p ns c.self.invariant (Some c.in-Some.number) old.here in
    let here = slice_get_read ns (length ns) c.in-Some.number c.index.result.now refl low c.index.ensures in
    went_on v (bucket name) p ns c.self.invariant c.in-Some.number c.index.result.now old here (sym c.eq.ensures ∙ c.if-eq.false) c.next-next.result (c.next-next.ensures.member (bucket name) old.here)

pub returns : goal.returns
returns c =
    let ns = c.self.inside.names.items in
    let name = c.args.name.now in
    let p = λ (n : StepName). eq_by_cmp step_cmp n name in
    let old = subst (λ o. IsPassed c.self.inside.classes (bucket name) p ns o) c.in_default.is c.loop-next.invariant in
    let none = none_passes c.self.inside.classes (bucket name) p ns c.self.invariant (λ n e. ap bucket (step_same n name e)) old in
    sym (sym (ap (λ (v : SettledNamesView). is_name_among name v.items) c.self.view_is) ∙ none)
