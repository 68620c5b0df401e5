use Rattle.std.proofs.Common.{List, All, sym, subst}
use Rattle.std.proofs.lemmas.List.Elements.{All-push}
use Rattle.step_graph.specs.Causes.{IsReason}
use Rattle.step_graph.specs.declared.causing.Cause.{Cause}
use Rattle.step_graph.proofs.planned.plan_reasons.Goals as goal

pub loop-place-preserved-in-Continue-branch-4 : goal.loop-place-preserved-in-Continue-branch-4
loop-place-preserved-in-Continue-branch-4 c =
    let rs = c.args.records.now.items in
    subst (λ (cs : List Cause). All (IsReason rs) cs) (sym c.in_ok-push-2.ensures.items)
    (All-push (IsReason rs) c.loop-place.found.items c.in-Some-latest_cause.cause c.loop-place.invariant c.in-Some-latest_cause.ensures.reason)
