use Rattle.std.proofs.Common.{[], ◌∷◌, ◌+◌, ◌++◌, cond, refl, ap, sym, ◌∙◌}
use Rattle.std.proofs.lemmas.Option.{same_Some}
use Rattle.std.proofs.lemmas.Result.{on_ok_weaker}
use Rattle.saved_steps.specs.declared.record.StepRecord.{StepRecord}
use Rattle.depends.specs.Plans.{depends_on_some}
use Rattle.step_index.proofs.Following.{facts}
use Rattle.step_index.proofs.plans.add_if_follows.Goals as goal

pub returns-then-not-branch-clause-places : goal.returns-then-not-branch-clause-places
returns-then-not-branch-clause-places c g is =
    let rs = c.args.records.now in
    let places = c.args.found.now.places.items in
    let same = same_Some c.look.result.now g (sym c.look.ensures.record ∙ is) in
    let told = ap (λ (r : StepRecord). depends_on_some (facts rs) places r.fact) (sym same) ∙ sym (c.in_ok-is_needed.ensures rs (c.args.place + 1) c.requires.found) ∙ c.if-not-branch.true in
    sym (ap (λ b. cond b (places ++ c.args.place ∷ []) places) told)

pub returns-clause-places : goal.returns-clause-places
returns-clause-places c g is =
    let rs = c.args.records.now in
    let places = c.args.found.now.places.items in
    let same = same_Some c.look.result.now g (sym c.look.ensures.record ∙ is) in
    let told = ap (λ (r : StepRecord). depends_on_some (facts rs) places r.fact) (sym same) ∙ sym (c.in_ok-is_needed.ensures rs (c.args.place + 1) c.requires.found) ∙ c.if-not-branch.false in
    on_ok_weaker c.add.result (λ e. e ∙ sym (ap (λ b. cond b (places ++ c.args.place ∷ []) places) told)) c.add.ensures.places

pub returns-clause-found : goal.returns-clause-found
returns-clause-found c = on_ok_weaker c.add.result (λ add. add c.look.result.now c.look.ensures.record refl c.requires.found) c.add.ensures.found
