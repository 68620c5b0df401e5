use Rattle.std.proofs.Common.{◌≡◌, Some, ap, sym, ◌∙◌}
use Rattle.std.specs.Prelude.{slice_get}
use Rattle.std.proofs.lemmas.Option.{same_Some}
use Rattle.saved_steps.specs.Steps.{is_write}
use Rattle.saved_steps.specs.declared.record.StepRecord.{StepRecord}
use Rattle.step_index.proofs.Dependents.{first_conflict, first_write}
use Rattle.step_index.proofs.records.StepRecords.first_conflict.Goals as goal

pub returns-in-Write : goal.returns-in-Write
returns-in-Write c f h =
    let i = c.self.inside in
    let rs = i.records.items in
    let is : slice_get rs c.args.at ≡ Some f = rw (← c.self.view_is) at h in
    rw (← c.self.view_is)
    (first_conflict i.records c.self.invariant c.args.at f is c.first_needing.result
    (λ class e. (c.first_needing.ensures.member class f e is))
    c.first_needing.ensures.none)

pub returns-in-Read : goal.returns-in-Read
returns-in-Read c f h =
    let i = c.self.inside in
    let rs = i.records.items in
    let is : slice_get rs c.args.at ≡ Some f = rw (← c.self.view_is) at h in
    let own = c.get.result.now in
    let same = same_Some own f (sym (c.get.ensures) ∙ is) in
    let has = ap (λ (r : StepRecord). r.fact.access) (sym same) ∙ c.in-Some.is in
    let found = (c.first_needing_in.ensures f is) in
    rw (← c.self.view_is)
    (first_write i.records c.self.invariant c.args.at f is c.in-Some.access c.key_bucket.result c.first_needing_in.result has (ap is_write c.in-Read.is) c.key_bucket.ensures.bucket found)
