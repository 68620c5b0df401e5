use Rattle.std.proofs.Common.{◌≡◌, ◌+◌, Some, ap, sym, subst, ◌∙◌}
use Rattle.std.specs.Prelude.{slice_get, ◌||◌}
use Rattle.std.proofs.lemmas.Option.{same_Some}
use Rattle.depends.specs.Dependence.{is_start}
use Rattle.saved_steps.specs.Steps.{is_fork}
use Rattle.saved_steps.specs.declared.record.StepRecord.{StepRecord}
use Rattle.step_index.specs.Buckets.{exec_bucket, thread_bucket}
use Rattle.step_index.specs.Walks.{IsFirstFrom, NeedsByName, record_needs}
use Rattle.step_index.proofs.Dependents.{own_exec, own_thread, first_of_exec, first_of_thread_or_gate}
use Rattle.step_index.proofs.records.StepRecords.first_in_execution.Goals as goal

pub returns-then-makes_threads : goal.returns-then-makes_threads
returns-then-makes_threads c f h =
    let i = c.self.inside in
    let rs = i.records.items in
    let is : slice_get rs c.args.at ≡ Some f = rw (← c.self.view_is) at h in
    let class = exec_bucket f.fact.name.thread.exec in
    let told = c.first_needing.ensures.member class f (own_exec i.records c.self.invariant c.args.at f is) is in
    let first = told in
    rw (← c.self.view_is) (first_of_exec i.records c.self.invariant c.args.at f is c.first_needing.result first)

pub returns : goal.returns
returns c f h =
    let i = c.self.inside in
    let rs = i.records.items in
    let is : slice_get rs c.args.at ≡ Some f = rw (← c.self.view_is) at h in
    let own = c.get.result.now in
    let same = same_Some own f (sym (c.get.ensures) ∙ is) in
    let class = c.exec_bucket-class.ensures.bucket ∙ ap exec_bucket (c.exec.ensures.exec ∙ ap (λ (r : StepRecord). r.fact.name.thread.exec) same) in
    let none = ap (λ (r : StepRecord). is_start r.fact.kind || is_fork r.fact.kind) (sym same) ∙ sym c.makes_threads.ensures ∙ c.if-makes_threads.false in
    let thread = thread_bucket f.fact.name.thread in
    let own_first =
    (c.first_needing-2.ensures.member thread f (own_thread i.records c.self.invariant c.args.at f is) is) in
    let closing = (c.first_needing_in-closing.ensures f is) in
    rw (← c.self.view_is)
    (subst (λ r. IsFirstFrom (NeedsByName rs f) (record_needs f) rs (c.args.at + 1) r) (sym c.earlier.ensures)
    (first_of_thread_or_gate i.records c.self.invariant c.args.at f is c.exec_bucket-class.result c.first_needing-2.result c.first_needing_in-closing.result class none own_first closing))
