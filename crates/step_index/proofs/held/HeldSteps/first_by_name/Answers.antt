use Rattle.std.proofs.Common.{length, ap, ◌∙◌}
use Rattle.linked_classes.specs.Sets.{set_of}
use Rattle.step_index.specs.Buckets.{by_exec, exec_bucket}
use Rattle.step_index.proofs.Needed.{first_by_name, is_left}
use Rattle.step_index.proofs.held.HeldSteps.first_by_name.Goals as goal

pub first_needed_in-requires-clause-many : goal.first_needed_in-requires-clause-many
first_needed_in-requires-clause-many c =
    let l = rw (← c.self.view_is) at c.requires in
    l.many

pub returns-clause-first : goal.returns-clause-first
returns-clause-first c =
    let l = rw (← c.self.view_is) at c.requires in
    rw (← c.self.view_is)
    (first_by_name c.args.records.now.items _ l c.args.fact.now c.exec_bucket-class.result c.first_needed_in.result (c.exec_bucket-class.ensures.bucket ∙ ap exec_bucket c.exec.ensures.exec) c.first_needed_in.ensures.first)

pub returns-clause-left : goal.returns-clause-left
returns-clause-left c =
    let l = rw (← c.self.view_is) at c.requires in
    rw (← c.self.view_is) (is_left c.args.records.now.items _ l by_exec (set_of c.self.inside.places 2) l.run c.exec_bucket-class.result c.first_needed_in.result c.first_needed_in.ensures.member)
