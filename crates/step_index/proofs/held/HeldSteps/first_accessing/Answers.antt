use Rattle.std.proofs.Common.{length, ap, ◌∙◌}
use Rattle.saved_steps.specs.Steps.{is_write}
use Rattle.linked_classes.specs.Sets.{set_of}
use Rattle.step_index.specs.Buckets.{by_key, by_write}
use Rattle.step_index.proofs.Needed.{first_of_key, first_of_none, first_of_writes, is_left}
use Rattle.step_index.proofs.held.HeldSteps.first_accessing.Goals as goal

pub returns-in_default-clause-first : goal.returns-in_default-clause-first
returns-in_default-clause-first c = first_of_none c.args.records.now.items c.args.self.now c.requires c.args.fact.now c.in_default.is

pub first_needed_in-requires-clause-many : goal.first_needed_in-requires-clause-many
first_needed_in-requires-clause-many c =
    let l = rw (← c.self.view_is) at c.requires in
    l.many

pub returns-in-Write-clause-first : goal.returns-in-Write-clause-first
returns-in-Write-clause-first c =
    let l = rw (← c.self.view_is) at c.requires in
    rw (← c.self.view_is) (first_of_key c.args.records.now.items _ l c.args.fact.now c.in-Some.access c.key_bucket-class.result c.first_needed_in.result c.in-Some.is c.key_bucket-class.ensures.bucket c.first_needed_in.ensures.first)

pub returns-in-Write-clause-left : goal.returns-in-Write-clause-left
returns-in-Write-clause-left c =
    let l = rw (← c.self.view_is) at c.requires in
    rw (← c.self.view_is) (is_left c.args.records.now.items _ l by_key (set_of c.self.inside.places 4) l.keyed c.key_bucket-class.result c.first_needed_in.result c.first_needed_in.ensures.member)

pub returns-in-Read-clause-first : goal.returns-in-Read-clause-first
returns-in-Read-clause-first c =
    let l = rw (← c.self.view_is) at c.requires in
    rw (← c.self.view_is)
    (first_of_writes c.args.records.now.items _ l c.args.fact.now c.in-Some.access c.key_bucket-class.result c.first_needed_in-in-Read.result c.in-Some.is (ap is_write c.in-Read.is) c.key_bucket-class.ensures.bucket c.first_needed_in-in-Read.ensures.first)

pub returns-in-Read-clause-left : goal.returns-in-Read-clause-left
returns-in-Read-clause-left c =
    let l = rw (← c.self.view_is) at c.requires in
    rw (← c.self.view_is)
    (is_left c.args.records.now.items _ l by_write (set_of c.self.inside.places 5) l.wrote c.key_bucket-class.result c.first_needed_in-in-Read.result c.first_needed_in-in-Read.ensures.member)
