use Rattle.std.proofs.Common.{sym, ◌∙◌, subst}
use Rattle.ref_paths.specs.Faults.{FaultStands}
use Rattle.ref_paths.specs.TemplateFaults.{IsItemSource}
use Rattle.ref_paths.specs.declared.reading.PathFault.{PathFault}
use Rattle.ref_paths.specs.declared.template_reading.ItemSource.{ItemSource}
use Rattle.ref_paths.proofs.Sources.{no_source}
use Rattle.ref_paths.proofs.template_reading.read_source.Goals as goal

pub returns-in-Some-Value-clause-fault : goal.returns-in-Some-Value-clause-fault
returns-in-Some-Value-clause-fault c =
    let source = subst (λ (x : ItemSource). IsItemSource c.args.item_paths c.args.text.now x) c.in-Some-Value.field-0-is c.in-Some-Value.ensures in
    rw source.0 (rw source.1 c.read_item_steps.ensures.fault)

pub returns-in-Err-BadPath-clause-fault : goal.returns-in-Err-BadPath-clause-fault
returns-in-Err-BadPath-clause-fault c =
    let fails = subst (λ (e : PathFault). FaultStands c.args.text.now e) c.in-Err-BadPath.field-0-is c.in-Err-BadPath.ensures.err in
    (no_source c.args.item_paths c.args.text.now c.in-None.ensures fails.no_path, sym c.is_left_out.ensures ∙ c.if-is_left_out.true)

pub returns-in-Err-BadPath-2-clause-fault : goal.returns-in-Err-BadPath-2-clause-fault
returns-in-Err-BadPath-2-clause-fault c =
    let fails = subst (λ (e : PathFault). FaultStands c.args.text.now e) c.in-Err-BadPath.field-0-is c.in-Err-BadPath.ensures.err in
    (no_source c.args.item_paths c.args.text.now c.in-None.ensures fails.no_path, sym c.is_left_out.ensures ∙ c.if-is_left_out.false)
