use Rattle.std.proofs.Common.{◌∷◌, true, refl, subst}
use Rattle.ref_paths.specs.Faults.{FaultStands}
use Rattle.ref_paths.specs.declared.reading.PathFault.{PathFault}
use Rattle.ref_paths.proofs.Sources.{no_item_source}
use Rattle.ref_paths.proofs.template_reading.read_item_steps.Goals as goal

pub returns-in-Err-BadPath-clause-fault : goal.returns-in-Err-BadPath-clause-fault
returns-in-Err-BadPath-clause-fault c =
    let fails = subst (λ (e : PathFault). FaultStands (36 ∷ c.args.steps.now) e) c.in-Err-BadPath.field-0-is c.in-Err-BadPath.ensures.err in
    (no_item_source true c.args.steps.now fails.no_path, refl)
