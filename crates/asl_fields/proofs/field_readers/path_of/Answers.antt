use Rattle.std.proofs.Common.{rules, subst}
use Rattle.ref_paths.specs.Faults.{FaultStands}
use Rattle.ref_paths.specs.Grammar.{FailsAt}
use Rattle.asl_fields.proofs.NoPaths.{no_path_text}
use Rattle.asl_fields.proofs.field_readers.path_of.Goals as goal

pub returns-in_ok-new-in-Err-BadPath-clause-fault : goal.returns-in_ok-new-in-Err-BadPath-clause-fault
returns-in_ok-new-in-Err-BadPath-clause-fault c =
    let fails : FailsAt c.args.text.now c.in-Err-BadPath.field-0-0 = subst (FaultStands c.args.text.now) c.in-Err-BadPath.field-0-is c.in-Err-BadPath.ensures.err in
    (search rules, no_path_text c.args.text.now c.in-Err-BadPath.field-0-0 fails)
