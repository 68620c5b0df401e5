use Rattle.std.proofs.Common.{rules, codes, subst}
use Rattle.serde_json.specs.Find.{get}
use Rattle.serde_json.specs.View.{view}
use Rattle.asl_fields.specs.Values.{IsPathField}
use Rattle.asl_states.proofs.TestReadings.{null_is_no_path}
use Rattle.asl_states.proofs.test_readers.read_variable.Goals as goal

pub returns-in_ok-new-in-None-clause-fault : goal.returns-in_ok-new-in-None-clause-fault
returns-in_ok-new-in-None-clause-fault c =
    let d = get (codes "Variable") (view c.args.object.now) in
    (search rules, λ p. null_is_no_path d p (subst (IsPathField d) c.in-None.is c.in_ok-path.ensures.ok))
