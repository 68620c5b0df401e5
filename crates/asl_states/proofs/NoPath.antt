-- `null` is no path.
use Rattle.std.proofs.Common.{◌≡◌, List, Option, Some, None}
use Rattle.serde_json.specs.Data.{Data as Source}
use Rattle.asl_fields.specs.PathStep.{PathStep}
use Rattle.asl_fields.proofs.OneField.{one_path}
use Rattle.asl_fields.specs.Values.{IsPathField}

pub null_is_no_path : (d : Option Source) (p : List PathStep) → IsPathField d None → IsPathField d (Some p) → ⊥
null_is_no_path d p h k = let no : None ≡ Some p = one_path d None (Some p) h k in cc
