-- A text at which a reader of paths fails is no field's path.
use Rattle.std.proofs.Common.{ℕ, List, Option, Some, None}
use Rattle.ref_paths.specs.Grammar.{FailsAt}
use Rattle.ref_paths.specs.declared.path.PathStep.{PathStep}
use Rattle.asl_fields.specs.Values.{IsPathText}

pub no_path_text : (s : List ℕ) (n : ℕ) → FailsAt s n → (p : Option (List PathStep)) → IsPathText s p → ⊥
no_path_text s n fails None h = h
no_path_text s n fails (Some path) h = fails.no_path path h
