-- Which retrier and which catcher stand for an error (Amazon States Language, "Errors": "Retrying after error" and "Fallback
-- states").
use Rattle.std.specs.Prelude.{ℕ, nat_lt, List, Bool, true, false, ◌&&◌, ◌||◌, not, if◌then◌else◌, Option, Some, None, slice_get, option_and_then, codes}
use Rattle.std.specs.List.{list_any, position, find}
use Rattle.json_tree.specs.Data.{Data, text, fields, no_members, member}
use Rattle.asl_frames.specs.Fields.{is_text}
use Rattle.asl_frames.specs.Retrier.{Retrier}
use Rattle.asl_frames.specs.Catcher.{Catcher}
use Rattle.asl_frames.specs.declared.frame.Fault.{Fault}
use Rattle.asl_frames.specs.declared.frame.Origin.{Origin}
use Rattle.asl_frames.specs.declared.frame.Origin.TheVariants.{Call, Branch, Other}
use Rattle.asl_frames.specs.Counters.{one_more}

abbrev pub is_call : Origin → Bool
is_call Call = true
is_call Branch = false
is_call Other = false

abbrev pub is_branch_origin : Origin → Bool
is_branch_origin Branch = true
is_branch_origin Call = false
is_branch_origin Other = false

-- whether a name of `ErrorEquals` means this error, unless that is `States.Runtime`: `States.TaskFailed` means what the state's
-- own call of the table answers, and `States.BranchFailed` what a Parallel state takes from a branch
abbrev pub means : Fault → List ℕ → Bool
means fault name =
    if is_text name (codes "States.ALL") then true else
    if is_text name (codes "States.TaskFailed") then is_call fault.origin else
    is_text name (codes "States.BranchFailed") && is_branch_origin fault.origin || is_text name fault.error

-- nothing stands for `States.Runtime`
abbrev pub stand_for : List (List ℕ) → Fault → Bool
stand_for names fault = not (is_text fault.error (codes "States.Runtime")) && list_any (means fault) names

-- ---- retriers

abbrev pub may_try : Option Retrier → Option ℕ → Bool
may_try (Some r) (Some tries) = nat_lt tries r.max_attempts
may_try (Some r) None = false
may_try None tries = false

-- The counters after one more use of the first retrier that stands for an error; nothing where none does, and where that one
-- was used as often as it may be: no later one is asked then.
abbrev pub retried : List Retrier → List ℕ → Fault → Option (List ℕ)
retried rs counters fault =
    option_and_then (λ i. if may_try (slice_get rs i) (slice_get counters i) then Some (one_more counters i) else None)
    (position (λ (r : Retrier). stand_for r.errors fault) rs)

-- ---- catchers

-- the first that stands for an error
abbrev pub catcher_for : List Catcher → Fault → Option Catcher
catcher_for cs fault = find (λ (c : Catcher). stand_for c.errors fault) cs

-- what a catcher places
abbrev pub error_object : Fault → Data
error_object fault = fields (member (codes "Cause") (text fault.cause) (member (codes "Error") (text fault.error) no_members))
