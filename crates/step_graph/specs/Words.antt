-- The names of kinds and of reasons.
use Rattle.std.specs.Prelude.{ℕ, List, codes}
use Rattle.depends.specs.declared.reason.Reason.{Reason}
use Rattle.depends.specs.declared.reason.Reason.TheVariants as reasons
use Rattle.saved_steps.specs.declared.fact.Kind.{Kind}
use Rattle.saved_steps.specs.declared.fact.Kind.TheVariants as kinds

abbrev pub kind_name : Kind → List ℕ
kind_name kinds.Start = codes "start"
kind_name kinds.Plain = codes "plain"
kind_name kinds.Call = codes "call"
kind_name kinds.Fork = codes "fork"
kind_name kinds.Join = codes "join"
kind_name kinds.Terminate = codes "terminate"

abbrev pub reason_name : Reason → List ℕ
reason_name reasons.Thread = codes "thread"
reason_name reasons.Start = codes "start"
reason_name reasons.Fork = codes "fork"
reason_name reasons.Join = codes "join"
reason_name reasons.Item = codes "item"
reason_name reasons.Bound = codes "bound"
