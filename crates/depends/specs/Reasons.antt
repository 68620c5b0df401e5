-- Why a later step depends directly on an earlier one: the first case of the definition that holds.
use Rattle.std.specs.Prelude.{◌≡◌, Option, None, Some, is_some, if◌then◌else◌}
use Rattle.saved_steps.specs.Steps.{makes, closes}
use Rattle.saved_steps.specs.World.{is_same_thread}
use Rattle.saved_steps.specs.declared.fact.Fact.{Fact}
use Rattle.depends.specs.Dependence.{begins, conflicts, awaits, depends_directly}
use Rattle.depends.specs.declared.reason.Reason.{Reason}
use Rattle.depends.specs.declared.reason.Reason.TheVariants.{Thread, Start, Fork, Join, Item, Bound}

abbrev pub reason_between : Fact → Fact → Option Reason
reason_between a b =
    if is_same_thread a.name.thread b.name.thread then Some Thread
    else if begins a b.name.thread then Some Start
    else if makes a b.name.thread then Some Fork
    else if closes b a.name.thread then Some Join
    else if conflicts a.access b.access then Some Item
    else if awaits b a.name.thread then Some Bound
    else None

-- there is a reason just where there is a dependence
abbrev pub ReasonsAreDependences : Type 0
ReasonsAreDependences = (a b : Fact) → is_some (reason_between a b) ≡ depends_directly a b
