-- A reason is told just where one of the cases holds.
use Rattle.std.proofs.Common.{◌≡◌, Bool, true, false, ◌||◌, Option, None, Some, is_some, if◌then◌else◌, refl}
use Rattle.saved_steps.specs.Steps.{makes, closes}
use Rattle.saved_steps.specs.World.{is_same_thread}
use Rattle.depends.specs.Dependence.{begins, conflicts, awaits}
use Rattle.depends.specs.Reasons.{ReasonsAreDependences}
use Rattle.depends.specs.declared.reason.Reason.{Reason}
use Rattle.depends.specs.declared.reason.Reason.TheVariants.{Thread, Start, Fork, Join, Item, Bound}

abbrev first_of : Bool → Bool → Bool → Bool → Bool → Bool → Option Reason
first_of p q r s t u =
    if p then Some Thread else if q then Some Start else if r then Some Fork else if s then Some Join else if t then Some Item else if u then Some Bound else None

one_holds : (p q r s t u : Bool) → is_some (first_of p q r s t u) ≡ (p || (q || (r || (s || (t || u)))))
one_holds true q r s t u = refl
one_holds false true r s t u = refl
one_holds false false true s t u = refl
one_holds false false false true t u = refl
one_holds false false false false true u = refl
one_holds false false false false false true = refl
one_holds false false false false false false = refl

pub reasons_are_dependences : ReasonsAreDependences
reasons_are_dependences a b =
    one_holds (is_same_thread a.name.thread b.name.thread) (begins a b.name.thread) (makes a b.name.thread) (closes b a.name.thread) (conflicts a.access b.access) (awaits b a.name.thread)
