use Rattle.std.proofs.Common.{◌≡◌, [], ◌∷◌, refl, sym, subst, Result, Ok, Err}
use Rattle.std.specs.Prelude.{OnOk, OnErr}
use Rattle.std.proofs.lemmas.List.{append-nil}
use Rattle.step_names.specs.declared.step.StepName.{StepName}
use Rattle.book_log.specs.Log.{Log, appended}
use Rattle.book_log.specs.declared.entry.Entry.TheVariants.{Undo}
use Rattle.rollback_book.specs.Planned.{IsPlanned, WasPlanned}
use Rattle.rollback_book.specs.PlanRoom.{PlanRoom}
use Rattle.book_tests.proofs.acts.undo_and_roll_back.Goals as goal

-- what was planned before an undoing, whether it was refused or not
planned_before : {T E : Type 0} (result : Result T E) (old new : Log) (name : StepName) (r : PlanRoom) → IsPlanned old r → OnOk result (new ≡ appended old (Undo name)) → OnErr result (new ≡ old) → WasPlanned new r
planned_before (Ok x) old new name r planned ok err = subst (λ (s : Log). WasPlanned s r) (sym ok) (record { front = old.entries; later = Undo name ∷ []; parts = refl; planned = planned })
planned_before (Err e) old new name r planned ok err = subst (λ (s : Log). WasPlanned s r) (sym err) (record { front = old.entries; later = []; parts = sym (append-nil old.entries); planned = planned })

pub rollback-requires : goal.rollback-requires
rollback-requires c = planned_before c.undo.result _ _ _ c.in-Ok.plan c.in-Ok.ensures.1 c.undo.ensures.ok c.undo.ensures.err
