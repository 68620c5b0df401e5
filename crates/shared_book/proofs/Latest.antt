-- The latest step that is left of a hold can be undone, so its undoing is refused for memory alone.
use Rattle.std.proofs.Common.{◌≡◌, List, [], ◌∷◌, ◌++◌, Option, Some, None, Result, Ok, Err, refl, sym, subst, ◌∙◌, inl, inr}
use Rattle.std.specs.Prelude.{IfOk, IfErr}
use Rattle.step_names.specs.declared.step.StepName.{StepName}
use Rattle.book_events.specs.Calls.{IsLatestLeft}
use Rattle.book_log.specs.Answers.{undo_answer}
use Rattle.book_log.specs.Legal.{IsLegal}
use Rattle.book_log.specs.Log.{Log, step_on_hold, left_of}
use Rattle.book_log.specs.declared.entry.Entry.TheVariants.{Undo}
use Rattle.book_log.specs.declared.refusal.Refusal.{Refusal}
use Rattle.book_log.proofs.HoldSaid.{nothing_left}
use Rattle.book_log.proofs.Holding.{holds_stand}
use Rattle.shared_book.specs.Calls.{GivesAfter, GivesLatestAt, IsCauseAt, IsLatestCause, IsLatestCauseAt, IsLatestUndone, IsRefused, IsRefusedAt, IsRefusedFor}
use Rattle.shared_book.specs.Views.{PassView}
use Rattle.shared_book.specs.declared.receipt.Receipt.{Receipt}
use Rattle.shared_book.specs.declared.refusal.SharedRefusal.{SharedRefusal}
use Rattle.shared_book.specs.declared.refusal.SharedRefusal.TheVariants.{Refused, ForeignPass}

none_is_last : {T : Type 0} (front : List T) (x : T) → [] ≡ front ++ x ∷ [] → ⊥
none_is_last [] x h = cc
none_is_last (y ∷ front) x h = cc

undone_where : (log : Log) (name : StepName) (o : Option StepName) → IsLegal log → IsLatestLeft log (Some name) → step_on_hold log ≡ o → undo_answer log name ≡ Ok name
undone_where log name None legal (front, x, is, named) none = absurd (none_is_last front x (sym (nothing_left log none) ∙ is))
undone_where log name (Some step) legal (front, x, is, named) stands =
    subst (λ (n : StepName). undo_answer log n ≡ Ok n) named ((holds_stand log step legal stands).latest front x is)

pub latest_undone : (log : Log) (name : StepName) → IsLegal log → IsLatestLeft log (Some name) → undo_answer log name ≡ Ok name
latest_undone log name legal latest = undone_where log name (step_on_hold log) legal latest refl

not_both : (log : Log) (name : StepName) (e : Refusal) → undo_answer log name ≡ Ok name → undo_answer log name ≡ Err e → ⊥
not_both log name e ok err = cc

refused_latest : (begun log : Log) (had : PassView) (name : StepName) (e : SharedRefusal) → undo_answer log name ≡ Ok name → IsRefusedAt log had (IsCauseAt (undo_answer log name)) e
    → IsRefused begun (λ at. undo_answer at name) had e → IsRefusedFor begun had (IsLatestCause begun had) e
refused_latest begun log had name (Refused e) ok (inl memory) before = inl memory
refused_latest begun log had name (Refused e) ok (inr err) before = absurd (not_both log name e ok err)
refused_latest begun log had name (ForeignPass number there) ok h before = before

refused_latest_at : (log : Log) (had : PassView) (name : StepName) (e : SharedRefusal) → undo_answer log name ≡ Ok name → IsRefusedAt log had (IsCauseAt (undo_answer log name)) e
    → IsRefusedAt log had (IsLatestCauseAt log) e
refused_latest_at log had name (Refused e) ok (inl memory) = inl memory
refused_latest_at log had name (Refused e) ok (inr err) = absurd (not_both log name e ok err)
refused_latest_at log had name (ForeignPass number there) ok h = h

module _ (log : Log) (had : PassView) (name : StepName) (ok : undo_answer log name ≡ Ok name) where
  pub is_refused_latest : (begun : Log) (result : Result Receipt SharedRefusal) (A B : Type 0) → IfErr result (IsRefusedAt log had (IsCauseAt (undo_answer log name)))
      → IfErr result (λ e. IsRefused begun (λ at. undo_answer at name) had e × A × B) → IfErr result (λ e. IsRefusedFor begun had (IsLatestCause begun had) e × A × B)
  is_refused_latest begun (Ok r) A B h kept = tt
  is_refused_latest begun (Err e) A B h (before, a, b) = (refused_latest begun log had name e ok h before, a, b)

  pub is_refused_latest_at : (result : Result Receipt SharedRefusal) → IfErr result (IsRefusedAt log had (IsCauseAt (undo_answer log name))) → IfErr result (IsRefusedAt log had (IsLatestCauseAt log))
  is_refused_latest_at (Ok r) h = tt
  is_refused_latest_at (Err e) h = refused_latest_at log had name e ok h

-- where nothing is left nothing is held
held_where : (log : Log) (o : Option StepName) → IsLegal log → left_of log ≡ [] → step_on_hold log ≡ o → step_on_hold log ≡ None
held_where log None legal none is = is
held_where log (Some step) legal none is =
    let h = holds_stand log step legal is in
    let clash : [] ≡ h.step ∷ h.later = sym none ∙ h.left in
    cc

pub nothing_held : (log : Log) → IsLegal log → left_of log ≡ [] → step_on_hold log ≡ None
nothing_held log legal none = held_where log (step_on_hold log) legal none refl

-- ---- the receipt

pub gives_latest : (begun log : Log) (had has : PassView) (name : StepName) (result : Result Receipt SharedRefusal) → IsLatestLeft log (Some name)
    → IfOk result (GivesAfter begun log had has) → IfOk result (λ r. r.entry ≡ Undo name) → IfOk result (GivesLatestAt begun log had has)
gives_latest begun log had has name (Ok r) latest (given, there) entry =
    ((given, subst (λ (s : Log). IsLatestUndone s r.entry) (sym there) (subst (IsLatestUndone log) (sym entry) latest)), there)
gives_latest begun log had has name (Err e) latest h entry = tt
