-- What a query that writes nothing leaves of a connection.
use Rattle.std.proofs.Common.{◌⊎◌, inl, inr, ℕ, List, Result, Ok, Err, IfOk, IfErr, OnOk, OnErr, subst}
use Rattle.sqlite.specs.Order.{Row}
use Rattle.sqlite.specs.Listing.{understood}
use Rattle.sqlite.specs.declared.error.Error.{Error}
use Rattle.sqlite.specs.Clock.{timed}
use Rattle.sqlite.specs.State.{State, Shown, ShowsRows, IsUnchanged, Survives, CommitsShowing, FailsToQuery, FailsToShow, IsNotRun, Fails}
use Rattle.sqlite.proofs.StateLemmas.{survives_weaker}
use Rattle.sqlite.proofs.Callers.{IsPlain, never_commits}
use Rattle.book_journal.specs.Change.{IsBack}

module _ (sql : List ℕ) (params : Row) (old new : State) (plain : IsPlain (understood old.now.schema sql)) where
  pub commits_nothing : Survives old new (CommitsShowing sql params old) → Survives old new (λ _. ⊥)
  commits_nothing = survives_weaker old new _ _ (λ _ db. never_commits sql params old db plain)

  shown_unchanged : (rows : List Row) → Shown sql params old new rows → IsUnchanged old new
  unfolding Shown
  shown_unchanged rows h =
      let none = (subst IsPlain h.1.is plain).0 in
      (subst (ShowsRows old new sql h.0 (timed params h.0.formats h.1.now) rows) none h.2).3

  back : (P : Type 0) (e : Error) → Fails old new P e → IsBack old new
  back P e h open' = let undone = h.3 in (undone.was_open open', (undone.undone open').0, (undone.undone open').1)

  failed_back : (e : Error) → FailsToQuery sql params old new e → IsUnchanged old new ⊎ IsBack old new
  unfolding FailsToQuery IsNotRun
  failed_back e (inl (inl h)) = inl h.1
  failed_back e (inl (inr h)) = inr (back _ e h)
  failed_back e (inr h) =
      let none = (subst IsPlain h.1.is plain).0 in
      inl (subst (FailsToShow old new sql h.0 (timed params h.0.formats h.1.now) e) none h.2).3

  pub all_unchanged : {A : Type 0} (rows_of : A → List Row) (r : Result A Error) → IfOk r (λ a. Shown sql params old new (rows_of a)) → OnOk r (IsUnchanged old new)
  all_unchanged rows_of (Ok a) h = shown_unchanged (rows_of a) h
  all_unchanged rows_of (Err e) h = tt

  pub all_back : {A : Type 0} (r : Result A Error) → IfErr r (FailsToQuery sql params old new) → OnErr r (IsUnchanged old new ⊎ IsBack old new)
  all_back (Ok a) h = tt
  all_back (Err e) h = failed_back e h
