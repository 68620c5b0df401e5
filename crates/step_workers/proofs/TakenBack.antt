-- How receipts of undoings go on, call by call, and pass by pass.
use Rattle.std.proofs.Common.{◌≡◌, ℕ, ◌+◌, ◌≤◌, List, [], ◌∷◌, ◌++◌, length, ap, refl, sym, subst, inl, inr, ◌∙◌, arith}
use Rattle.std.specs.declared.vec.Vec.{Vec}
use Rattle.book_log.specs.Log.{Log}
use Rattle.book_log.specs.declared.entry.Entry.{Entry}
use Rattle.book_log.specs.declared.entry.Entry.TheVariants.{Define, Start, Step as Stepped, Undo, Rollback, Settle, Hold}
use Rattle.book_log.specs.declared.refusal.Refusal.{Refusal}
use Rattle.shared_book.specs.Calls.{GivesLatest, IsLatestCause, IsLatestUndone, IsRefusedFor}
use Rattle.shared_book.specs.Views.{PassView}
use Rattle.shared_book.specs.declared.receipt.Receipt.{Receipt}
use Rattle.shared_book.specs.declared.refusal.SharedRefusal.{SharedRefusal}
use Rattle.shared_book.specs.declared.refusal.SharedRefusal.TheVariants.{Refused, ForeignPass}
use Rattle.step_workers.specs.declared.outcome.Stopped.{Stopped}
use Rattle.step_workers.specs.Undoings.{AllStopped, AllTakeBack, AllTookNone, AllUndoings, IsStopped, IsUndoing, TakesBack, stopped_for}
use Rattle.step_workers.proofs.Going.{append_none, append_twice, length_both, seen_more}

is_undoing : (at : Log) (e : Entry) → IsLatestUndone at e → IsUndoing e
is_undoing at (Undo _) s = tt
is_undoing at (Stepped _ _) s = s
is_undoing at (Define _ _) s = s
is_undoing at (Start _ _ _) s = s
is_undoing at (Rollback _ _) s = s
is_undoing at Settle s = s
is_undoing at (Hold _ _) s = s

undoings_both : (xs ys : List Receipt) → AllUndoings xs → AllUndoings ys → AllUndoings (xs ++ ys)
undoings_both [] ys a b = b
undoings_both (x ∷ xs) ys a b = (a.0, undoings_both xs ys a.1 b)

pub takes_none : (n : ℕ) (p : PassView) → TakesBack n p p
takes_none n p = record { more = []; receipts = append_none p.receipts; few = omega arith; undoings = tt; parts = refl; seen = omega arith }

-- one undoing more
pub takes_more : (n : ℕ) (begun : Log) (a had has : PassView) (r : Receipt) → TakesBack n a had → GivesLatest begun had has r → TakesBack (n + 1) a has
takes_more n begun a had has r first then =
    let one = r ∷ [] in
    record {
      more = first.more ++ one;
      receipts = ap (λ (p : PassView). p.receipts) then.0.now ∙ ap (λ (t : List Receipt). t ++ one) first.receipts ∙ append_twice a.receipts first.more one;
      few = let l = length_both first.more one in let f = first.few in omega (arith, l, f);
      undoings = undoings_both first.more one first.undoings (is_undoing then.0.before r.entry then.1, tt);
      parts = ap (λ (p : PassView). p.parts) then.0.now ∙ first.parts;
      seen = let f = first.seen in let g = seen_more begun had has r then.0 in omega (arith, f, g);
    }

-- and so many receipts more
pub counts_more : (n : ℕ) (begun : Log) (a : List Receipt) (had has : PassView) (r : Receipt) → length had.receipts ≡ length a + n → GivesLatest begun had has r → length has.receipts ≡ length a + (n + 1)
counts_more n begun a had has r first then =
    let now = ap (λ (p : PassView). length p.receipts) then.0.now in
    let l = length_both had.receipts (r ∷ []) in
    omega (arith, now, l, first)

pub takes_within : (n m : ℕ) (a b : PassView) → n ≤ m → TakesBack n a b → TakesBack m a b
takes_within n m a b less takes = record {
  more = takes.more;
  receipts = takes.receipts;
  few = let f = takes.few in omega (arith, less, f);
  undoings = takes.undoings;
  parts = takes.parts;
  seen = takes.seen;
}

take_back_more : (n : ℕ) (ps qs : List PassView) (p q : PassView) → AllTakeBack n ps qs → TakesBack n p q → AllTakeBack n (ps ++ p ∷ []) (qs ++ q ∷ [])
take_back_more n [] [] p q a b = (b, tt)
take_back_more n [] (e ∷ qs) p q a b = absurd a
take_back_more n (r ∷ ps) [] p q a b = absurd a
take_back_more n (r ∷ ps) (e ∷ qs) p q a b = (a.0, take_back_more n ps qs p q a.1 b)

pub takes_back_last : (n : ℕ) (ss ts es ds : List PassView) (s d : PassView) → ss ≡ ts ++ s ∷ [] → es ≡ ds ++ d ∷ [] → AllTakeBack n ts ds → TakesBack n s d → AllTakeBack n ss es
takes_back_last n ss ts es ds s d gave took all one = rw gave (rw took (take_back_more n ts ds s d all one))

stopped_more : (begun : Log) (ps qs : List PassView) (ss : List Stopped) (p q : PassView) (s : Stopped) → AllStopped begun ps qs ss → IsStopped begun p q s → AllStopped begun (ps ++ p ∷ []) (qs ++ q ∷ []) (ss ++ s ∷ [])
stopped_more begun [] [] [] p q s a b = (b, tt)
stopped_more begun [] [] (t ∷ ss) p q s a b = absurd a
stopped_more begun [] (e ∷ qs) ss p q s a b = absurd a
stopped_more begun (r ∷ ps) [] ss p q s a b = absurd a
stopped_more begun (r ∷ ps) (e ∷ qs) [] p q s a b = absurd a
stopped_more begun (r ∷ ps) (e ∷ qs) (t ∷ ss) p q s a b = (a.0, stopped_more begun ps qs ss p q s a.1 b)

pub stopped_last : (begun : Log) (ss ts es ds : List PassView) (rs us : List Stopped) (s d : PassView) (r : Stopped) → ss ≡ ts ++ s ∷ [] → es ≡ ds ++ d ∷ [] → rs ≡ us ++ r ∷ [] → AllStopped begun ts ds us → IsStopped begun s d r → AllStopped begun ss es rs
stopped_last begun ss ts es ds rs us s d r gave took told all one = rw gave (rw took (rw told (stopped_more begun ts ds us s d r all one)))

took_none_more : {A : Type 0} (vs : List (Vec ℕ A)) (v : Vec ℕ A) → AllTookNone vs → v.items ≡ [] → AllTookNone (vs ++ v ∷ [])
took_none_more [] v a b = (b, tt)
took_none_more (w ∷ vs) v a b = (a.0, took_none_more vs v a.1 b)

pub took_none_last : {A : Type 0} (ws vs : List (Vec ℕ A)) (v : Vec ℕ A) → ws ≡ vs ++ v ∷ [] → AllTookNone vs → v.items ≡ [] → AllTookNone ws
took_none_last ws vs v took all none = rw took (took_none_more vs v all none)

-- ---- why a seat stops

stop_for : (begun : Log) (had has : PassView) (e : Refusal) (s : Stopped) → IsLatestCause begun has e → s ≡ stopped_for (Refused e) → IsStopped begun had has s
stop_for begun had has e s (inl memory) is = subst (IsStopped begun had has) (sym (is ∙ ap (λ (e : Refusal). stopped_for (Refused e)) memory)) refl
stop_for begun had has e s (inr none) is = subst (IsStopped begun had has) (sym (is ∙ ap (λ (e : Refusal). stopped_for (Refused e)) none.0)) none.1

pub stops_so : (begun : Log) (had has : PassView) (e : SharedRefusal) (s : Stopped) → IsRefusedFor begun has (IsLatestCause begun has) e → s ≡ stopped_for e → IsStopped begun had has s
stops_so begun had has (Refused e) s cause is = stop_for begun had has e s cause is
stops_so begun had has (ForeignPass number there) s cause is = subst (IsStopped begun had has) (sym is) cause
