-- Where a thread is looked for that can be claimed, no execution is left out that has one.
use Rattle.std.proofs.Common.{◌≡◌, ℕ, Bool, true, false, ◌&&◌, not, cond, List, refl, ap, sym, subst, ◌∙◌, Option, None, Some, Result, Ok, Err}
use Rattle.std.specs.Prelude.{OnOk, is_err}
use Rattle.std.specs.BTreeMap.{is_at}
use Rattle.std.specs.Str.{bytes_eq}
use Rattle.std.proofs.lemmas.Slice.Eq.{bytes_eq-Decides}
use Rattle.book_log.specs.Laws.{LeavesOthers}
use Rattle.book_log.specs.Log.{Log, world_of}
use Rattle.book_events.specs.Cursors.{GoesBack, first_of_all}
use Rattle.book_events.specs.First.{IsFirstReady}
use Rattle.book_events.proofs.Cursors.{none_at_first, none_left_out, none_up_to}
use Rattle.step_names.specs.Order.{thread_cmp}
use Rattle.step_names.specs.Thread.{Thread}
use Rattle.step_names.proofs.OrderLaws.{thread_same}
use Rattle.shared_book.specs.Away.{Away, is_thread_among}
use Rattle.shared_book.specs.Seeking.{IsSought, NoneBefore}

-- ---- before the first thread there is nothing

pub none_before_first : (log : Log) (away : Away) (place : Thread) → place ≡ first_of_all → NoneBefore log away place
none_before_first log away place first = subst (NoneBefore log away) (sym first) (none_at_first log (is_thread_among away.outside))

-- ---- other threads are left out

fewer : (b was now : Bool) → (was ≡ true → now ≡ true) → (b && not was) ≡ false → (b && not now) ≡ false
fewer true true now more h = ap not (more refl)
fewer true false now more h = cc
fewer false was now more h = refl

module _ (log : Log) (was now : Away) where
  -- one is found, and left out then; or all are
  pub sought : (found : Option Thread) (to : Thread) → ((t : Thread) → is_thread_among was.outside t ≡ true → is_thread_among now.outside t ≡ true)
      → IsFirstReady (world_of log).frames (is_thread_among was.outside) found → IsSought found to → NoneBefore log now to
  sought None to more first is = λ t named less. fewer _ (is_thread_among was.outside t) (is_thread_among now.outside t) (more t) (first t named)
  sought (Some t) to more first is = none_up_to log (is_thread_among was.outside) (is_thread_among now.outside) t to more first is

-- ---- an execution has changed

pub none_elsewhere : (before after now : Log) (away : Away) (exec : List ℕ) (from to : Thread) → LeavesOthers exec before after → now ≡ after → GoesBack exec from to → NoneBefore before away from → NoneBefore now away to
none_elsewhere before after now away exec from to leaves is back none =
    subst (λ (s : Log). NoneBefore s away to) (sym is) (none_left_out before after (is_thread_among away.outside) exec from to leaves back none)

-- ---- claims

-- a thread of another execution is another
pub other_thread : (t u : Thread) → bytes_eq t.exec u.exec ≡ false → is_at (thread_cmp t) u ≡ false
other_thread t u h = by (is_at (thread_cmp t) u) refl
  where
    by : (b : Bool) → is_at (thread_cmp t) u ≡ b → b ≡ false
    by true e =
        let same : t ≡ u = thread_same t u e in
        let clash : false ≡ true = sym h ∙ (bytes_eq-Decides t.exec u.exec).1 (ap (λ (x : Thread). x.exec) same) in
        cc
    by false e = refl

pub others_stay : (was now : Bool) (at : Bool) → now ≡ cond at false was → at ≡ false → now ≡ was
others_stay was now true is h = cc
others_stay was now false is h = is

-- what is so where a call isn't refused
pub so_if_ok : {E : Type 0} (r : Result (Unit {0}) E) (P : Type 0) → is_err r ≡ false → OnOk r P → P
so_if_ok (Ok x) P ok h = h
so_if_ok (Err e) P ok h = cc
