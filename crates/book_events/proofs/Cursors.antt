-- Cursors, and which threads a search from one leaves out.
use Rattle.std.proofs.Common.{◌≡◌, ℕ, Bool, true, false, not, ◌&&◌, Ordering, Less, Equal, Greater, is_eq, List, [], refl, ap, sym, subst, ◌∙◌, Some, inl, inr}
use Rattle.std.specs.Prelude.{◌⊎◌}
use Rattle.std.proofs.Math.Path.{fun_ext}
use Rattle.std.specs.Cmp.Lexicographic.{slice_cmp}
use Rattle.std.specs.Ordering.{nat_cmp}
use Rattle.std.specs.Str.{bytes_eq}
use Rattle.std.proofs.lemmas.Cmp.{nat_list_cmp_total}
use Rattle.std.proofs.lemmas.Map.Text.{is_eq-slice_cmp}
use Rattle.std.proofs.lemmas.Slice.Eq.{bytes_eq-Decides}
use Rattle.step_names.specs.Order.{thread_cmp}
use Rattle.step_names.specs.Thread.{Thread, execution}
use Rattle.branch_tree.proofs.FirstOf.{none_before}
use Rattle.saved_steps.specs.First.{IsFirstReady, free}
use Rattle.saved_steps.proofs.Earliest.{apart, nothing_before}
use Rattle.book_log.specs.Laws.{LeavesOthers}
use Rattle.book_log.specs.Log.{Log, world_of}
use Rattle.book_events.specs.Cursors.{GoesBack, IsUpTo, LeavesNoneOut, first_of_all}

-- what is before the first thread of an execution is of an execution before it
under_first : (exec : List ℕ) (t : Thread) → thread_cmp t (execution exec) ≡ Less → slice_cmp nat_cmp t.exec exec ≡ Less
under_first exec t h = by (slice_cmp nat_cmp t.exec exec) refl
  where
    by : (o : Ordering) → slice_cmp nat_cmp t.exec exec ≡ o → slice_cmp nat_cmp t.exec exec ≡ Less
    by Less e = e
    by Equal e = let less = rw e at h in absurd (none_before t.path less)
    by Greater e = let clash : Greater ≡ Less = rw e at h in cc

before_it : (t u : Thread) → slice_cmp nat_cmp t.exec u.exec ≡ Less → thread_cmp t u ≡ Less
before_it t u less = rw less refl

pub nothing_first : (t : Thread) → thread_cmp t first_of_all ≡ Less → ⊥
nothing_first t h = nothing_before t.exec (under_first [] t h)

-- ---- back before an execution

-- it was after that one
pub back_to : (exec : List ℕ) (was : Thread) (now : List ℕ) → slice_cmp nat_cmp exec was.exec ≡ Less → (now ≡ exec) ⊎ (now ≡ []) → GoesBack exec was (execution now)
back_to exec was now before (inl same) t less =
    let at : slice_cmp nat_cmp t.exec exec ≡ Less = subst (λ (x : List ℕ). slice_cmp nat_cmp t.exec x ≡ Less) same (under_first now t less) in
    (before_it t was (nat_list_cmp_total.trans t.exec exec was.exec at before), apart exec t.exec at)
back_to exec was now before (inr none) t less = absurd (nothing_first t (subst (λ (x : List ℕ). thread_cmp t (execution x) ≡ Less) none less))

-- it was within that one
pub back_within : (exec : List ℕ) (was : Thread) → is_eq (slice_cmp nat_cmp exec was.exec) ≡ true → GoesBack exec was (execution was.exec)
back_within exec was same t less =
    let at : slice_cmp nat_cmp t.exec was.exec ≡ Less = under_first was.exec t less in
    let equal : exec ≡ was.exec = (bytes_eq-Decides exec was.exec).0 (sym (is_eq-slice_cmp exec was.exec) ∙ same) in
    (before_it t was at, subst (λ (x : List ℕ). bytes_eq x t.exec ≡ false) (sym equal) (apart was.exec t.exec at))

-- ---- which threads are left out

fewer : (b was now : Bool) → (was ≡ true → now ≡ true) → (b && not was) ≡ false → (b && not now) ≡ false
fewer true true now more h = ap not (more refl)
fewer true false now more h = cc
fewer false was now more h = refl

-- none before all
pub none_at_first : (log : Log) (passed : Thread → Bool) → LeavesNoneOut log passed first_of_all
none_at_first log passed t named less = absurd (nothing_first t less)

-- none before the first that is free, nor if more are passed by
pub none_up_to : (log : Log) (was now : Thread → Bool) (found at : Thread) → ((t : Thread) → was t ≡ true → now t ≡ true)
    → IsFirstReady (world_of log).frames was (Some found) → IsUpTo found at → LeavesNoneOut log now at
none_up_to log was now found at more first (inl is) t named less =
    fewer _ (was t) (now t) (more t) (first.2 t named (subst (λ (u : Thread). thread_cmp t u ≡ Less) is less))
none_up_to log was now found at more first (inr (inl is)) t named less =
    fewer _ (was t) (now t) (more t) (first.2 t named (before_it t found (under_first found.exec t (subst (λ (u : Thread). thread_cmp t u ≡ Less) is less))))
none_up_to log was now found at more first (inr (inr is)) t named less = absurd (nothing_first t (subst (λ (u : Thread). thread_cmp t u ≡ Less) is less))

-- nor if an execution changed, and the place goes back before it
pub none_left_out : (before after : Log) (passed : Thread → Bool) (exec : List ℕ) (from to : Thread) → LeavesOthers exec before after → GoesBack exec from to
    → LeavesNoneOut before passed from → LeavesNoneOut after passed to
none_left_out before after passed exec from to leaves back none t named less =
    let k = back t less in
    let same : (λ (p : List (ℕ × ℕ)). (world_of after).frames (record { exec = t.exec; path = p })) ≡ (λ (p : List (ℕ × ℕ)). (world_of before).frames (record { exec = t.exec; path = p })) =
    fun_ext (λ p. leaves (record { exec = t.exec; path = p }) k.1) in
    rw same (none t named k.0)
