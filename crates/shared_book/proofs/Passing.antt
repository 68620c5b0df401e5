-- Threads that are claimed, and those that are passed by.
use Rattle.std.proofs.Common.{◌≡◌, Bool, true, false, cond, List, [], ◌∷◌, refl, sym, ap, subst, ◌∙◌, inl, inr}
use Rattle.std.specs.Prelude.{◌&&◌, ◌||◌, ◌⊎◌, not, filter}
use Rattle.std.specs.BTreeMap.{is_at}
use Rattle.std.specs.Ordering.{eq_by_cmp, is_eq, match_ordering}
use Rattle.std.specs.declared.cmp.Ordering.{Ordering}
use Rattle.std.specs.declared.cmp.Ordering.TheVariants.{Less, Equal, Greater}
use Rattle.step_names.specs.Order.{thread_cmp}
use Rattle.step_names.specs.Thread.{Thread}
use Rattle.step_names.proofs.OrderLaws.{thread_itself, thread_same}
use Rattle.shared_book.specs.Away.{Away, AreOutside, claimed_alone, is_thread_among, is_passed, with_thread_name, without_thread}

-- ---- put in, and taken out again

put_first : (o : Ordering) (x t : Thread) (ks : List Thread) → thread_cmp t x ≡ o → (is_eq o || is_thread_among ks t) ≡ false → (is_thread_among ks t ≡ false → without_thread (with_thread_name ks t) t ≡ ks)
    → without_thread (match_ordering o (t ∷ x ∷ ks) (x ∷ ks) (x ∷ with_thread_name ks t)) t ≡ x ∷ ks
put_first Less x t ks is h more = rw (thread_itself t) refl
put_first Equal x t ks is h more = cc
put_first Greater x t ks is h more = rw is (ap (λ (l : List Thread). x ∷ l) (more h))

pub taken_out : (ks : List Thread) (t : Thread) → is_thread_among ks t ≡ false → without_thread (with_thread_name ks t) t ≡ ks
taken_out [] t h = rw (thread_itself t) refl
taken_out (x ∷ ks) t h = put_first (thread_cmp t x) x t ks refl h (taken_out ks t)

-- ---- the claimed ones alone

and_false : (b c : Bool) → c ≡ false → (b && c) ≡ false
and_false true c h = h
and_false false c h = refl

kept_first : (cs ks : List Thread) (t x : Thread) (a c : Bool) → eq_by_cmp thread_cmp t x ≡ a → is_thread_among cs x ≡ c → is_thread_among (filter (is_thread_among cs) ks) t ≡ (is_thread_among ks t && is_thread_among cs t)
    → is_thread_among (cond c (x ∷ filter (is_thread_among cs) ks) (filter (is_thread_among cs) ks)) t ≡ ((a || is_thread_among ks t) && is_thread_among cs t)
kept_first cs ks t x true true is c more =
    let claimed : is_thread_among cs t ≡ true = subst (λ (u : Thread). is_thread_among cs u ≡ true) (sym (thread_same t x is)) c in
    ap (λ (b : Bool). b || is_thread_among (filter (is_thread_among cs) ks) t) is ∙ sym claimed
kept_first cs ks t x true false is c more =
    let none : is_thread_among cs t ≡ false = subst (λ (u : Thread). is_thread_among cs u ≡ false) (sym (thread_same t x is)) c in
    more ∙ and_false (is_thread_among ks t) (is_thread_among cs t) none ∙ sym none
kept_first cs ks t x false true is c more = ap (λ (b : Bool). b || is_thread_among (filter (is_thread_among cs) ks) t) is ∙ more
kept_first cs ks t x false false is c more = more

kept_is : (cs ks : List Thread) (t : Thread) → is_thread_among (filter (is_thread_among cs) ks) t ≡ (is_thread_among ks t && is_thread_among cs t)
kept_is cs [] t = refl
kept_is cs (x ∷ ks) t = kept_first cs ks t x (eq_by_cmp thread_cmp t x) (is_thread_among cs x) refl refl (kept_is cs ks t)

both : (b c : Bool) → b ≡ true → c ≡ true → (b && c) ≡ true
both b c h k = ap (λ (d : Bool). d && c) h ∙ k

pub outside_alone : (a : Away) → AreOutside a → AreOutside (claimed_alone a)
outside_alone a h t k = kept_is a.claimed a.outside t ∙ both (is_thread_among a.outside t) (is_thread_among a.claimed t) (h t k) k

neither : (b c : Bool) → ((b && c) && not c) ≡ false
neither true true = refl
neither true false = refl
neither false true = refl
neither false false = refl

pub none_passed : (a : Away) (t : Thread) → is_passed (claimed_alone a) t ≡ false
none_passed a t = ap (λ (b : Bool). b && not (is_thread_among a.claimed t)) (kept_is a.claimed a.outside t) ∙ neither (is_thread_among a.outside t) (is_thread_among a.claimed t)

-- ---- one more is passed by

passed_or : (outside was now at : Bool) (s t : Thread) → now ≡ cond at false was → is_at (thread_cmp t) s ≡ at → (outside && not now) ≡ true → ((outside && not was) ≡ true) ⊎ (s ≡ t)
passed_or outside was now true s t is same h = inr (sym (thread_same t s same))
passed_or outside was now false s t is same h = inl (ap (λ (b : Bool). outside && not b) (sym is) ∙ h)

pub passed_one : (claimed now outside : List Thread) (s t : Thread) → is_thread_among now s ≡ cond (is_at (thread_cmp t) s) false (is_thread_among claimed s) → (is_thread_among outside s && not (is_thread_among now s)) ≡ true
    → ((is_thread_among outside s && not (is_thread_among claimed s)) ≡ true) ⊎ (s ≡ t)
passed_one claimed now outside s t is h = passed_or (is_thread_among outside s) (is_thread_among claimed s) (is_thread_among now s) (is_at (thread_cmp t) s) s t is refl h
