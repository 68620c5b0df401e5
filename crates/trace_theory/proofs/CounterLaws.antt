-- The small machine is reversible, and its runs have each name once.
use Rattle.std.proofs.Common.{◌≡◌, ℕ, ◌+◌, ◌-◌, ◌≤◌, ◌==◌, Bool, true, false, cond, List, [], ◌∷◌, ◌++◌, arith, refl, ap, ap₂, sym, subst, ◌∙◌, inl, inr, Option, None, Some}
use Rattle.std.specs.Prelude.{◌⊎◌, ◌&&◌, ◌||◌, option_and_then}
use Rattle.std.proofs.Math.Path.{fun_ext}
use Rattle.std.proofs.lemmas.Bool.{and_parts, or_parts, eqb-true}
use Rattle.trace_theory.specs.Traces.{}
use Rattle.trace_theory.specs.Footprints.{IsReached, HasFootprints}
use Rattle.trace_theory.specs.Counters.{Frame, CounterWorld, Act, reads, writes, forks, joins, ends, CounterStep, is_join, counter_same_thread, counter_is_under, counter_makes, counter_closes, counter_reaches, conflict, writes_counter, touches_counter, depends, seen, branch, CounterCell, frame_at, counter_at, a_frame, a_number, content_at, Plan, counter_plan, plan_by, counter_after_effect, touched, counter_written, counter_held_after, counter_plans, start, Saved, saved, counter_before, counter_undo, counters, CountersAreReversible, CountersHaveNames}
use Rattle.trace_theory.proofs.Lists.{by_bool}
use Rattle.trace_theory.proofs.Runs.{map_some, reached_good}
use Rattle.trace_theory.proofs.Planned.{plans_are_reversible}
use Rattle.trace_theory.proofs.Names.{names_once}
use Rattle.trace_theory.proofs.CounterPaths.{either, itself, same_thread-true, thread_itself, under_under, branch_is_under, over_one}
use Rattle.trace_theory.proofs.CounterWorlds.{Planned, planned, frame_own, frame_reached, frame_other, reached, born, Good, start_good, same_frame, none_yet, good_after, good_kept}

good : (w : CounterWorld) → IsReached counters start w → Good w
good w r = reached_good counters Good start start_good (λ w v s f. good_kept w v s f) w r

-- ---- footprints

effect : (w : CounterWorld) (d : Plan) (c : CounterCell) → content_at (counter_after_effect w d) c ≡ cond (counter_written d c) (counter_held_after d c) (content_at w c)
effect w d (frame_at q) = by_bool (counter_same_thread d.step.thread q) _ (λ k. rw k refl) (λ k. by_bool (counter_reaches d.step q) _ (λ j. rw (k, j) refl) (λ j. rw (k, j) refl))
effect w d (counter_at k) = by_bool (writes_counter d.step.act k) _ (λ j. rw j refl) (λ j. rw j refl)

writes_touches : (a : Act) (k : ℕ) → writes_counter a k ≡ true → touches_counter a k ≡ true
writes_touches (writes j) k h = h
writes_touches (reads j) k h = cc
writes_touches forks k h = cc
writes_touches joins k h = cc
writes_touches ends k h = cc

within : (d : Plan) (c : CounterCell) → counter_written d c ≡ true → touched d c ≡ true
within d (frame_at q) h = h
within d (counter_at k) h = writes_touches d.step.act k h

a_frame_is : (f g : Option Frame) → a_frame f ≡ a_frame g → f ≡ g
a_frame_is f g h = cc

a_number_is : (a b : ℕ) → a_number a ≡ a_number b → a ≡ b
a_number_is a b h = cc

same : (w x : CounterWorld) → ((c : CounterCell) → content_at w c ≡ content_at x c) → w ≡ x
same w x h = ap₂ (λ (f : List (ℕ × ℕ) → Option Frame) (k : ℕ → ℕ). let v : CounterWorld = record { frames = f; counters = k } in v) (fun_ext (λ q. a_frame_is (w.frames q) (x.frames q) (h (frame_at q)))) (fun_ext (λ k. a_number_is (w.counters k) (x.counters k) (h (counter_at k))))

module _ (w x : CounterWorld) where
  seen_same : (a : Act) → ((k : ℕ) → touches_counter a k ≡ true → x.counters k ≡ w.counters k) → seen x a ≡ seen w a
  seen_same (reads k) h = h k (itself k)
  seen_same (writes k) h = refl
  seen_same forks h = refl
  seen_same joins h = refl
  seen_same ends h = refl

  before_same : (a : Act) → ((k : ℕ) → touches_counter a k ≡ true → x.counters k ≡ w.counters k) → counter_before x a ≡ counter_before w a
  before_same (writes k) h = h k (itself k)
  before_same (reads k) h = refl
  before_same forks h = refl
  before_same joins h = refl
  before_same ends h = refl

  branch_same : (a : Act) (t : List (ℕ × ℕ)) (n i : ℕ) → ((q : List (ℕ × ℕ)) → (is_join a && counter_is_under t (n - 1) q) ≡ true → x.frames q ≡ w.frames q) → branch x a t n i ≡ branch w a t n i
  branch_same joins t n i h = h (t ++ (n - 1, i) ∷ []) (branch_is_under t (n - 1) i)
  branch_same (reads k) t n i h = refl
  branch_same (writes k) t n i h = refl
  branch_same forks t n i h = refl
  branch_same ends t n i h = refl

  -- what one step looks up and saves
  seen_alike : (s : CounterStep) → x.frames s.thread ≡ w.frames s.thread → ((k : ℕ) → touches_counter s.act k ≡ true → x.counters k ≡ w.counters k) → ((q : List (ℕ × ℕ)) → counter_closes s q ≡ true → x.frames q ≡ w.frames q) → (counter_plan x s ≡ counter_plan w s) × (saved x s ≡ saved w s)
  seen_alike s own counter under =
      let b0 = branch_same s.act s.thread s.no 0 under in
      let b1 = branch_same s.act s.thread s.no 1 under in
      let v = seen_same s.act counter in
      let c = before_same s.act counter in
      let j : (λ q. cond (counter_closes s q) (x.frames q) None) ≡ (λ q. cond (counter_closes s q) (w.frames q) None) =
      fun_ext (λ q. by_bool (counter_closes s q) (cond (counter_closes s q) (x.frames q) None ≡ cond (counter_closes s q) (w.frames q) None) (λ k. rw k (under q k)) (λ k. rw k refl)) in (
        ap (λ (value : ℕ). option_and_then (plan_by s value (branch x s.act s.thread s.no 0) (branch x s.act s.thread s.no 1)) (x.frames s.thread)) v
            ∙ ap₂ (λ (a b : Option Frame). option_and_then (plan_by s (seen w s.act) a b) (x.frames s.thread)) b0 b1
            ∙ ap (option_and_then (plan_by s (seen w s.act) (branch w s.act s.thread s.no 0) (branch w s.act s.thread s.no 1))) own,
        ap₂ (λ (f : Option Frame) (n : ℕ). let r : Saved = record { frame = f; counter = n; joined = λ q. cond (counter_closes s q) (x.frames q) None } in r) own c
            ∙ ap (λ (g : List (ℕ × ℕ) → Option Frame). let r : Saved = record { frame = w.frames s.thread; counter = counter_before w s.act; joined = g } in r) j,
      )

or_left : (b c : Bool) → b ≡ true → (b || c) ≡ true
or_left b c h = rw h refl

or_right : (b c : Bool) → c ≡ true → (b || c) ≡ true
or_right true c h = refl
or_right false c h = h

local : (w x : CounterWorld) (s : CounterStep) (d : Plan) → IsReached counters start w → counter_plan w s ≡ Some d → ((c : CounterCell) → touched d c ≡ true → content_at x c ≡ content_at w c) → (counter_plan x s ≡ Some d) × (saved x d.step ≡ saved w d.step)
local w x s d r h a =
    let e = (planned w s d h).0 in
    let k = seen_alike w x d.step
    (a_frame_is (x.frames d.step.thread) (w.frames d.step.thread) (a (frame_at d.step.thread) (or_left (counter_same_thread d.step.thread d.step.thread) (counter_reaches d.step d.step.thread) (thread_itself d.step.thread))))
    (λ n t. a_number_is (x.counters n) (w.counters n) (a (counter_at n) t))
    (λ q t. a_frame_is (x.frames q) (w.frames q) (a (frame_at q) (or_right (counter_same_thread d.step.thread q) (counter_reaches d.step q) (or_right (counter_makes d.step q) (counter_closes d.step q) t)))) in
    (subst (λ (z : CounterStep). counter_plan x z ≡ counter_plan w z) e k.0 ∙ h, k.1)

restores : (w u : CounterWorld) (s : CounterStep) (d : Plan) (c : CounterCell) → IsReached counters start w → counter_plan w s ≡ Some d → content_at (counter_undo u d.step (saved w d.step)) c ≡ cond (counter_written d c) (content_at w c) (content_at u c)
restores w u s d (frame_at q) r h =
    by_bool (counter_same_thread d.step.thread q) _
    (λ k. rw k (ap (λ (p : List (ℕ × ℕ)). a_frame (w.frames p)) (same_thread-true d.step.thread q k)))
    (λ k. by_bool (counter_closes d.step q) _
    (λ j. let i = or_right (counter_makes d.step q) (counter_closes d.step q) j in rw (k, i, j) refl)
    (λ j. by_bool (counter_makes d.step q) _
    (λ i. rw (k, i, j) (ap a_frame (sym (nothing q i (w.frames q) refl))))
    (λ i. rw (k, i, j) refl)))
  where
    nothing : (q : List (ℕ × ℕ)) → counter_makes d.step q ≡ true → (o : Option Frame) → w.frames q ≡ o → w.frames q ≡ None
    nothing q i None e = e
    nothing q i (Some f) e = absurd (none_yet w d q f (good w r) (planned w s d h).1 i e)
restores w u s d (counter_at k) r h = by_bool (writes_counter d.step.act k) _ (λ j. rw j (ap a_number (was d.step.act j))) (λ j. rw j refl)
  where
    was : (a : Act) → writes_counter a k ≡ true → counter_before w a ≡ w.counters k
    was (writes j) e = ap w.counters (eqb-true j k e)
    was (reads j) e = cc
    was forks e = cc
    was joins e = cc
    was ends e = cc

-- ---- of independent neighbours neither reaches the other

no_conflict : (a b : Act) (k : ℕ) → conflict a b ≡ false → (writes_counter a k ≡ true → touches_counter b k ≡ true → ⊥) × (writes_counter b k ≡ true → touches_counter a k ≡ true → ⊥)
no_conflict (writes j) b k h = (
  λ i t. let f = ap (touches_counter b) (sym (eqb-true j k i)) ∙ h in cc,
  λ t i. let g = writes_touches b k t in let f = ap (touches_counter b) (sym (eqb-true j k i)) ∙ h in cc,
)
no_conflict (reads j) b k h = (λ i t. cc, λ t i. let f = ap (writes_counter b) (sym (eqb-true j k i)) ∙ h in cc)
no_conflict forks b k h = (λ i t. cc, λ t i. cc)
no_conflict joins b k h = (λ i t. cc, λ t i. cc)
no_conflict ends b k h = (λ i t. cc, λ t i. cc)

module _ (w : CounterWorld) (d e : Plan) (first : Planned w d) (second : Planned (counter_after_effect w d) e) (fine : Good (counter_after_effect w d)) (free : depends d.step e.step ≡ false) where
  no_thread : counter_same_thread d.step.thread e.step.thread ≡ false
  no_thread = (or_parts (counter_same_thread d.step.thread e.step.thread) _ free).0

  rest : (counter_makes d.step e.step.thread || (counter_closes e.step d.step.thread || conflict d.step.act e.step.act)) ≡ false
  rest = (or_parts (counter_same_thread d.step.thread e.step.thread) _ free).1

  no_made : counter_makes d.step e.step.thread ≡ false
  no_made = (or_parts (counter_makes d.step e.step.thread) _ rest).0

  no_closed : counter_closes e.step d.step.thread ≡ false
  no_closed = (or_parts (counter_closes e.step d.step.thread) _ (or_parts (counter_makes d.step e.step.thread) _ rest).1).0

  no_counter : conflict d.step.act e.step.act ≡ false
  no_counter = (or_parts (counter_closes e.step d.step.thread) _ (or_parts (counter_makes d.step e.step.thread) _ rest).1).1

  -- the earlier doesn't reach the later one's thread: a fork by independence, and after a join nothing stands there
  not_forward : counter_reaches d.step e.step.thread ≡ true → ⊥
  not_forward h =
      let gone = sym (frame_reached w d e.step.thread no_thread h) ∙ second.stands in
      let b = born d.step e.step.thread second.before gone in
      let made : counter_makes d.step e.step.thread ≡ true = let f = b.forked in let u = subst (λ q. counter_is_under d.step.thread d.step.no q ≡ true) b.place (branch_is_under d.step.thread d.step.no b.number) in rw (f, u) in
      let not_made = no_made in
      cc

  -- the later doesn't reach the earlier one's thread: a join by independence, and a fork is of no thread that is parked there
  not_backward : counter_reaches e.step d.step.thread ≡ true → ⊥
  not_backward h = elim (either (counter_makes e.step d.step.thread) (counter_closes e.step d.step.thread) h) [
    | inl k ↦ none_yet (counter_after_effect w d) e d.step.thread d.frame fine second k (frame_own w d d.step.thread (thread_itself d.step.thread))
    | inr k ↦ (let f = no_closed in cc)
  ]

  apart_at : (q : List (ℕ × ℕ)) → (counter_same_thread d.step.thread q || counter_reaches d.step q) ≡ true → (counter_same_thread e.step.thread q || counter_reaches e.step q) ≡ true → ⊥
  apart_at q h k = elim (either (counter_same_thread d.step.thread q) (counter_reaches d.step q) h) [
    | inl a ↦ elim (either (counter_same_thread e.step.thread q) (counter_reaches e.step q) k) [
      | inl b ↦ same_one (same_thread-true d.step.thread q a ∙ sym (same_thread-true e.step.thread q b))
      | inr b ↦ not_backward (subst (λ p. counter_reaches e.step p ≡ true) (sym (same_thread-true d.step.thread q a)) b)
    ]
    | inr a ↦ elim (either (counter_same_thread e.step.thread q) (counter_reaches e.step q) k) [
      | inl b ↦ not_forward (subst (λ p. counter_reaches d.step p ≡ true) (sym (same_thread-true e.step.thread q b)) a)
      | inr b ↦ both_over a b
    ]
  ]
    where
      same_one : d.step.thread ≡ e.step.thread → ⊥
      same_one f = let g = ap (counter_same_thread d.step.thread) (sym f) ∙ thread_itself d.step.thread in let i = no_thread in cc

      both_over : counter_reaches d.step q ≡ true → counter_reaches e.step q ≡ true → ⊥
      both_over a b =
          let r = reached d.step q a in
          let s = reached e.step q b in
          elim (over_one d.step.thread e.step.thread q r.fork s.fork r.under s.under) [
            | inl f ↦ same_one f
            | inr o ↦ elim o [ inl u ↦ not_forward (r.all e.step.thread u) | inr u ↦ not_backward (s.all d.step.thread u) ]
          ]

apart : (w : CounterWorld) (a b : CounterStep) (d e : Plan) (c : CounterCell) → IsReached counters start w → counter_plan w a ≡ Some d → counter_plan (counter_after_effect w d) b ≡ Some e → depends d.step e.step ≡ false → (counter_written d c ≡ true → touched e c ≡ true → ⊥) × (counter_written e c ≡ true → touched d c ≡ true → ⊥)
apart w a b d e (frame_at q) r h k free =
    let p = (planned w a d h).1 in
    let clash = apart_at w d e p (planned (counter_after_effect w d) b e k).1 (good_after w d (good w r) p) free q in
    (clash, λ i j. clash j i)
apart w a b d e (counter_at n) r h k free =
    let p = (planned w a d h).1 in
    no_conflict d.step.act e.step.act n (no_counter w d e p (planned (counter_after_effect w d) b e k).1 (good_after w d (good w r) p) free)

footprints : HasFootprints counters counter_plans start
footprints = record { planned = λ w n. refl; effect = effect; within = within; local = local; restores = restores; apart = apart; same = same }

pub counters_are_reversible : CountersAreReversible
counters_are_reversible = plans_are_reversible counters counter_plans start footprints

-- ---- names

-- the step was taken: its thread counts that far, or lay under a fork that is behind
data Was (w : CounterWorld) (s : CounterStep) : Type 0 where
  counted : (f : Frame) → w.frames s.thread ≡ Some f → s.no ≤ f.count → Was w s
  behind : (t : List (ℕ × ℕ)) (n : ℕ) (f : Frame) → counter_is_under t n s.thread ≡ true → w.frames t ≡ Some f → n + 1 ≤ f.count → Was w s

module _ (w : CounterWorld) (d : Plan) (fine : Good w) (p : Planned w d) where
  new : (s : CounterStep) → Was w s → (counter_same_thread s.thread d.step.thread && (s.no == d.step.no)) ≡ true → ⊥
  new s (counted f h c) e =
      let k = and_parts (counter_same_thread s.thread d.step.thread) (s.no == d.step.no) e in
      let g = ap (λ (x : Frame). x.count) (same_frame w d.step.thread f p.before (subst (λ t. w.frames t ≡ Some f) (same_thread-true s.thread d.step.thread k.0) h) p.stands) in
      absurd (omega (arith, c, p.numbered, eqb-true s.no d.step.no k.1, g))
  new s (behind t n f u h c) e =
      let k = and_parts (counter_same_thread s.thread d.step.thread) (s.no == d.step.no) e in
      let a = fine.over t d.step.thread n p.before (subst (λ q. counter_is_under t n q ≡ true) (same_thread-true s.thread d.step.thread k.0) u) p.stands in
      let g = ap (λ (x : Frame). x.count) (same_frame w t f a.frame h a.stands) in
      absurd (omega (arith, c, a.count, g))

  marked : Was (counter_after_effect w d) d.step
  marked = counted d.frame (frame_own w d d.step.thread (thread_itself d.step.thread)) (omega (arith, p.count))

  own_after : (w.frames d.step.thread ≡ Some p.before) × (p.before.count + 1 ≤ d.frame.count)
  own_after = (p.stands, omega (arith, p.count, p.numbered))

  -- a frame that stood is there with its count or more, or lies under the fork that the step closed
  kept_or_closed : (t : List (ℕ × ℕ)) (f : Frame) → w.frames t ≡ Some f → ((g : Frame) × ((counter_after_effect w d).frames t ≡ Some g) × (f.count ≤ g.count)) ⊎ (counter_is_under d.step.thread (d.step.no - 1) t ≡ true)
  kept_or_closed t f h =
      by_bool (counter_same_thread d.step.thread t) _
      (λ k. let g = ap (λ (x : Frame). x.count) (same_frame w d.step.thread p.before f p.stands (subst (λ q. w.frames q ≡ Some f) (sym (same_thread-true d.step.thread t k)) h)) in inl (d.frame, frame_own w d t k, omega (arith, p.count, p.numbered, g)))
      (λ k. by_bool (counter_reaches d.step t) _
      (λ j. elim (either (counter_makes d.step t) (counter_closes d.step t) j) [ inl i ↦ absurd (none_yet w d t f fine p i h) | inr i ↦ inr (and_parts (is_join d.step.act) (counter_is_under d.step.thread (d.step.no - 1) t) i).1 ])
      (λ j. inl (f, frame_other w d t k j ∙ h, omega arith)))

  closed : (s : CounterStep) → counter_is_under d.step.thread (d.step.no - 1) s.thread ≡ true → Was (counter_after_effect w d) s
  closed s u = behind d.step.thread (d.step.no - 1) d.frame u (frame_own w d d.step.thread (thread_itself d.step.thread)) (omega (arith, p.count, p.numbered))

  stays : (s : CounterStep) → Was w s → Was (counter_after_effect w d) s
  stays s (counted f h c) = elim (kept_or_closed s.thread f h) [ inl k ↦ counted k.0 k.1 (omega (arith, c, k.2)) | inr u ↦ closed s u ]
  stays s (behind t n f u h c) = elim (kept_or_closed t f h) [ inl k ↦ behind t n k.0 u k.1 (omega (arith, c, k.2)) | inr v ↦ closed s (under_under d.step.thread t s.thread (d.step.no - 1) n v u) ]

thread_alike : (p q : List (ℕ × ℕ)) → counter_same_thread p q ≡ true → counter_same_thread q p ≡ true
thread_alike p q h = ap (λ (r : List (ℕ × ℕ)). counter_same_thread q r) (same_thread-true p q h) ∙ thread_itself q

plan_taken : (w v : CounterWorld) (s f : CounterStep) → counters.take w s ≡ Some (v, f) → (d : Plan) × (counter_plan w s ≡ Some d) × (counter_after_effect w d ≡ v)
plan_taken w v s f h =
    let k = map_some (λ (d : Plan). (counter_after_effect w d, d.step)) (counter_plan w s) (v, f) h in
    (k.0, k.1, ap (λ (q : CounterWorld × CounterStep). q.0) k.2)

pub counters_have_names : CountersHaveNames
counters_have_names = record {
  itself = λ n. let a = thread_itself n.thread in let b = itself n.no in rw (a, b);
  alike = λ a b h. alike a b h;
  once = names_once counters start Was
      (λ w v n k f r h was. by_bool (counters.is_same k n) _ (λ e. let p = plan_taken w v n f h in let q = planned w n p.0 p.1 in absurd (new w p.0 (good w r) q.1 k was (subst (λ s. counters.is_same k s ≡ true) (sym q.0) e))) (λ e. e))
      (λ w v n f r h. let p = plan_taken w v n f h in let q = planned w n p.0 p.1 in subst (λ s. Was v s) q.0 (subst (λ x. Was x p.0.step) p.2 (marked w p.0 (good w r) q.1)))
      (λ w v n k f r h was. let p = plan_taken w v n f h in let q = planned w n p.0 p.1 in subst (λ x. Was x k) p.2 (stays w p.0 (good w r) q.1 k was));
}
  where
    alike : (a b : CounterStep) → (counter_same_thread a.thread b.thread && (a.no == b.no)) ≡ true → (counter_same_thread b.thread a.thread && (b.no == a.no)) ≡ true
    alike a b h =
        let k = and_parts (counter_same_thread a.thread b.thread) (a.no == b.no) h in
        let e = thread_alike a.thread b.thread k.0 in
        let f : (b.no == a.no) ≡ true = ap (λ (n : ℕ). b.no == n) (eqb-true a.no b.no k.1) ∙ itself b.no in
        rw (e, f)
