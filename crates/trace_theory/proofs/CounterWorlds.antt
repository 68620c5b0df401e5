-- What holds in each world that the small machine reaches: a thread stands under a fork only while the fork's thread is parked there.
use Rattle.std.proofs.Common.{◌≡◌, ℕ, ◌+◌, ◌-◌, ◌==◌, Bool, true, false, cond, List, [], ◌∷◌, ◌++◌, arith, refl, ap, sym, subst, ◌∙◌, inl, inr, Option, None, Some}
use Rattle.std.specs.Prelude.{◌&&◌, ◌||◌}
use Rattle.std.proofs.lemmas.Bool.{and_parts, eqb-true}
use Rattle.std.proofs.lemmas.Option.{same_Some}
use Rattle.trace_theory.specs.Counters.{Phase, ready, parked, done, Frame, CounterWorld, Act, reads, writes, forks, joins, ends, CounterStep, counter_is_fork, is_join, counter_same_thread, counter_is_under, counter_makes, counter_closes, counter_reaches, below, can, counter_is_ready, counter_is_parked, phase_after, seen, branch, Plan, counter_plan, plan_by, counter_after_effect, start, counter_first_frame, counters}
use Rattle.trace_theory.proofs.Lists.{by_bool}
use Rattle.trace_theory.proofs.Runs.{and_then_some, map_some}
use Rattle.trace_theory.proofs.CounterPaths.{either, same_thread-true, thread_itself, never_under_itself, under_under, above_branch}

-- ---- one plan

if_some : {A : Type 0} (b : Bool) (x y : A) → cond b (Some x) None ≡ Some y → (b ≡ true) × (x ≡ y)
if_some true x y h = (refl, same_Some x y h)
if_some false x y h = cc

pub record Planned (w : CounterWorld) (d : Plan) : Type 0 where
  pub before : Frame
  pub first : Option Frame
  pub second : Option Frame
  pub stands : w.frames d.step.thread ≡ Some before
  pub numbered : d.step.no ≡ before.count + 1
  pub can_be : can d.step.act before first second ≡ true
  pub count : d.frame.count ≡ d.step.no
  pub phase : d.frame.phase ≡ phase_after d.step.act

pub planned : (w : CounterWorld) (s : CounterStep) (d : Plan) → counter_plan w s ≡ Some d → (d.step ≡ s) × Planned w d
planned w s d h =
    let a = branch w s.act s.thread s.no 0 in
    let b = branch w s.act s.thread s.no 1 in
    let k = and_then_some (plan_by s (seen w s.act) a b) (w.frames s.thread) d h in
    let l = if_some _ _ d k.2 in
    let t = and_parts (s.no == k.0.count + 1) (can s.act k.0 a b) l.0 in
    let no = eqb-true s.no (k.0.count + 1) t.0 in
    let is_it = l.1 in (
      sym (ap (λ (p : Plan). p.step) is_it),
      subst (Planned w) is_it (record { before = k.0; first = a; second = b; stands = k.1; numbered = no; can_be = t.1; count = sym no; phase = refl }),
    )

ready_or_parked : (p : Phase) → counter_is_ready p ≡ true → counter_is_parked p ≡ true → ⊥
ready_or_parked ready h k = cc
ready_or_parked parked h k = cc
ready_or_parked done h k = cc

-- a parked thread can only join
only_joins : (a : Act) (f : Frame) (x y : Option Frame) → can a f x y ≡ true → counter_is_parked f.phase ≡ true → is_join a ≡ true
only_joins joins f x y h k = refl
only_joins forks f x y h k = absurd (ready_or_parked f.phase h k)
only_joins (reads n) f x y h k = absurd (ready_or_parked f.phase h k)
only_joins (writes n) f x y h k = absurd (ready_or_parked f.phase h k)
only_joins ends f x y h k = absurd (ready_or_parked f.phase h k)

fork_parks : (a : Act) → counter_is_fork a ≡ true → counter_is_parked (phase_after a) ≡ true
fork_parks forks h = refl
fork_parks joins h = cc
fork_parks (reads n) h = cc
fork_parks (writes n) h = cc
fork_parks ends h = cc

-- ---- frames after it

pub frame_own : (w : CounterWorld) (d : Plan) (q : List (ℕ × ℕ)) → counter_same_thread d.step.thread q ≡ true → (counter_after_effect w d).frames q ≡ Some d.frame
frame_own w d q h = rw h

pub frame_reached : (w : CounterWorld) (d : Plan) (q : List (ℕ × ℕ)) → counter_same_thread d.step.thread q ≡ false → counter_reaches d.step q ≡ true → (counter_after_effect w d).frames q ≡ below d.step q
frame_reached w d q h k = rw (h, k)

pub frame_other : (w : CounterWorld) (d : Plan) (q : List (ℕ × ℕ)) → counter_same_thread d.step.thread q ≡ false → counter_reaches d.step q ≡ false → (counter_after_effect w d).frames q ≡ w.frames q
frame_other w d q h k = rw (h, k)

-- what a step reaches lies under one fork of its thread, all of which it reaches
pub record Reached (s : CounterStep) (q : List (ℕ × ℕ)) : Type 0 where
  pub fork : ℕ
  pub under : counter_is_under s.thread fork q ≡ true
  pub all : (r : List (ℕ × ℕ)) → counter_is_under s.thread fork r ≡ true → counter_reaches s r ≡ true

pub reached : (s : CounterStep) (q : List (ℕ × ℕ)) → counter_reaches s q ≡ true → Reached s q
reached s q h = elim (either (counter_makes s q) (counter_closes s q) h) [
  | inl k ↦ (let e = and_parts (counter_is_fork s.act) (counter_is_under s.thread s.no q) k in let f = e.0 in record { fork = s.no; under = e.1; all = λ r g. rw (f, g) })
  | inr k ↦ (let e = and_parts (is_join s.act) (counter_is_under s.thread (s.no - 1) q) k in let f = e.0 in record { fork = s.no - 1; under = e.1; all = λ r g. rw (f, g) (last (counter_makes s r)) })
]
  where
    last : (b : Bool) → (b || true) ≡ true
    last true = refl
    last false = refl

pub record Born (s : CounterStep) (q : List (ℕ × ℕ)) : Type 0 where
  pub forked : counter_is_fork s.act ≡ true
  pub number : ℕ
  pub place : s.thread ++ (s.no, number) ∷ [] ≡ q

pub born : (s : CounterStep) (q : List (ℕ × ℕ)) (f : Frame) → below s q ≡ Some f → Born s q
born s q f h =
    let k = if_some (counter_is_fork s.act && (counter_same_thread (s.thread ++ (s.no, 0) ∷ []) q || counter_same_thread (s.thread ++ (s.no, 1) ∷ []) q)) counter_first_frame f h in
    let e = and_parts (counter_is_fork s.act) _ k.0 in
    elim (either (counter_same_thread (s.thread ++ (s.no, 0) ∷ []) q) (counter_same_thread (s.thread ++ (s.no, 1) ∷ []) q) e.1) [
      | inl g ↦ record { forked = e.0; number = 0; place = same_thread-true (s.thread ++ (s.no, 0) ∷ []) q g }
      | inr g ↦ record { forked = e.0; number = 1; place = same_thread-true (s.thread ++ (s.no, 1) ∷ []) q g }
    ]

-- ---- good worlds

pub record ParkedAt (w : CounterWorld) (t : List (ℕ × ℕ)) (n : ℕ) : Type 0 where
  pub frame : Frame
  pub stands : w.frames t ≡ Some frame
  pub count : frame.count ≡ n
  pub waits : counter_is_parked frame.phase ≡ true

pub record Good (w : CounterWorld) : Type 0 where
  pub over : (t q : List (ℕ × ℕ)) (n : ℕ) (f : Frame) → counter_is_under t n q ≡ true → w.frames q ≡ Some f → ParkedAt w t n

pub start_good : Good start
start_good = record { over = λ t q n f u h. absurd (root t q n f u h) }
  where
    nothing_over : (t : List (ℕ × ℕ)) (n : ℕ) → counter_is_under t n [] ≡ true → ⊥
    nothing_over [] n h = cc
    nothing_over (a ∷ t) n h = cc

    root : (t q : List (ℕ × ℕ)) (n : ℕ) (f : Frame) → counter_is_under t n q ≡ true → start.frames q ≡ Some f → ⊥
    root t q n f u h = nothing_over t n (subst (λ r. counter_is_under t n r ≡ true) (sym (same_thread-true [] q (if_some (counter_same_thread [] q) counter_first_frame f h).0)) u)

pub same_frame : (w : CounterWorld) (q : List (ℕ × ℕ)) (f g : Frame) → w.frames q ≡ Some f → w.frames q ≡ Some g → f ≡ g
same_frame w q f g h k = same_Some f g (sym h ∙ k)

-- under a fork that is made nothing stands yet
pub none_yet : (w : CounterWorld) (d : Plan) (q : List (ℕ × ℕ)) (f : Frame) → Good w → Planned w d → counter_makes d.step q ≡ true → w.frames q ≡ Some f → ⊥
none_yet w d q f good p h k =
    let u = and_parts (counter_is_fork d.step.act) (counter_is_under d.step.thread d.step.no q) h in
    let a = good.over d.step.thread q d.step.no f u.1 k in
    let e = ap (λ (x : Frame). x.count) (same_frame w d.step.thread a.frame p.before a.stands p.stands) in
    absurd (omega (arith, a.count, p.numbered, e))

-- what a step's thread lies under stays parked
stays_over : (w : CounterWorld) (d : Plan) (t : List (ℕ × ℕ)) (n : ℕ) → Planned w d → counter_is_under t n d.step.thread ≡ true → ParkedAt w t n → ParkedAt (counter_after_effect w d) t n
stays_over w d t n p u a = record { frame = a.frame; stands = frame_other w d t apart unreached ∙ a.stands; count = a.count; waits = a.waits }
  where
    apart : counter_same_thread d.step.thread t ≡ false
    apart = by_bool (counter_same_thread d.step.thread t) _ (λ k. absurd (never_under_itself t n (subst (λ r. counter_is_under t n r ≡ true) (same_thread-true d.step.thread t k) u))) (λ k. k)

    unreached : counter_reaches d.step t ≡ false
    unreached = by_bool (counter_reaches d.step t) _ (λ k. let r = reached d.step t k in absurd (never_under_itself d.step.thread r.fork (under_under d.step.thread t d.step.thread r.fork n r.under u))) (λ k. k)

closes_it : (w : CounterWorld) (d : Plan) (t q : List (ℕ × ℕ)) (n : ℕ) → Planned w d → d.step.thread ≡ t → ParkedAt w t n → counter_is_under t n q ≡ true → counter_reaches d.step q ≡ true
closes_it w d t q n p e a u =
    let f : a.frame ≡ p.before = same_frame w t a.frame p.before a.stands (subst (λ r. w.frames r ≡ Some p.before) e p.stands) in
    let j = only_joins d.step.act p.before p.first p.second p.can_be (subst (λ (x : Frame). counter_is_parked x.phase ≡ true) f a.waits) in
    let c = ap (λ (x : Frame). x.count) f in
    let no : n ≡ d.step.no - 1 = omega (arith, a.count, p.numbered, c) in
    let v : counter_is_under d.step.thread (d.step.no - 1) q ≡ true = subst (λ k. counter_is_under d.step.thread k q ≡ true) no (subst (λ r. counter_is_under r n q ≡ true) (sym e) u) in
    rw (j, v) (last (counter_makes d.step q))
  where
    last : (b : Bool) → (b || true) ≡ true
    last true = refl
    last false = refl

pub good_after : (w : CounterWorld) (d : Plan) → Good w → Planned w d → Good (counter_after_effect w d)
good_after w d good p = record { over = over }
  where
    untouched : (t q : List (ℕ × ℕ)) (n : ℕ) → counter_reaches d.step q ≡ false → counter_is_under t n q ≡ true → ParkedAt w t n → ParkedAt (counter_after_effect w d) t n
    untouched t q n out u a =
        by_bool (counter_same_thread d.step.thread t) _
        (λ k. let r = closes_it w d t q n p (same_thread-true d.step.thread t k) a u in absurd (cc))
        (λ k. by_bool (counter_reaches d.step t) _
        (λ j. let r = reached d.step t j in let x = r.all q (under_under d.step.thread t q r.fork n r.under u) in absurd (cc))
        (λ j. record { frame = a.frame; stands = frame_other w d t k j ∙ a.stands; count = a.count; waits = a.waits }))

    over : (t q : List (ℕ × ℕ)) (n : ℕ) (f : Frame) → counter_is_under t n q ≡ true → (counter_after_effect w d).frames q ≡ Some f → ParkedAt (counter_after_effect w d) t n
    over t q n f u h =
        by_bool (counter_same_thread d.step.thread q) _
        (λ k. let v = subst (λ r. counter_is_under t n r ≡ true) (sym (same_thread-true d.step.thread q k)) u in stays_over w d t n p v (good.over t d.step.thread n p.before v p.stands))
        (λ k. by_bool (counter_reaches d.step q) _
        (λ j. let b = born d.step q f (sym (frame_reached w d q k j) ∙ h) in
        elim (above_branch t d.step.thread n d.step.no b.number (subst (λ r. counter_is_under t n r ≡ true) (sym b.place) u)) [
          | inl e ↦ record { frame = d.frame; stands = ap (counter_after_effect w d).frames e.0 ∙ frame_own w d d.step.thread (thread_itself d.step.thread); count = p.count ∙ sym e.1; waits = ap counter_is_parked p.phase ∙ fork_parks d.step.act b.forked }
          | inr v ↦ stays_over w d t n p v (good.over t d.step.thread n p.before v p.stands)
        ])
        (λ j. untouched t q n j u (good.over t q n f u (sym (frame_other w d q k j) ∙ h))))

pub good_kept : (w v : CounterWorld) (s f : CounterStep) → Good w → counters.take w s ≡ Some (v, f) → Good v
good_kept w v s f good h =
    let k = map_some (λ (d : Plan). (counter_after_effect w d, d.step)) (counter_plan w s) (v, f) h in
    subst Good (ap (λ (q : CounterWorld × CounterStep). q.0) k.2) (good_after w k.0 good (planned w s k.0 k.1).1)
