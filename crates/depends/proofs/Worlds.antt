-- What holds in each world that steps reach: a thread stands under a fork only while the fork's thread is parked there.
use Rattle.std.proofs.Common.{◌≡◌, ℕ, ◌-◌, Bool, true, false, cond, List, [], ◌∷◌, arith, refl, ap, sym, subst, ◌∙◌, inl, inr, Option, None, Some}
use Rattle.std.specs.Prelude.{◌||◌}
use Rattle.std.proofs.lemmas.Bool.{and_parts}
use Rattle.std.proofs.lemmas.Option.{same_Some}
use Rattle.saved_steps.specs.Frame.{Frame}
use Rattle.saved_steps.specs.Paths.{Path, rest_after}
use Rattle.step_names.specs.Thread.{Thread, child_of}
use Rattle.step_names.specs.Under.{is_under}
use Rattle.step_names.proofs.OrderLaws.{thread_same, thread_itself}
use Rattle.saved_steps.specs.Effects.{Effect, effect_of}
use Rattle.saved_steps.specs.Run.{begun_at, begun_frame, after_effect, take_step}
use Rattle.saved_steps.specs.Steps.{Step, is_fork, is_close, makes, closes}
use Rattle.saved_steps.specs.World.{Setting, World, is_same_thread}
use Rattle.saved_steps.specs.declared.fact.Fact.{Fact}
use Rattle.trace_theory.proofs.Lists.{by_bool}
use Rattle.trace_theory.proofs.Runs.{map_some}
use Rattle.depends.specs.Instance.{reaches}
use Rattle.depends.specs.Laws.{HasNoFrames}
use Rattle.depends.proofs.Planned.{IsPlanned, planned}
use Rattle.depends.proofs.Threads.{either, never_under_itself, under_under, above_child, nothing_over, child_by}
use Rattle.depends.proofs.Turned.{is_parked}

-- ---- frames after an effect

-- what stands then under the fork that it makes or closes
abbrev pub below : Effect → Thread → Option Frame
below d t = cond (makes d.fact t) (begun_frame d t) None

pub frame_own : (w : World) (d : Effect) (t : Thread) → is_same_thread d.fact.name.thread t ≡ true → (after_effect w d).frames t ≡ Some d.frame
frame_own w d t h = rw h refl

pub frame_reached : (w : World) (d : Effect) (t : Thread) → is_same_thread d.fact.name.thread t ≡ false → reaches d.fact t ≡ true → (after_effect w d).frames t ≡ below d t
frame_reached w d t h k =
    by_bool (makes d.fact t) _
    (λ j. rw (h, j) refl)
    (λ j. elim (either (makes d.fact t) (closes d.fact t) k) [ inl i ↦ (let clash = sym i ∙ j in cc) | inr i ↦ rw (h, j, i) refl ])

pub frame_other : (w : World) (d : Effect) (t : Thread) → is_same_thread d.fact.name.thread t ≡ false → reaches d.fact t ≡ false → (after_effect w d).frames t ≡ w.frames t
frame_other w d t h k =
    by_bool (makes d.fact t) _
    (λ j. let clash = rw j at k in cc)
    (λ j. let i = rw j at k in rw (h, j, i) refl)

-- what a step reaches lies under one fork of its thread, all of which it reaches
pub record Reached (s : Fact) (t : Thread) : Type 0 where
  pub fork : ℕ
  pub under : is_under t s.name.thread fork ≡ true
  pub all : (r : Thread) → is_under r s.name.thread fork ≡ true → reaches s r ≡ true

pub reached : (s : Fact) (t : Thread) → reaches s t ≡ true → Reached s t
reached s t h = elim (either (makes s t) (closes s t) h) [
  | inl k ↦ (let e = and_parts (is_fork s.kind) (is_under t s.name.thread s.name.no) k in let f = e.0 in record { fork = s.name.no; under = e.1; all = λ r g. rw (f, g) refl })
  | inr k ↦ (let e = and_parts (is_close s.kind) (is_under t s.name.thread (s.name.no - 1)) k in let f = e.0 in record { fork = s.name.no - 1; under = e.1; all = λ r g. rw (f, g) (last (makes s r)) })
]
  where
    last : (b : Bool) → (b || true) ≡ true
    last true = refl
    last false = refl

-- what stands there then is a branch of the fork
pub record Born (d : Effect) (t : Thread) : Type 0 where
  pub forked : is_fork d.fact.kind ≡ true
  pub made : makes d.fact t ≡ true
  pub number : ℕ
  pub place : child_of d.fact.name.thread d.fact.name.no number ≡ t

begun_by : (branches : List Frame) (o : Option Path) (f : Frame) → begun_at branches o ≡ Some f → (k i : ℕ) × (o ≡ Some ((k, i) ∷ []))
begun_by branches (Some ((k, i) ∷ [])) f h = (k, i, refl)
begun_by branches (Some ((k, i) ∷ b ∷ q)) f h = cc
begun_by branches (Some []) f h = cc
begun_by branches None f h = cc

pub born : (d : Effect) (t : Thread) (f : Frame) → below d t ≡ Some f → Born d t
born d t f h =
    by_bool (makes d.fact t) _
    (λ k. let u = and_parts (is_fork d.fact.kind) (is_under t d.fact.name.thread d.fact.name.no) k in
    let b = begun_by d.branches (rest_after d.fact.name.thread.path t.path) f (rw k at h) in
    record { forked = u.0; made = k; number = b.1; place = sym (child_by d.fact.name.thread t d.fact.name.no b.0 b.1 u.1 b.2) })
    (λ k. let e = rw k at h in cc)

-- ---- good worlds

pub record ParkedAt (w : World) (t : Thread) (n : ℕ) : Type 0 where
  pub frame : Frame
  pub stands : w.frames t ≡ Some frame
  pub count : frame.count ≡ n
  pub waits : is_parked frame.phase ≡ true

pub record Good (w : World) : Type 0 where
  pub over : (above t : Thread) (n : ℕ) (f : Frame) → is_under t above n ≡ true → w.frames t ≡ Some f → ParkedAt w above n

pub base_good : (base : World) → HasNoFrames base → Good base
base_good base none = record { over = λ above t n f u h. absurd (nothing f (sym (none t) ∙ h)) }
  where
    nothing : (f : Frame) → None ≡ Some f → ⊥
    nothing f e = cc

pub same_frame : (w : World) (t : Thread) (f g : Frame) → w.frames t ≡ Some f → w.frames t ≡ Some g → f ≡ g
same_frame w t f g h k = same_Some f g (sym h ∙ k)

-- under a fork that is made nothing stands yet
pub none_yet : (w : World) (d : Effect) (t : Thread) (f : Frame) → Good w → IsPlanned w d → makes d.fact t ≡ true → w.frames t ≡ Some f → ⊥
none_yet w d t f good p h k =
    let u = and_parts (is_fork d.fact.kind) (is_under t d.fact.name.thread d.fact.name.no) h in
    let a = good.over d.fact.name.thread t d.fact.name.no f u.1 k in
    let e = (p.follows a.frame a.stands).0 in
    absurd (omega (arith, a.count, e))

-- what a step's thread lies under stays parked
stays_over : (w : World) (d : Effect) (above : Thread) (n : ℕ) → is_under d.fact.name.thread above n ≡ true → ParkedAt w above n → ParkedAt (after_effect w d) above n
stays_over w d above n u a = record { frame = a.frame; stands = frame_other w d above apart unreached ∙ a.stands; count = a.count; waits = a.waits }
  where
    apart : is_same_thread d.fact.name.thread above ≡ false
    apart = by_bool (is_same_thread d.fact.name.thread above) _ (λ k. absurd (never_under_itself above n (subst (λ t. is_under t above n ≡ true) (thread_same d.fact.name.thread above k) u))) (λ k. k)

    unreached : reaches d.fact above ≡ false
    unreached = by_bool (reaches d.fact above) _ (λ k. let r = reached d.fact above k in absurd (never_under_itself d.fact.name.thread r.fork (under_under d.fact.name.thread above d.fact.name.thread n r.fork u r.under))) (λ k. k)

-- a move of a thread that is parked reaches all that stands there
pub closes_it : (w : World) (d : Effect) (above t : Thread) (n : ℕ) → IsPlanned w d → d.fact.name.thread ≡ above → ParkedAt w above n → is_under t above n ≡ true → reaches d.fact t ≡ true
closes_it w d above t n p e a u =
    let k = p.follows a.frame (ap w.frames e ∙ a.stands) in
    let j = k.1 a.waits in
    let no : n ≡ d.fact.name.no - 1 = omega (arith, a.count, k.0) in
    let v : is_under t d.fact.name.thread (d.fact.name.no - 1) ≡ true = subst (λ m. is_under t d.fact.name.thread m ≡ true) no (subst (λ x. is_under t x n ≡ true) (sym e) u) in
    rw (j, v) (last (makes d.fact t))
  where
    last : (b : Bool) → (b || true) ≡ true
    last true = refl
    last false = refl

-- where a thread lies under another that its step has, that one is parked over it
pub over_own : (w : World) (d : Effect) (above : Thread) (n : ℕ) → Good w → IsPlanned w d → is_under d.fact.name.thread above n ≡ true → ParkedAt w above n
over_own w d above n good p u = elim p.stands [ inl k ↦ good.over above d.fact.name.thread n k.0 u k.1 | inr k ↦ absurd (nothing_over d.fact.name.thread above n k.0 u) ]

pub good_after : (w : World) (d : Effect) → Good w → IsPlanned w d → Good (after_effect w d)
good_after w d good p = record { over = over }
  where
    untouched : (above t : Thread) (n : ℕ) → reaches d.fact t ≡ false → is_under t above n ≡ true → ParkedAt w above n → ParkedAt (after_effect w d) above n
    untouched above t n out u a =
        by_bool (is_same_thread d.fact.name.thread above) _
        (λ k. let r = closes_it w d above t n p (thread_same d.fact.name.thread above k) a u in absurd (clash r))
        (λ k. by_bool (reaches d.fact above) _
        (λ j. let r = reached d.fact above j in absurd (clash (r.all t (under_under t above d.fact.name.thread n r.fork u r.under))))
        (λ j. record { frame = a.frame; stands = frame_other w d above k j ∙ a.stands; count = a.count; waits = a.waits }))
      where
        clash : reaches d.fact t ≡ true → ⊥
        clash r = let e = sym r ∙ out in cc

    over : (above t : Thread) (n : ℕ) (f : Frame) → is_under t above n ≡ true → (after_effect w d).frames t ≡ Some f → ParkedAt (after_effect w d) above n
    over above t n f u h =
        by_bool (is_same_thread d.fact.name.thread t) _
        (λ k. let v = subst (λ x. is_under x above n ≡ true) (sym (thread_same d.fact.name.thread t k)) u in stays_over w d above n v (over_own w d above n good p v))
        (λ k. by_bool (reaches d.fact t) _
        (λ j. let b = born d t f (sym (frame_reached w d t k j) ∙ h) in
        elim (above_child above d.fact.name.thread n d.fact.name.no b.number (subst (λ x. is_under x above n ≡ true) (sym b.place) u)) [
          | inl e ↦ record { frame = d.frame; stands = ap (after_effect w d).frames e.0 ∙ frame_own w d d.fact.name.thread (thread_itself d.fact.name.thread); count = p.count ∙ sym e.1; waits = p.parks b.forked }
          | inr v ↦ stays_over w d above n v (over_own w d above n good p v)
        ])
        (λ j. untouched above t n j u (good.over above t n f u (sym (frame_other w d t k j) ∙ h))))

pub effect_taken : (s : Setting) (w v : World) (step : Step) (fact : Fact) → take_step s w step ≡ Some (v, fact) → (d : Effect) × (effect_of s w step ≡ Some d) × (after_effect w d ≡ v) × (d.fact ≡ fact)
effect_taken s w v step fact h =
    let k = map_some (λ (d : Effect). (after_effect w d, d.fact)) (effect_of s w step) (v, fact) h in
    (k.0, k.1, ap (λ (q : World × Fact). q.0) k.2, ap (λ (q : World × Fact). q.1) k.2)

pub good_kept : (s : Setting) (w v : World) (step : Step) (fact : Fact) → Good w → take_step s w step ≡ Some (v, fact) → Good v
good_kept s w v step fact good h =
    let k = effect_taken s w v step fact h in
    subst Good k.2 (good_after w k.0 good (planned s w step k.0 k.1).1)
