-- A run has each name once.
use Rattle.std.proofs.Common.{◌≡◌, ℕ, ◌+◌, ◌-◌, ◌≤◌, ◌==◌, true, arith, refl, ap, sym, subst, ◌∙◌, inl, inr, eq-eqb, Some}
use Rattle.std.specs.Prelude.{◌⊎◌}
use Rattle.std.proofs.lemmas.Bool.{and_parts, eqb-true}
use Rattle.saved_steps.specs.Frame.{Frame}
use Rattle.step_names.specs.Thread.{Thread}
use Rattle.step_names.specs.Under.{is_under}
use Rattle.step_names.specs.declared.step.StepName.{StepName}
use Rattle.step_names.proofs.OrderLaws.{thread_same, thread_itself, thread_eq}
use Rattle.saved_steps.specs.Effects.{Effect}
use Rattle.saved_steps.specs.Run.{after_effect}
use Rattle.saved_steps.specs.Steps.{name_of, is_close, makes, closes}
use Rattle.saved_steps.specs.World.{Setting, World, is_same_thread, is_same_step}
use Rattle.trace_theory.specs.Traces.{HasNames}
use Rattle.trace_theory.proofs.Base.{names_from}
use Rattle.trace_theory.proofs.Lists.{by_bool}
use Rattle.trace_theory.proofs.Names.{names_once}
use Rattle.depends.specs.Instance.{steps, is_one_step, reaches}
use Rattle.depends.specs.Laws.{HasNoFrames, StepsHaveNames}
use Rattle.depends.proofs.Reversible.{good}
use Rattle.depends.proofs.Planned.{IsPlanned, planned}
use Rattle.depends.proofs.Threads.{either, under_under, nothing_over}
use Rattle.depends.proofs.Worlds.{Good, frame_own, frame_other, same_frame, none_yet, effect_taken}

-- the step of a name was taken: its thread counts that far, or lay under a fork that is behind
data Was (w : World) (n : StepName) : Type 0 where
  counted : (f : Frame) → w.frames n.thread ≡ Some f → n.no ≤ f.count → Was w n
  behind : (above : Thread) (fork : ℕ) (f : Frame) → is_under n.thread above fork ≡ true → w.frames above ≡ Some f → fork + 1 ≤ f.count → Was w n

module _ (w : World) (d : Effect) (fine : Good w) (p : IsPlanned w d) where
  new : (n : StepName) → Was w n → is_same_step n d.fact.name ≡ true → ⊥
  new n (counted f h c) e =
      let k = and_parts (is_same_thread n.thread d.fact.name.thread) (n.no == d.fact.name.no) e in
      let g = (p.follows f (subst (λ t. w.frames t ≡ Some f) (thread_same n.thread d.fact.name.thread k.0) h)).0 in
      omega (arith, c, g, eqb-true n.no d.fact.name.no k.1)
  new n (behind above fork f u h c) e =
      let k = and_parts (is_same_thread n.thread d.fact.name.thread) (n.no == d.fact.name.no) e in
      let v = subst (λ t. is_under t above fork ≡ true) (thread_same n.thread d.fact.name.thread k.0) u in
      elim p.stands [
        | inl s ↦ (let a = fine.over above d.fact.name.thread fork s.0 v s.1 in let g = ap (λ (x : Frame). x.count) (same_frame w above f a.frame h a.stands) in omega (arith, c, a.count, g))
        | inr s ↦ nothing_over d.fact.name.thread above fork s.0 v
      ]

  marked : Was (after_effect w d) d.fact.name
  marked = counted d.frame (frame_own w d d.fact.name.thread (thread_itself d.fact.name.thread)) (let e = p.count in omega (arith, e))

  -- a frame that stood is there with its count or more, or lies under the fork that the step closed
  kept_or_closed : (t : Thread) (f : Frame) → w.frames t ≡ Some f → ((g : Frame) × ((after_effect w d).frames t ≡ Some g) × (f.count ≤ g.count)) ⊎ (is_under t d.fact.name.thread (d.fact.name.no - 1) ≡ true)
  kept_or_closed t f h =
      by_bool (is_same_thread d.fact.name.thread t) _
      (λ k. let e = (p.follows f (subst (λ x. w.frames x ≡ Some f) (sym (thread_same d.fact.name.thread t k)) h)).0 in let c = p.count in inl (d.frame, frame_own w d t k, omega (arith, c, e)))
      (λ k. by_bool (reaches d.fact t) _
      (λ j. elim (either (makes d.fact t) (closes d.fact t) j) [ inl i ↦ absurd (none_yet w d t f fine p i h) | inr i ↦ inr (and_parts (is_close d.fact.kind) (is_under t d.fact.name.thread (d.fact.name.no - 1)) i).1 ])
      (λ j. inl (f, frame_other w d t k j ∙ h, omega arith)))

  -- what lay under the fork that the step closed: some thread of it stood, so the thread was parked there
  closed : (n : StepName) (t : Thread) (f : Frame) → w.frames t ≡ Some f → is_under t d.fact.name.thread (d.fact.name.no - 1) ≡ true → is_under n.thread d.fact.name.thread (d.fact.name.no - 1) ≡ true → Was (after_effect w d) n
  closed n t f h v u =
      let a = fine.over d.fact.name.thread t (d.fact.name.no - 1) f v h in
      let e = (p.follows a.frame a.stands).0 in
      let c = p.count in
      behind d.fact.name.thread (d.fact.name.no - 1) d.frame u (frame_own w d d.fact.name.thread (thread_itself d.fact.name.thread)) (omega (arith, c, e))

  stays : (n : StepName) → Was w n → Was (after_effect w d) n
  stays n (counted f h c) = elim (kept_or_closed n.thread f h) [ inl k ↦ counted k.0 k.1 (omega (arith, c, k.2)) | inr u ↦ closed n n.thread f h u u ]
  stays n (behind above fork f u h c) =
      elim (kept_or_closed above f h) [ inl k ↦ behind above fork k.0 u k.1 (omega (arith, c, k.2)) | inr v ↦ closed n above f h v (under_under n.thread above d.fact.name.thread fork (d.fact.name.no - 1) u v) ]

names_from_none : (s : Setting) (base : World) → HasNoFrames base → HasNames (steps s) base
names_from_none s base none = record {
  itself = λ a. itself (name_of a);
  alike = λ a b. alike (name_of a) (name_of b);
  once = names_once (steps s) base (λ w step. Was w (name_of step))
      (λ w v n k f r h was. by_bool (is_one_step k n) _ (λ e. let t = effect_taken s w v n f h in let p = planned s w n t.0 t.1 in absurd (new w t.0 (good s base w none r) p.1 (name_of k) was (subst (λ x. is_same_step (name_of k) x ≡ true) (sym p.0) e))) (λ e. e))
      (λ w v n f r h. let t = effect_taken s w v n f h in let p = planned s w n t.0 t.1 in subst (λ x. Was v x) p.0 (subst (λ x. Was x t.0.fact.name) t.2 (marked w t.0 (good s base w none r) p.1)))
      (λ w v n k f r h was. let t = effect_taken s w v n f h in let p = planned s w n t.0 t.1 in subst (λ x. Was x (name_of k)) t.2 (stays w t.0 (good s base w none r) p.1 (name_of k) was));
}
  where
    itself : (a : StepName) → is_same_step a a ≡ true
    itself a = let t = thread_itself a.thread in let n = eq-eqb a.no a.no refl in rw (t, n) refl

    alike : (a b : StepName) → is_same_step a b ≡ true → is_same_step b a ≡ true
    alike a b h =
        let k = and_parts (is_same_thread a.thread b.thread) (a.no == b.no) h in
        let e = thread_eq b.thread a.thread (sym (thread_same a.thread b.thread k.0)) in
        let f = eq-eqb b.no a.no (sym (eqb-true a.no b.no k.1)) in
        rw (e, f) refl

pub steps_have_names : StepsHaveNames
steps_have_names s base from = names_from (steps s) from.0 base from.2 (names_from_none s from.0 from.1)
