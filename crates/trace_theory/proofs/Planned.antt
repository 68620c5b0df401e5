-- A machine of plans with footprints is reversible.
use Rattle.std.proofs.Common.{◌≡◌, Bool, true, false, cond, refl, ap, ap₂, sym, ◌∙◌, Some}
use Rattle.std.specs.Prelude.{option_map}
use Rattle.trace_theory.specs.Traces.{Machine, Occurrence, Takes, needs, undone, IsReversible}
use Rattle.trace_theory.specs.Footprints.{IsReached, Plans, HasFootprints, PlansAreReversible}
use Rattle.trace_theory.proofs.Lists.{by_bool}
use Rattle.trace_theory.proofs.Runs.{map_some, reached_next}

module _ {W N F S C V P : Type 0} (m : Machine W N F S) (p : Plans W N F C V P) (base : W) (law : HasFootprints m p base) where
  -- the plan of a step that is taken
  pub record PlanOf (w : W) (t : Occurrence N F S) (v : W) : Type 0 where
    pub plan : P
    pub is_it : p.plan w t.step ≡ Some plan
    pub leads : p.after_effect w plan ≡ v
    pub fact : p.fact plan ≡ t.fact

  pub plan_of : (w v : W) (t : Occurrence N F S) → Takes m w t v → PlanOf w t v
  plan_of w v t h =
      let k = map_some (λ (d : P). (p.after_effect w d, p.fact d)) (p.plan w t.step) (v, t.fact) (sym (law.planned w t.step) ∙ h.0) in
      record { plan = k.0; is_it = k.1; leads = ap (λ (q : W × F). q.0) k.2; fact = ap (λ (q : W × F). q.1) k.2 }

  pub taken_by : (w : W) (n : N) (d : P) → p.plan w n ≡ Some d → m.take w n ≡ Some (p.after_effect w d, p.fact d)
  taken_by w n d h = law.planned w n ∙ ap (option_map (λ (q : P). (p.after_effect w q, p.fact q))) h

  unwritten : (w : W) (d : P) (c : C) → p.writes d c ≡ false → p.at (p.after_effect w d) c ≡ p.at w c
  unwritten w d c h = law.effect w d c ∙ ap (λ (b : Bool). cond b (p.holds d c) (p.at w c)) h

  written : (w : W) (d : P) (c : C) → p.writes d c ≡ true → p.at (p.after_effect w d) c ≡ p.holds d c
  written w d c h = law.effect w d c ∙ ap (λ (b : Bool). cond b (p.holds d c) (p.at w c)) h

  -- what neither writes where the other touches, both write in either order
  either_order : (w : W) (d e : P) → ((c : C) → (p.writes d c ≡ true → p.touches e c ≡ true → ⊥) × (p.writes e c ≡ true → p.touches d c ≡ true → ⊥)) → p.after_effect (p.after_effect w e) d ≡ p.after_effect (p.after_effect w d) e
  either_order w d e apart =
      law.same (p.after_effect (p.after_effect w e) d) (p.after_effect (p.after_effect w d) e)
      (λ c. by_bool (p.writes d c) _
      (λ k. let clear : p.writes e c ≡ false = by_bool (p.writes e c) (p.writes e c ≡ false) (λ j. absurd ((apart c).0 k (law.within e c j))) (λ j. j) in
      written (p.after_effect w e) d c k ∙ sym (unwritten (p.after_effect w d) e c clear ∙ written w d c k))
      (λ k. unwritten (p.after_effect w e) d c k ∙ by_bool (p.writes e c) _
      (λ j. written w e c j ∙ sym (written (p.after_effect w d) e c j))
      (λ j. unwritten w e c j ∙ sym (unwritten (p.after_effect w d) e c j ∙ unwritten w d c k))))

  swapped : (w u v : W) (a b : Occurrence N F S) → IsReached m base w → Takes m w a u → Takes m u b v → needs m a b ≡ false → (x : W) × Takes m w b x × Takes m x a v
  swapped w u v a b r h k free =
      let d = plan_of w u a h in
      let e = plan_of u v b k in
      let second : p.plan (p.after_effect w d.plan) b.step ≡ Some e.plan = ap (λ (x : W). p.plan x b.step) d.leads ∙ e.is_it in
      let free' : m.depends (p.fact d.plan) (p.fact e.plan) ≡ false = ap₂ m.depends d.fact e.fact ∙ free in
      let apart : (c : C) → (p.writes d.plan c ≡ true → p.touches e.plan c ≡ true → ⊥) × (p.writes e.plan c ≡ true → p.touches d.plan c ≡ true → ⊥) = λ c. law.apart w a.step b.step d.plan e.plan c r d.is_it second free' in
      let before = law.local u w b.step e.plan (reached_next m base w u a r h) e.is_it
      (λ c touched. by_bool (p.writes d.plan c) _ (λ j. absurd ((apart c).0 j touched)) (λ j. sym (ap (λ (x : W). p.at x c) (sym d.leads) ∙ unwritten w d.plan c j))) in
      let x = p.after_effect w e.plan in
      let consequences = law.local w x a.step d.plan r d.is_it
      (λ c touched. by_bool (p.writes e.plan c) _ (λ j. absurd ((apart c).1 j touched)) (λ j. unwritten w e.plan c j)) in
      let end : p.after_effect x d.plan ≡ v = either_order w d.plan e.plan apart ∙ ap (λ (y : W). p.after_effect y e.plan) d.leads ∙ e.leads in (
        x,
        (taken_by w b.step e.plan before.0 ∙ ap (λ (f : F). Some (x, f)) e.fact, k.1 ∙ ap (m.saved u) (sym e.fact) ∙ sym before.1 ∙ ap (m.saved w) e.fact),
        (taken_by x a.step d.plan consequences.0 ∙ ap₂ (λ (y : W) (f : F). Some (y, f)) end d.fact, h.1 ∙ ap (m.saved w) (sym d.fact) ∙ sym consequences.1 ∙ ap (m.saved x) d.fact),
      )

  taken_back : (w v : W) (t : Occurrence N F S) → IsReached m base w → Takes m w t v → undone m v t ≡ w
  taken_back w v t r h =
      let d = plan_of w v t h in
      let saved : t.saved ≡ m.saved w (p.fact d.plan) = h.1 ∙ ap (m.saved w) (sym d.fact) in
      ap₂ (m.undo v) (sym d.fact) saved
      ∙ law.same (m.undo v (p.fact d.plan) (m.saved w (p.fact d.plan))) w
      (λ c. law.restores w v t.step d.plan c r d.is_it ∙ by_bool (p.writes d.plan c) _
      (λ j. rw j refl)
      (λ j. rw j (ap (λ (x : W). p.at x c) (sym d.leads) ∙ unwritten w d.plan c j)))

  pub lawful : IsReversible m base
  lawful = record { swapped = λ ts w u v a b h. swapped w u v a b (ts, h); taken_back = λ ts w v t h. taken_back w v t (ts, h) }

pub plans_are_reversible : {W N F S C V P : Type 0} → PlansAreReversible W N F S C V P
plans_are_reversible m p base law = lawful m p base law
