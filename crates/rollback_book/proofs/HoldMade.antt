-- The marks of a step and its consequences, made by a plan; and how many steps marks are.
use Rattle.std.proofs.Common.{◌≡◌, ◌==◌, arith, ℕ, zero, suc, Bool, true, false, List, [], ◌∷◌, ◌++◌, length, map, refl, ap, ap₂, sym, subst, ◌∙◌, inl, inr, eq-eqb, Option, None, Some}
use Rattle.std.specs.Prelude.{filter, reverse, slice_get, option_map}
use Rattle.std.specs.List.{list_any}
use Rattle.std.proofs.lemmas.Bool.{eqb-true}
use Rattle.std.proofs.lemmas.List.{length-map, length-reverse}
use Rattle.std.proofs.lemmas.Option.{same_Some, slice_get-map, slice_get_within}
use Rattle.step_names.specs.declared.step.StepName.{StepName}
use Rattle.trace_theory.specs.Traces.{In, consequences, consequences_from, HasNames}
use Rattle.trace_theory.proofs.After.{consequences_from-in}
use Rattle.trace_theory.proofs.Least.{Once, consequences-in, not_backward, one_step}
use Rattle.trace_theory.proofs.Lists.{by_bool, any_one, one_any, none_any, filter-same, In-reverse, reverse-In}
use Rattle.saved_steps.specs.Held.{world_view}
use Rattle.saved_steps.specs.Steps.{moved, name_of}
use Rattle.saved_steps.specs.World.{Setting, World, is_same_step}
use Rattle.depends.specs.Dependence.{depends_directly}
use Rattle.depends.specs.Instance.{steps}
use Rattle.depends.specs.Plans.{plan}
use Rattle.depends.proofs.Named.{steps_have_names}
use Rattle.depends.proofs.Searching.{facts}
use Rattle.step_history.specs.History.{TakenStep, history_records, history_world}
use Rattle.step_history.proofs.Left.{step_there}
use Rattle.step_history.proofs.Planned.{in_list}
use Rattle.step_index.specs.Held.{Held, AreLeft, count_left}
use Rattle.book_log.specs.Legal.{IsLegal}
use Rattle.book_log.specs.Log.{Log, base_of, step_on_hold, left_by, left_of, past_of, setting_of, world_of, consequences_of}
use Rattle.book_log.proofs.HoldSaid.{nothing_left}
use Rattle.book_log.proofs.Holding.{left_there}
use Rattle.book_log.proofs.LegalRuns.{legal_stands}
use Rattle.book_log.proofs.Standing.{after_same, consequences_there, from_start, is_run, step_itself}
use Rattle.rollback_book.specs.Book.{BookView, BookInvariant, IsStepAt}
use Rattle.rollback_book.specs.Holding.{marks_by}
use Rattle.rollback_book.proofs.Free.{stood, places_are}
use Rattle.rollback_book.proofs.Marks.{is_marked, counted_steps, nothing_counted}
use Rattle.rollback_book.proofs.Tied.{as_many_records, facts_are, stands}

-- ---- how many

module _ (s : Setting) (base : World) (names : HasNames (steps s) base) where
  other_marked : (t u : TakenStep) (left : List TakenStep) → is_same_step (name_of t.step) (name_of u.step) ≡ false → is_marked (t ∷ left) u ≡ is_marked left u
  other_marked t u left e = rw e refl

  mark_own : (t : TakenStep) (left : List TakenStep) → is_marked (t ∷ left) t ≡ true
  mark_own t left = let e = step_itself (name_of t.step) in rw e refl

  not_among : (t : TakenStep) (ts left : List TakenStep) → Once (steps s) base names (t ∷ ts) → ((x : TakenStep) → In x left → In x ts) → is_marked left t ≡ false
  not_among t ts left once inside = none_any (λ (x : TakenStep). is_same_step (name_of x.step) (name_of t.step)) left (λ x i. not_backward (steps s) base names t.step x.step (once t x (inl (refl, inside x i))))

  marked_more : (t : TakenStep) (ts left : List TakenStep) → Once (steps s) base names (t ∷ ts) → filter (is_marked left) ts ≡ left → filter (is_marked (t ∷ left)) (t ∷ ts) ≡ t ∷ left
  marked_more t ts left once h =
      let own = mark_own t left in
      rw own (ap (λ (l : List TakenStep). t ∷ l) (filter-same (is_marked (t ∷ left)) (is_marked left) ts (λ u i. other_marked t u left (once t u (inl (refl, i)))) ∙ h))

  marked_less : (t : TakenStep) (ts left : List TakenStep) → Once (steps s) base names (t ∷ ts) → ((x : TakenStep) → In x left → In x ts) → filter (is_marked left) ts ≡ left → filter (is_marked left) (t ∷ ts) ≡ left
  marked_less t ts left once inside h = let none = not_among t ts left once inside in rw none h

  follows : (marked : List TakenStep) (t : TakenStep) (ts : List TakenStep) → list_any (λ (x : TakenStep). depends_directly x.fact t.fact) marked ≡ true → consequences_from (steps s) marked (t ∷ ts) ≡ t ∷ consequences_from (steps s) (marked ++ t ∷ []) ts
  follows marked t ts k = rw k refl

  passes_by : (marked : List TakenStep) (t : TakenStep) (ts : List TakenStep) → list_any (λ (x : TakenStep). depends_directly x.fact t.fact) marked ≡ false → consequences_from (steps s) marked (t ∷ ts) ≡ consequences_from (steps s) marked ts
  passes_by marked t ts k = rw k refl

  after_here : (t : TakenStep) (ts : List TakenStep) (name : StepName) → is_same_step name (name_of t.step) ≡ true → consequences (steps s) (t ∷ ts) (moved name) ≡ t ∷ consequences_from (steps s) (t ∷ []) ts
  after_here t ts name k = rw k refl

  after_there : (t : TakenStep) (ts : List TakenStep) (name : StepName) → is_same_step name (name_of t.step) ≡ false → consequences (steps s) (t ∷ ts) (moved name) ≡ consequences (steps s) ts (moved name)
  after_there t ts name k = rw k refl

  marked_following : (marked ts : List TakenStep) → Once (steps s) base names ts → filter (is_marked (consequences_from (steps s) marked ts)) ts ≡ consequences_from (steps s) marked ts
  marked_following marked [] once = refl
  marked_following marked (t ∷ ts) once =
      by_bool (list_any (λ (x : TakenStep). depends_directly x.fact t.fact) marked) _
      (λ k. subst (λ (l : List TakenStep). filter (is_marked l) (t ∷ ts) ≡ l) (sym (follows marked t ts k)) (marked_more t ts (consequences_from (steps s) (marked ++ t ∷ []) ts) once (marked_following (marked ++ t ∷ []) ts (λ x y b. once x y (inr b)))))
      (λ k. subst (λ (l : List TakenStep). filter (is_marked l) (t ∷ ts) ≡ l) (sym (passes_by marked t ts k)) (marked_less t ts (consequences_from (steps s) marked ts) once (consequences_from-in (steps s) marked ts) (marked_following marked ts (λ x y b. once x y (inr b)))))

  pub marked_after : (ts : List TakenStep) (name : StepName) → Once (steps s) base names ts → filter (is_marked (consequences (steps s) ts (moved name))) ts ≡ consequences (steps s) ts (moved name)
  marked_after [] name once = refl
  marked_after (t ∷ ts) name once =
      by_bool (is_same_step name (name_of t.step)) _
      (λ k. subst (λ (l : List TakenStep). filter (is_marked l) (t ∷ ts) ≡ l) (sym (after_here t ts name k)) (marked_more t ts (consequences_from (steps s) (t ∷ []) ts) once (marked_following (t ∷ []) ts (λ x y b. once x y (inr b)))))
      (λ k. subst (λ (l : List TakenStep). filter (is_marked l) (t ∷ ts) ≡ l) (sym (after_there t ts name k)) (marked_less t ts (consequences (steps s) ts (moved name)) once (consequences-in (steps s) base names ts (moved name)) (marked_after ts name (λ x y b. once x y (inr b)))))

pub left_counted : (log : Log) → IsLegal log → count_left (marks_by (left_of log) (past_of log)) ≡ length (left_of log)
left_counted log legal = by_held (step_on_hold log) refl
  where
    by_held : (o : Option StepName) → step_on_hold log ≡ o → count_left (marks_by (left_of log) (past_of log)) ≡ length (left_of log)
    by_held None e = nothing_counted (left_of log) (past_of log) (nothing_left log e) ∙ sym (ap length (nothing_left log e))
    by_held (Some name) e =
        let s = setting_of log in
        let w = world_of log in
        let ts = past_of log in
        let h = legal_stands log legal in
        let have = steps_have_names s (base_of log) (from_start log s w ts h) in
        let left : left_of log ≡ consequences (steps s) ts (moved name) = left_there log s w ts h ∙ ap (left_by s ts) e in
        counted_steps (left_of log) ts ∙ ap (λ (l : List TakenStep). length (filter (is_marked l) ts)) left
        ∙ ap length (marked_after s (base_of log) have ts name (λ x y b. have.once ts w x y (is_run log s w ts h) b)) ∙ sym (ap length left)

-- ---- marks by places

same_marks : (xs ys : List Bool) → length xs ≡ length ys → ((k : ℕ) (m : Bool) → slice_get xs k ≡ Some m → slice_get ys k ≡ Some m) → xs ≡ ys
same_marks [] [] n h = refl
same_marks [] (y ∷ ys) n h = absurd (omega (arith, n))
same_marks (x ∷ xs) [] n h = absurd (omega (arith, n))
same_marks (x ∷ xs) (y ∷ ys) n h = ap₂ (λ (b : Bool) (l : List Bool). b ∷ l) (sym (same_Some y x (h zero x refl))) (same_marks xs ys (omega (arith, n)) (λ k m e. h (suc k) m e))

at_some : (ts xs : List TakenStep) (places : List ℕ) (k : ℕ) (t : TakenStep) → map (slice_get ts) places ≡ map Some xs → In k places → slice_get ts k ≡ Some t → In t xs
at_some ts xs [] k t h i here = absurd i
at_some ts [] (p ∷ places) k t h i here = cc
at_some ts (x ∷ xs) (p ∷ places) k t h i here =
    let first : slice_get ts p ≡ Some x = cc in
    let rest : map (slice_get ts) places ≡ map Some xs = cc in
    elim i as (λ _. In t (x ∷ xs)) [
      | inl e ↦ inl (same_Some t x (sym here ∙ ap (slice_get ts) e ∙ first))
      | inr j ↦ inr (at_some ts xs places k t rest j here)
    ]

some_at : (ts xs : List TakenStep) (places : List ℕ) (t : TakenStep) → map (slice_get ts) places ≡ map Some xs → In t xs → (k : ℕ) × In k places × (slice_get ts k ≡ Some t)
some_at ts [] places t h i = absurd i
some_at ts (x ∷ xs) [] t h i = cc
some_at ts (x ∷ xs) (p ∷ places) t h i =
    let first : slice_get ts p ≡ Some x = cc in
    let rest : map (slice_get ts) places ≡ map Some xs = cc in
    elim i as (λ _. (k : ℕ) × In k (p ∷ places) × (slice_get ts k ≡ Some t)) [
      | inl e ↦ (p, inl refl, first ∙ ap Some (sym e))
      | inr j ↦ let r = some_at ts xs places t rest j in (r.0, inr r.1, r.2)
    ]

module _ (s : Setting) (base : World) (names : HasNames (steps s) base) where
  one_place : (ts : List TakenStep) (j k : ℕ) (t : TakenStep) → Once (steps s) base names ts → slice_get ts j ≡ Some t → slice_get ts k ≡ Some t → j ≡ k
  one_place [] j k t once h g = cc
  one_place (u ∷ ts) zero zero t once h g = refl
  one_place (u ∷ ts) zero (suc k) t once h g =
      let e = once u t (inl (refl, in_list ts k t g)) in
      let f = ap (λ (x : TakenStep). is_same_step (name_of x.step) (name_of t.step)) (same_Some u t h) ∙ step_itself (name_of t.step) in
      let c = sym e ∙ f in
      cc
  one_place (u ∷ ts) (suc j) zero t once h g =
      let e = once u t (inl (refl, in_list ts j t h)) in
      let f = ap (λ (x : TakenStep). is_same_step (name_of x.step) (name_of t.step)) (same_Some u t g) ∙ step_itself (name_of t.step) in
      let c = sym e ∙ f in
      cc
  one_place (u ∷ ts) (suc j) (suc k) t once h g = ap suc (one_place ts j k t (λ x y b. once x y (inr b)) h g)

  -- a place is one of these where its step is one of those that stand there
  mark_at : (ts all : List TakenStep) (places : List ℕ) (k : ℕ) (t : TakenStep) → Once (steps s) base names ts → ((x : TakenStep) → In x all → In x ts) → map (slice_get ts) places ≡ map Some (reverse all) → slice_get ts k ≡ Some t
      → list_any (λ (p : ℕ). p == k) places ≡ is_marked all t
  mark_at ts all places k t once inside h here =
      by_bool (list_any (λ (p : ℕ). p == k) places) _
      (λ a.
      let p = one_any (λ (p : ℕ). p == k) places a in
      let i : In t (reverse all) = at_some ts (reverse all) places p.0 t h p.1 (ap (slice_get ts) (eqb-true p.0 k p.2) ∙ here) in
      a ∙ sym (any_one (λ (x : TakenStep). is_same_step (name_of x.step) (name_of t.step)) all t (reverse-In t all i) (step_itself (name_of t.step))))
      (λ a. by_bool (is_marked all t) _
      (λ m.
      let y = one_any (λ (x : TakenStep). is_same_step (name_of x.step) (name_of t.step)) all m in
      let e = one_step (steps s) base names ts once y.0 t (inside y.0 y.1) (in_list ts k t here) y.2 in
      let r = some_at ts (reverse all) places t h (In-reverse t all (subst (λ (x : TakenStep). In x all) e y.1)) in
      let q : r.0 ≡ k = one_place ts r.0 k t once r.2 here in
      let b = any_one (λ (p : ℕ). p == k) places r.0 r.1 (eq-eqb r.0 k q) in
      let c = sym a ∙ b in
      cc)
      (λ m. a ∙ sym m))

module _ (b : BookView) (tied : BookInvariant b) (name : StepName) (at : ℕ) (is_at : IsStepAt b name at) (places : List ℕ) (planned : places ≡ plan (facts (history_records b.history)) at) where
  all_of : consequences_of b.log name ≡ consequences (steps (setting_of b.log)) (past_of b.log) (stood b tied name at is_at).step.step
  all_of =
      let t = stood b tied name at is_at in
      consequences_there b.log (setting_of b.log) (world_view (history_world b.history)) (past_of b.log) (stands b tied) name ∙ after_same (setting_of b.log) (moved name) t.step.step (past_of b.log) (sym t.named)

  there : map (slice_get (past_of b.log)) places ≡ map Some (reverse (consequences (steps (setting_of b.log)) (past_of b.log) (stood b tied name at is_at).step.step))
  there = ap (map (slice_get (past_of b.log))) (planned ∙ ap (λ fs. plan fs at) (facts_are b tied)) ∙ places_are b tied name at is_at

  -- as many places are planned
  pub plan_counted : length places ≡ length (consequences_of b.log name)
  plan_counted =
      let all = consequences (steps (setting_of b.log)) (past_of b.log) (stood b tied name at is_at).step.step in
      sym (length-map places (slice_get (past_of b.log))) ∙ ap length there ∙ length-map (reverse all) Some ∙ length-reverse all ∙ sym (ap length all_of)

  -- and their marks are those of the step and its consequences
  pub plan_marked : (h : Held) → AreLeft (history_records b.history) h → ((k : ℕ) (m : Bool) → slice_get h.marks k ≡ Some m → m ≡ list_any (λ (p : ℕ). p == k) places)
      → h.marks ≡ marks_by (consequences_of b.log name) (past_of b.log)
  plan_marked h left marks =
      let s = setting_of b.log in
      let base = base_of b.log in
      let ts = past_of b.log in
      let have = steps_have_names s base (from_start b.log s (world_view (history_world b.history)) ts (stands b tied)) in
      let once : Once (steps s) base have ts = λ x y i. have.once ts (world_view (history_world b.history)) x y tied.history.runs i in
      let all = consequences (steps s) ts (stood b tied name at is_at).step.step in
      let long = left.many ∙ as_many_records b tied in
      ap (λ (l : List Bool). l) (same_marks h.marks (marks_by all ts) (long ∙ sym (length-map ts (is_marked all))) (λ k m e.
      let within = slice_get_within h.marks k m e in
      let t = step_there ts k (omega (arith, within, long)) in
      slice_get-map (is_marked all) ts k ∙ ap (option_map (is_marked all)) t.1
      ∙ ap Some (sym (mark_at s base have ts all places k t.0 once (consequences-in (steps s) base have ts (stood b tied name at is_at).step.step) there t.1) ∙ sym (marks k m e))))
      ∙ ap (λ (l : List TakenStep). marks_by l ts) (sym all_of)
