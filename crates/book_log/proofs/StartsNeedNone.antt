-- A start depends on no step that remains: where its execution can be started, none of its steps is there.
use Rattle.std.proofs.Common.{◌≡◌, ℕ, ◌-◌, Bool, true, false, List, [], ◌∷◌, ◌++◌, refl, ap, sym, subst, ◌∙◌, inl, inr, cond, Option, None, Some}
use Rattle.std.specs.Prelude.{◌⊎◌, is_some, option_map}
use Rattle.std.specs.Cmp.Lexicographic.{same_text}
use Rattle.std.proofs.lemmas.Bool.{and_parts}
use Rattle.json_tree.specs.declared.tree.Json.{Json}
use Rattle.asl_machine.specs.Definition.{Definition}
use Rattle.asl_machine.specs.Fields.{is_text}
use Rattle.step_names.specs.Thread.{Thread, execution}
use Rattle.step_names.specs.Under.{is_under}
use Rattle.step_names.specs.declared.step.StepName.{StepName}
use Rattle.step_names.proofs.OrderLaws.{thread_same, thread_itself}
use Rattle.step_names.proofs.UnderLaws.{under_Decides}
use Rattle.trace_theory.specs.Footprints.{IsReached}
use Rattle.trace_theory.specs.Traces.{In, Takes}
use Rattle.trace_theory.proofs.Lists.{by_bool, In-back}
use Rattle.trace_theory.proofs.Runs.{Runs, from_run, map_some, reached_here, reached_next}
use Rattle.depends.specs.Effects.{Effect, effect_of, own_effect}
use Rattle.depends.specs.Dependence.{is_start, begins, conflicts, depends_directly}
use Rattle.depends.specs.Fact.{Fact}
use Rattle.depends.specs.Frame.{Frame}
use Rattle.depends.specs.Kind.TheVariants as kind
use Rattle.depends.specs.Run.{after_effect, take_step}
use Rattle.depends.specs.Steps.{Step, started, moved, name_of, start_name, makes, closes}
use Rattle.depends.specs.Turn.{first_frame}
use Rattle.depends.specs.World.{Setting, World, is_same_thread}
use Rattle.depends.specs.Instance.{TakenStep, steps, reaches}
use Rattle.depends.specs.Laws.{HasNoFrames}
use Rattle.depends.proofs.Reversible.{good}
use Rattle.depends.proofs.Planned.{planned}
use Rattle.depends.proofs.Threads.{either, nothing_over}
use Rattle.depends.proofs.Worlds.{Good, frame_own, frame_other, effect_taken}
use Rattle.book_log.specs.Log.{Log, first_world}
use Rattle.book_log.proofs.Standing.{StandsAt, no_frames, all_run}

abbrev HasFrame : World → Thread → Type 0
HasFrame w t = (f : Frame) × (w.frames t ≡ Some f)

-- an execution's own thread keeps its frame
root_stays : (w : World) (d : Effect) (exec : List ℕ) → HasFrame w (execution exec) → HasFrame (after_effect w d) (execution exec)
root_stays w d exec h =
    let t = execution exec in
    by_bool (is_same_thread d.fact.name.thread t) _
    (λ k. (d.frame, frame_own w d t k))
    (λ k. by_bool (reaches d.fact t) _
    (λ j. absurd (elim (either (makes d.fact t) (closes d.fact t) j) [
      | inl i ↦ nothing_over t d.fact.name.thread d.fact.name.no refl (and_parts _ (is_under t d.fact.name.thread d.fact.name.no) i).1
      | inr i ↦ nothing_over t d.fact.name.thread (d.fact.name.no - 1) refl (and_parts _ (is_under t d.fact.name.thread (d.fact.name.no - 1)) i).1
    ]))
    (λ j. (h.0, frame_other w d t k j ∙ h.1)))

-- where a thread has a frame its execution's own has one
root_of : (w : World) (t : Thread) → Good w → HasFrame w t → HasFrame w (execution t.exec)
root_of w t fine h = by_path t.path refl
  where
    by_path : (path : List (ℕ × ℕ)) → t.path ≡ path → HasFrame w (execution t.exec)
    by_path [] e = let own : t ≡ execution t.exec = ap (λ (p : List (ℕ × ℕ)). let u : Thread = record { exec = t.exec; path = p } in u) e in subst (HasFrame w) own h
    by_path (b ∷ path) e = let a = fine.over (execution t.exec) t b.0 h.0 ((under_Decides t (execution t.exec) b.0).1 (refl, (b.1, path, e))) h.1 in (a.frame, a.stands)

-- after a step its execution's own thread has a frame
root_after : (s : Setting) (w v : World) (x : TakenStep) → Good w → Takes (steps s) w x v → HasFrame v (execution x.fact.name.thread.exec)
root_after s w v x fine takes =
    let k = effect_taken s w v x.step x.fact takes.0 in
    let d = k.0 in
    let p = (planned s w x.step d k.1).1 in
    subst (λ (f : Fact). HasFrame v (execution f.name.thread.exec)) k.3
    (subst (λ (u : World). HasFrame u (execution d.fact.name.thread.exec)) k.2
    (elim p.stands [
      | inl h ↦ root_stays w d d.fact.name.thread.exec (root_of w d.fact.name.thread fine h)
      | inr h ↦ (d.frame, frame_own w d (execution d.fact.name.thread.exec) (own d.fact.name.thread h.0))
    ]))
  where
    own : (t : Thread) → t.path ≡ [] → is_same_thread t (execution t.exec) ≡ true
    own t e = let r : t ≡ execution t.exec = ap (λ (p : List (ℕ × ℕ)). let u : Thread = record { exec = t.exec; path = p } in u) e in ap (is_same_thread t) (sym r) ∙ thread_itself t

-- so has that of each step of a run, at its end
root_along : (s : Setting) (first : World) → HasNoFrames first → (ts : List TakenStep) (w v : World) → IsReached (steps s) first w → Runs (steps s) w ts v → (exec : List ℕ) → HasFrame w (execution exec) ⊎ ((x : TakenStep) × In x ts × (x.fact.name.thread.exec ≡ exec)) → HasFrame v (execution exec)
root_along s first none [] w v r runs exec (inl h) = subst (λ (u : World). HasFrame u (execution exec)) runs h
root_along s first none [] w v r runs exec (inr x) = absurd x.1
root_along s first none (t ∷ ts) w v r runs exec h =
    let k = effect_taken s w runs.0 t.step t.fact runs.1.0 in
    let fine = good s first w none r in
    let next = reached_next (steps s) first w runs.0 t r runs.1 in
    root_along s first none ts runs.0 v next runs.2 exec (elim h [
      | inl f ↦ inl (subst (λ (u : World). HasFrame u (execution exec)) k.2 (root_stays w k.0 exec f))
      | inr x ↦ elim x.1 as (λ _. HasFrame runs.0 (execution exec) ⊎ ((y : TakenStep) × In y ts × (y.fact.name.thread.exec ≡ exec))) [
        | inl e ↦ inl (subst (λ (a : List ℕ). HasFrame runs.0 (execution a)) (ap (λ (y : TakenStep). y.fact.name.thread.exec) (sym e) ∙ x.2) (root_after s w runs.0 t fine runs.1))
        | inr i ↦ inr (x.0, i, x.2)
      ]
    ])

-- ---- starts

-- what is known of a start
start_fact : List ℕ → Fact
start_fact exec = record { name = start_name exec; kind = kind.Start; access = None; bound = 0 }

unless_some : {A : Type 0} (b : Bool) (o : Option A) (y : A) → cond b None o ≡ Some y → (b ≡ false) × (o ≡ Some y)
unless_some true o y h = cc
unless_some false o y h = (refl, h)

-- a start is taken where its execution has no frame
start_taken : (s : Setting) (w v : World) (exec machine : List ℕ) (input : Json) (f : Fact) → take_step s w (started exec machine input) ≡ Some (v, f) → (f ≡ start_fact exec) × (is_some (w.frames (execution exec)) ≡ false)
unfolding start_fact
start_taken s w v exec machine input f h =
    let k = effect_taken s w v (started exec machine input) f h in
    let u = unless_some (is_some (w.frames (execution exec))) (option_map (λ (m : Definition). own_effect kind.Start (start_name exec) (first_frame machine m input)) (s.machines machine)) k.0 k.1 in
    let m = map_some (λ (m : Definition). own_effect kind.Start (start_name exec) (first_frame machine m input)) (s.machines machine) k.0 u.1 in
    (sym k.3 ∙ ap (λ (d : Effect). d.fact) (sym m.2), u.0)

unless : (b : Bool) → (b ≡ true → ⊥) → b ≡ false
unless b h = by_bool b _ (λ k. absurd (h k)) (λ k. k)

no_conflict : (x : Fact) → conflicts x.access None ≡ false
no_conflict x = elim x.access as (λ a. conflicts a None ≡ false) [ None ↦ refl | Some a ↦ refl ]

others_apart : (x : Fact) (exec : List ℕ) → (x.name.thread.exec ≡ exec → ⊥) → depends_directly x (start_fact exec) ≡ false
unfolding start_fact
others_apart x exec other =
    let t = execution exec in
    let a = unless (is_same_thread x.name.thread t) (λ k. other (ap (λ (u : Thread). u.exec) (thread_same x.name.thread t k))) in
    let b = unless (begins x t) (λ k. other (same_text x.name.thread.exec exec (sym (and_parts (is_start x.kind) (is_text x.name.thread.exec exec) k).1))) in
    let c = unless (makes x t) (λ k. nothing_over t x.name.thread x.name.no refl (and_parts _ (is_under t x.name.thread x.name.no) k).1) in
    let d = no_conflict x in
    rw (a, b, c, d) refl

-- where a start can be taken after a run, no step of the run is one on which it depends
pub start_needs : (log : Log) (s : Setting) (w v : World) (ts : List TakenStep) (h : StandsAt log s w ts) (exec machine : List ℕ) (input : Json) (f : Fact) → take_step s w (started exec machine input) ≡ Some (v, f) → (x : TakenStep) → In x ts → depends_directly x.fact f ≡ false
start_needs log s w v ts h exec machine input f takes x i =
    let k = start_taken s w v exec machine input f takes in
    let first = first_world log.begin in
    let runs = from_run (steps s) (h.before ++ ts) first w (all_run log s w ts h) in
    let other : x.fact.name.thread.exec ≡ exec → ⊥ = λ e.
    let g = root_along s first (no_frames log.begin) (h.before ++ ts) first w (reached_here (steps s) first) runs exec (inr (x, In-back x h.before ts i, e)) in
    let c : true ≡ false = sym (ap is_some g.1) ∙ k.1 in
    cc in
    ap (depends_directly x.fact) k.0 ∙ others_apart x.fact exec other
