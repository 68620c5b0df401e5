-- A step that is accepted can be taken, and one that can be taken is accepted where there is room.
use Rattle.std.proofs.Common.{◌≡◌, ◌==◌, Bool, true, false, cond, List, [], refl, ap, ap₂, sym, ◌∙◌, eq-eqb, Option, None, Some, Ok, Err}
use Rattle.std.specs.Prelude.{ℕ, is_some, option_map, option_and_then, if◌then◌else◌}
use Rattle.json_tree.specs.declared.tree.Json.{Json}
use Rattle.asl_machine.specs.Definition.{Definition}
use Rattle.depends.specs.Turn.{first_frame}
use Rattle.depends.specs.Frame.{Frame}
use Rattle.depends.specs.Ready.{readiness_at}
use Rattle.depends.specs.Readiness.{Readiness}
use Rattle.step_names.specs.Thread.{Thread, execution}
use Rattle.step_names.specs.declared.step.StepName.{StepName}
use Rattle.trace_theory.proofs.Runs.{and_then_some}
use Rattle.depends.specs.Effects.{Effect, effect_of, own_effect, frame_effect, move_effect, if_numbered}
use Rattle.depends.specs.Held.{paths_of}
use Rattle.depends.specs.Run.{after_effect, take_step}
use Rattle.depends.specs.Steps.{Step, started, moved, start_name}
use Rattle.depends.specs.World.{Setting, World}
use Rattle.depends.specs.Fact.{Fact}
use Rattle.depends.specs.Kind.{Kind}
use Rattle.depends.specs.Kind.TheVariants as kind
use Rattle.depends.proofs.Planned.{planned, numbered}
use Rattle.depends.proofs.Worlds.{effect_taken}
use Rattle.depends.specs.Instance.{TakenStep}
use Rattle.book_log.specs.Answers.{start_answer, needed_left, unless_needed, moved_answer, thread_answer, step_answer, is_full_for_step}
use Rattle.book_log.specs.Log.{Log, machine_of, setting_of, world_of}
use Rattle.book_log.specs.declared.moved.Moved.{Moved}
use Rattle.book_log.specs.declared.refusal.Refusal.TheVariants.{NoMachine, ExecTaken, Full}
use Rattle.book_log.proofs.Standing.{StandsAt, world_there}

-- a step that can be taken in a world
pub record CanTake (s : Setting) (w : World) (step : Step) : Type 0 where
  pub after : World
  pub fact : Fact
  pub takes : take_step s w step ≡ Some (after, fact)

taken_by : (s : Setting) (w : World) (step : Step) (d : Effect) → effect_of s w step ≡ Some d → take_step s w step ≡ Some (after_effect w d, d.fact)
taken_by s w step d h = ap (option_map (λ (e : Effect). (after_effect w e, e.fact))) h

-- ---- starts

start_split : (known there full : Bool) (a b : StepName) → (if known then (if there then Err ExecTaken else (if full then Err Full else Ok a)) else Err NoMachine) ≡ Ok b → (known ≡ true) × (there ≡ false) × (full ≡ false)
start_split true true full a b h = cc
start_split true false true a b h = cc
start_split true false false a b h = (refl, refl, refl)
start_split false there full a b h = cc

known_one : {A : Type 0} (o : Option A) → is_some o ≡ true → (a : A) × (o ≡ Some a)
known_one None h = cc
known_one (Some a) h = (a, refl)

start_does : (s : Setting) (w : World) (exec machine : List ℕ) (input : Json) (m : Definition) → is_some (w.frames (execution exec)) ≡ false → s.machines machine ≡ Some m
    → effect_of s w (started exec machine input) ≡ Some (own_effect kind.Start (start_name exec) (first_frame machine m input))
start_does s w exec machine input m none known = rw (none, known) refl

module _ (log : Log) (s : Setting) (w : World) (ts : List TakenStep) (h : StandsAt log s w ts) where
  pub start_said : (exec : Thread) (machine : List ℕ) (input : Json) (name : StepName) → start_answer log exec machine ≡ Ok name → exec.path ≡ [] → CanTake s w (started exec.exec machine input)
  unfolding start_answer
  start_said exec machine input name a root =
      let k = start_split (is_some (machine_of log machine)) (is_some ((world_of log).frames exec)) (is_full_for_step log) (start_name exec.exec) name a in
      let m = known_one (s.machines machine) (ap (λ (x : Setting). is_some (x.machines machine)) (sym h.setting) ∙ k.0) in
      let own : exec ≡ execution exec.exec = ap (λ (p : List (ℕ × ℕ)). let t : Thread = record { exec = exec.exec; path = p } in t) root in
      let none : is_some (w.frames (execution exec.exec)) ≡ false = ap₂ (λ (x : World) (t : Thread). is_some (x.frames t)) (sym (world_there log s w ts h)) (sym own) ∙ k.1 in
      let d = own_effect kind.Start (start_name exec.exec) (first_frame machine m.0 input) in
      record { after = after_effect w d; fact = d.fact; takes = taken_by s w (started exec.exec machine input) d (start_does s w exec.exec machine input m.0 none m.1) }

  unless_there : (b : Bool) (o : Option Effect) (d : Effect) → cond b None o ≡ Some d → (b ≡ false) × (o ≡ Some d)
  unless_there true o d k = cc
  unless_there false o d k = (refl, k)

  map_there : {A B : Type 0} (f : A → B) (o : Option A) (b : B) → option_map f o ≡ Some b → is_some o ≡ true
  map_there f None b k = cc
  map_there f (Some a) b k = refl

  -- a start or a step is accepted only where there is room
  pub start_room : (exec : Thread) (machine : List ℕ) (name : StepName) → start_answer log exec machine ≡ Ok name → is_full_for_step log ≡ false
  unfolding start_answer
  start_room exec machine name a = (start_split (is_some (machine_of log machine)) (is_some ((world_of log).frames exec)) (is_full_for_step log) (start_name exec.exec) name a).2

  pub start_accepted : (exec machine : List ℕ) (input : Json) → CanTake s w (started exec machine input) → is_full_for_step log ≡ false → start_answer log (execution exec) machine ≡ Ok (start_name exec)
  unfolding start_answer
  start_accepted exec machine input can room =
      let d = effect_taken s w can.after (started exec machine input) can.fact can.takes in
      let k = unless_there (is_some (w.frames (execution exec))) (option_map (λ (m : Definition). own_effect kind.Start (start_name exec) (first_frame machine m input)) (s.machines machine)) d.0 d.1 in
      let known : is_some (machine_of log machine) ≡ true = ap (λ (x : Setting). is_some (x.machines machine)) h.setting ∙ map_there (λ (m : Definition). own_effect kind.Start (start_name exec) (first_frame machine m input)) (s.machines machine) d.0 k.1 in
      let none : is_some ((world_of log).frames (execution exec)) ≡ false = ap (λ (x : World). is_some (x.frames (execution exec))) (world_there log s w ts h) ∙ k.0 in
      rw (known, none, room) refl

  -- ---- moves

  moved_split : (r : Readiness) (o : Option Effect) (x : Moved) → moved_answer log r o ≡ Ok x → (d : Effect) × (o ≡ Some d) × (d.fact.name ≡ x.name) × (d.fact.kind ≡ x.kind) × (is_full_for_step log ≡ false) × (needed_left log d.fact ≡ None)
  moved_split r None x k = cc
  moved_split r (Some d) x k = let q = with_room (is_full_for_step log) (needed_left log d.fact) k in (d, refl, q.0, q.1, q.2, q.3)
    where
      with_room : (b : Bool) (o : Option Fact) → unless_needed o (cond b (Err Full) (Ok (record { name = d.fact.name; kind = d.fact.kind }))) ≡ Ok x → (d.fact.name ≡ x.name) × (d.fact.kind ≡ x.kind) × (b ≡ false) × (o ≡ None)
      with_room true None e = cc
      with_room false None e = let f : record { name = d.fact.name; kind = d.fact.kind } ≡ x = cc in (ap (λ (y : Moved). y.name) f, ap (λ (y : Moved). y.kind) f, refl, refl)
      with_room b (Some y) e = cc

  thread_split : (t : Thread) (o : Option Frame) (x : Moved) → thread_answer log t o ≡ Ok x
      → (d : Effect) × (move_effect (setting_of log) (world_of log) t ≡ Some d) × (d.fact.name ≡ x.name) × (d.fact.kind ≡ x.kind) × (is_full_for_step log ≡ false) × (needed_left log d.fact ≡ None)
  thread_split t None x k = cc
  thread_split t (Some f) x k = moved_split (readiness_at (paths_of (world_of log).frames t.exec) t.path) (move_effect (setting_of log) (world_of log) t) x k

  move_there : (t : Thread) → move_effect (setting_of log) (world_of log) t ≡ move_effect s w t
  move_there t = ap₂ (λ (x : Setting) (y : World). move_effect x y t) h.setting (world_there log s w ts h)

  pub step_room : (t : Thread) (x : Moved) → step_answer log t ≡ Ok x → is_full_for_step log ≡ false
  unfolding step_answer
  step_room t x a = (thread_split t ((world_of log).frames t) x a).4

  pub step_said : (t : Thread) (x : Moved) → step_answer log t ≡ Ok x → x.name.thread ≡ t → (can : CanTake s w (moved x.name)) × (can.fact.kind ≡ x.kind) × (needed_left log can.fact ≡ None)
  unfolding step_answer
  step_said t x a e =
      let k = thread_split t ((world_of log).frames t) x a in
      let moves : move_effect s w x.name.thread ≡ Some k.0 = ap (move_effect s w) e ∙ sym (move_there t) ∙ k.1 in
      let n : (k.0.fact.name.no == x.name.no) ≡ true = eq-eqb k.0.fact.name.no x.name.no (ap (λ (y : StepName). y.no) k.2) in
      let own : if_numbered x.name.no k.0 ≡ Some k.0 = rw n refl in
      let does : effect_of s w (moved x.name) ≡ Some k.0 = ap (option_and_then (if_numbered x.name.no)) moves ∙ own in
      (record { after = after_effect w k.0; fact = k.0.fact; takes = taken_by s w (moved x.name) k.0 does }, k.3, k.5)

  pub step_accepted : (name : StepName) (can : CanTake s w (moved name)) → is_full_for_step log ≡ false → needed_left log can.fact ≡ None → step_answer log name.thread ≡ Ok (record { name = name; kind = can.fact.kind })
  unfolding step_answer
  step_accepted name can room free =
      let d = effect_taken s w can.after (moved name) can.fact can.takes in
      let k = and_then_some (if_numbered name.no) (move_effect s w name.thread) d.0 d.1 in
      let moves : move_effect (setting_of log) (world_of log) name.thread ≡ Some d.0 = move_there name.thread ∙ k.1 ∙ ap Some (numbered k.0 d.0 name.no k.2).1 in
      let f = and_then_some (frame_effect s w name.thread) (w.frames name.thread) k.0 k.1 in
      let there : (world_of log).frames name.thread ≡ Some f.0 = ap (λ (x : World). x.frames name.thread) (world_there log s w ts h) ∙ f.1 in
      let fact : record { name = d.0.fact.name; kind = d.0.fact.kind } ≡ record { name = name; kind = can.fact.kind } =
      ap₂ (λ (x : StepName) (y : Kind). let m : Moved = record { name = x; kind = y } in m) (planned s w (moved name) d.0 d.1).0 (ap (λ (g : Fact). g.kind) d.3) in
      let none : needed_left log d.0.fact ≡ None = ap (needed_left log) d.3 ∙ free in
      rw (there, moves, none, room) (ap Ok fact)
