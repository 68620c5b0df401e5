-- When commands that add to a book are refused.
use Rattle.std.proofs.Common.{◌≡◌, Bool, true, false, cond, List, [], refl, ap, sym, ◌∙◌, Option, None, Some, Result, Ok, Err}
use Rattle.std.specs.Prelude.{ℕ, is_some}
use Rattle.json_tree.specs.declared.tree.Json.{Json}
use Rattle.step_history.specs.Turn.{first_frame}
use Rattle.step_history.specs.Frame.{Frame}
use Rattle.asl_tree.specs.Definition.{Definition}
use Rattle.branch_tree.specs.FlatMap.{is_parked}
use Rattle.branch_tree.specs.Ready.{readiness_at}
use Rattle.branch_tree.specs.declared.readiness.Readiness.{Readiness}
use Rattle.step_names.specs.Thread.{Thread, execution}
use Rattle.step_names.specs.declared.step.StepName.{StepName}
use Rattle.saved_steps.specs.Effects as effects
use Rattle.saved_steps.specs.Effects.{Effect, own_effect, move_effect}
use Rattle.saved_steps.specs.Held.{frames_of, paths_of, world_view}
use Rattle.saved_steps.specs.Steps.{started, start_name}
use Rattle.saved_steps.specs.World.{Setting, World}
use Rattle.saved_steps.specs.declared.fact.Fact.{Fact}
use Rattle.saved_steps.specs.declared.fact.Kind.TheVariants as kind
use Rattle.book_log.specs.Answers.{is_full_for_step, start_answer, step_answer, thread_answer, moved_answer, needed_left, unless_needed}
use Rattle.book_log.specs.Log.{Log, machine_of, setting_of, world_of}
use Rattle.book_log.specs.declared.moved.Moved.{Moved}
use Rattle.book_log.specs.declared.refusal.Refusal.{Refusal}
use Rattle.book_log.specs.declared.refusal.Refusal.TheVariants.{NoMachine, ExecTaken, Full}
use Rattle.rollback_book.specs.Book.{BookView, BookInvariant}
use Rattle.rollback_book.specs.Ready.{IsStartOf}
use Rattle.rollback_book.proofs.Tied.{world_is}
use Rattle.step_history.specs.History.{history_world}

pub none_there : {A : Type 0} (o : Option A) → is_some o ≡ false → o ≡ None
none_there None h = refl
none_there (Some x) h = cc

-- ---- definitions

-- ---- starts

abbrev start_by : Bool → Bool → Bool → StepName → Result StepName Refusal
start_by known there full name = cond known (cond there (Err ExecTaken) (cond full (Err Full) (Ok name))) (Err NoMachine)

start_parts : (known there full : Bool) (name x : StepName) → start_by known there full name ≡ Ok x → (known ≡ true) × (there ≡ false) × (full ≡ false)
start_parts true true full name x h = cc
start_parts true false true name x h = cc
start_parts true false false name x h = (refl, refl, refl)
start_parts false there full name x h = cc

pub start_not_full : (log : Log) (exec : Thread) (machine : List ℕ) (x : StepName) → start_answer log exec machine ≡ Ok x → is_full_for_step log ≡ false
unfolding start_answer
start_not_full log exec machine x h = (start_parts (is_some (machine_of log machine)) (is_some ((world_of log).frames exec)) (is_full_for_step log) (start_name exec.exec) x h).2

module _ (b : BookView) (tied : BookInvariant b) (exec : Thread) (machine : List ℕ) where
  start_told : (known there full : Bool) → is_some (machine_of b.log machine) ≡ known → is_some (frames_of (history_world b.history) exec) ≡ there → is_full_for_step b.log ≡ full
      → start_answer b.log exec machine ≡ start_by known there full (start_name exec.exec)
  unfolding start_answer
  start_told known there full k t f =
      ap (λ (x : Bool). start_by x (is_some ((world_of b.log).frames exec)) (is_full_for_step b.log) (start_name exec.exec)) k
      ∙ ap (λ (x : Bool). start_by known x (is_full_for_step b.log) (start_name exec.exec)) (ap (λ (w : World). is_some (w.frames exec)) (world_is b tied) ∙ t)
      ∙ ap (λ (x : Bool). start_by known there x (start_name exec.exec)) f

  pub start_unknown : is_some (machine_of b.log machine) ≡ false → start_answer b.log exec machine ≡ Err NoMachine
  start_unknown k = start_told false _ _ k refl refl

  pub start_taken : is_some (machine_of b.log machine) ≡ true → is_some (frames_of (history_world b.history) exec) ≡ true → start_answer b.log exec machine ≡ Err ExecTaken
  start_taken k t = start_told true true _ k t refl

  pub start_full : is_some (machine_of b.log machine) ≡ true → is_some (frames_of (history_world b.history) exec) ≡ false → is_full_for_step b.log ≡ true → start_answer b.log exec machine ≡ Err Full
  start_full k t f = start_told true false true k t f

  pub start_free : is_some (machine_of b.log machine) ≡ true → is_some (frames_of (history_world b.history) exec) ≡ false → is_full_for_step b.log ≡ false → start_answer b.log exec machine ≡ Ok (start_name exec.exec)
  start_free k t f = start_told true false false k t f

-- the start of an execution with a machine that is known, over no frame
start_does : (s : Setting) (w : World) (exec machine : List ℕ) (input : Json) (m : Definition) → w.frames (execution exec) ≡ None → s.machines machine ≡ Some m
    → effects.effect_of s w (started exec machine input) ≡ Some (own_effect kind.Start (start_name exec) (first_frame machine m input))
start_does s w exec machine input m none known = rw (none, known) refl

pub start_is : (b : BookView) (exec : Thread) (machine : List ℕ) (input : Json) (m : Definition) (f : Frame) → exec.path ≡ [] → world_of b.log ≡ world_view (history_world b.history) → frames_of (history_world b.history) exec ≡ None
    → start_answer b.log exec machine ≡ Ok (start_name exec.exec) → machine_of b.log machine ≡ Some m → f ≡ first_frame machine m input → IsStartOf b exec machine input f
start_is b exec machine input m f root world absent answer known frame =
    let own : exec ≡ execution exec.exec = ap (λ (p : List (ℕ × ℕ)). let t : Thread = record { exec = exec.exec; path = p } in t) root in
    let there : frames_of (history_world b.history) (execution exec.exec) ≡ None = ap (frames_of (history_world b.history)) (sym own) ∙ absent in
    let none : (world_of b.log).frames (execution exec.exec) ≡ None = ap (λ (w : World). w.frames (execution exec.exec)) world ∙ there in
    record {
      answer = answer;
      suits = (there, refl, ap (λ (g : Frame). is_parked g.phase) frame);
      does = start_does (setting_of b.log) (world_of b.log) exec.exec machine input m none known
          ∙ ap (λ (g : Frame). Some (own_effect kind.Start (start_name exec.exec) g)) (sym frame);
    }

-- ---- steps

pub step_not_full : (log : Log) (t : Thread) (x : Moved) → step_answer log t ≡ Ok x → is_full_for_step log ≡ false
unfolding step_answer
step_not_full log t x h = by_frame ((world_of log).frames t) h
  where
    by_room : (b : Bool) (o : Option Fact) (m : Moved) → unless_needed o (cond b (Err Full) (Ok m)) ≡ Ok x → b ≡ false
    by_room true None m e = cc
    by_room false None m e = refl
    by_room b (Some y) m e = cc

    by_move : (r : Readiness) (o : Option Effect) → moved_answer log r o ≡ Ok x → is_full_for_step log ≡ false
    by_move r None e = cc
    by_move r (Some d) e = by_room (is_full_for_step log) (needed_left log d.fact) (record { name = d.fact.name; kind = d.fact.kind }) e

    by_frame : (o : Option Frame) → thread_answer log t o ≡ Ok x → is_full_for_step log ≡ false
    by_frame None e = cc
    by_frame (Some f) e = by_move (readiness_at (paths_of (world_of log).frames t.exec) t.path) (move_effect (setting_of log) (world_of log) t) e
