-- The step that a thread is answered is its own.
use Rattle.std.proofs.Common.{◌≡◌, Bool, true, false, Option, None, Some, Ok, Err, cond, refl, sym, ap, ◌∙◌}
use Rattle.trace_theory.proofs.Runs.{and_then_some}
use Rattle.step_history.specs.Frame.{Frame}
use Rattle.branch_tree.specs.Ready.{readiness_at}
use Rattle.branch_tree.specs.declared.readiness.Readiness.{Readiness}
use Rattle.saved_steps.specs.Effects.{Effect, frame_effect, move_effect}
use Rattle.saved_steps.specs.Held.{paths_of}
use Rattle.saved_steps.specs.declared.fact.Fact.{Fact}
use Rattle.depends.proofs.Turned.{frame_move}
use Rattle.step_names.specs.Thread.{Thread}
use Rattle.step_names.specs.declared.step.StepName.{StepName}
use Rattle.book_log.specs.Answers.{is_full_for_step, moved_answer, needed_left, thread_answer, step_answer, unless_needed}
use Rattle.book_log.specs.Log.{Log, setting_of, world_of}
use Rattle.book_log.specs.declared.moved.Moved.{Moved}
use Rattle.book_log.specs.declared.refusal.Refusal.TheVariants.{Full}

module _ (log : Log) (t : Thread) (x : Moved) where
  by_room : (b : Bool) (o : Option Fact) (d : Effect) → unless_needed o (cond b (Err Full) (Ok (record { name = d.fact.name; kind = d.fact.kind }))) ≡ Ok x → d.fact.name ≡ x.name
  by_room b (Some y) d e = cc
  by_room true None d e = cc
  by_room false None d e = let f : record { name = d.fact.name; kind = d.fact.kind } ≡ x = cc in ap (λ (y : Moved). y.name) f

  by_move : (d : Effect) → move_effect (setting_of log) (world_of log) t ≡ Some d → d.fact.name.thread ≡ t
  by_move d h =
      let k = and_then_some (frame_effect (setting_of log) (world_of log) t) ((world_of log).frames t) d h in
      ap (λ (n : StepName). n.thread) (frame_move (setting_of log) (world_of log) t k.0 d k.2).named

  by_effect : (r : Readiness) (o : Option Effect) → move_effect (setting_of log) (world_of log) t ≡ o → moved_answer log r o ≡ Ok x → x.name.thread ≡ t
  by_effect r None h e = cc
  by_effect r (Some d) h e = ap (λ (n : StepName). n.thread) (sym (by_room (is_full_for_step log) (needed_left log d.fact) d e)) ∙ by_move d h

  by_frame : (o : Option Frame) → thread_answer log t o ≡ Ok x → x.name.thread ≡ t
  by_frame None e = cc
  by_frame (Some f) e = by_effect (readiness_at (paths_of (world_of log).frames t.exec) t.path) (move_effect (setting_of log) (world_of log) t) refl e

pub step_thread : (log : Log) (t : Thread) (x : Moved) → step_answer log t ≡ Ok x → x.name.thread ≡ t
unfolding step_answer
step_thread log t x e = by_frame log t x ((world_of log).frames t) e
