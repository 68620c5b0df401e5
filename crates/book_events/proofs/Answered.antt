-- What an accepted start, step or ticket says, whatever answers it.
use Rattle.std.proofs.Common.{◌≡◌, Bool, true, false, cond, refl, ap, sym, ◌∙◌, inl, inr, Option, None, Some, Result, Ok, Err, List, ℕ}
use Rattle.std.specs.Prelude.{is_some, option_and_then}
use Rattle.std.proofs.lemmas.Option.{same_Some}
use Rattle.branch_tree.specs.Ready.{readiness_at}
use Rattle.branch_tree.specs.declared.readiness.Readiness.{Readiness}
use Rattle.depends.proofs.Turned.{frame_move}
use Rattle.saved_steps.specs.Effects.{Effect, frame_effect, move_effect, next_step}
use Rattle.saved_steps.specs.Held.{paths_of}
use Rattle.saved_steps.specs.Steps.{start_name}
use Rattle.saved_steps.specs.declared.fact.Fact.{Fact}
use Rattle.step_history.specs.Frame.{Frame}
use Rattle.step_names.specs.Thread.{Thread}
use Rattle.step_names.specs.declared.step.StepName.{StepName}
use Rattle.trace_theory.proofs.Runs.{and_then_some}
use Rattle.book_log.specs.Answers.{Gives, GivesOr, is_enabled, is_full_for_step, moved_answer, needed_left, start_answer, step_answer, thread_answer, unless_needed}
use Rattle.book_log.specs.Log.{Log, machine_of, setting_of, world_of}
use Rattle.book_log.specs.declared.moved.Moved.{Moved}
use Rattle.book_log.specs.declared.refusal.Refusal.{Refusal}
use Rattle.book_log.specs.declared.refusal.Refusal.TheVariants.{NoMachine, MachineTaken, BadMachine, ExecTaken, NoThread, NotReady, NoStep, HasDependents, Stale, Full, Memory, Settled, Held}
use Rattle.book_events.specs.Tickets.{IsTicketRefusal}

-- an answer is given as it is
pub given_ok : {T : Type 0} (answer : Result T Refusal) (x : T) → Gives (Ok x) answer → answer ≡ Ok x
given_ok (Ok y) x (inl e) = sym e
given_ok (Ok y) x (inr e) = cc
given_ok (Err e) x h = cc

pub ok_gives : {T : Type 0} (lacks : Type 0) (answer : Result T Refusal) (y : T) → GivesOr lacks (Ok y) answer → Gives (Ok y) answer
ok_gives lacks answer y (inl k) = k
ok_gives lacks answer y (inr k) = cc

start_cases : (known there full : Bool) (n m : StepName) → cond known (cond there (Err ExecTaken) (cond full (Err Full) (Ok n))) (Err NoMachine) ≡ Ok m → n ≡ m
start_cases true true full n m h = cc
start_cases true false true n m h = cc
start_cases true false false n m h = cc
start_cases false there full n m h = cc

pub start_named : (log : Log) (exec : Thread) (machine : List ℕ) (name : StepName) → start_answer log exec machine ≡ Ok name → start_answer log exec machine ≡ Ok (start_name exec.exec)
unfolding start_answer
start_named log exec machine name h =
    h ∙ ap Ok (sym (start_cases (is_some (machine_of log machine)) (is_some ((world_of log).frames exec)) (is_full_for_step log) (start_name exec.exec) name h))

moved_told : (log : Log) (r : Readiness) (o : Option Effect) (x : Moved) → moved_answer log r o ≡ Ok x → (d : Effect) × (o ≡ Some d) × (d.fact.name ≡ x.name)
moved_told log r None x h = cc
moved_told log r (Some d) x h = by_room (is_full_for_step log) (needed_left log d.fact) h
  where
    by_room : (full : Bool) (o : Option Fact) → unless_needed o (cond full (Err Full) (Ok (record { name = d.fact.name; kind = d.fact.kind }))) ≡ Ok x → (e : Effect) × (Some d ≡ Some e) × (e.fact.name ≡ x.name)
    by_room full (Some y) k = cc
    by_room true None k = cc
    by_room false None k = let f : record { name = d.fact.name; kind = d.fact.kind } ≡ x = cc in (d, refl, ap (λ (y : Moved). y.name) f)

thread_told : (log : Log) (t : Thread) (o : Option Frame) (x : Moved) → (world_of log).frames t ≡ o → thread_answer log t o ≡ Ok x → (f : Frame) × ((world_of log).frames t ≡ Some f) × (x.name ≡ next_step t f)
thread_told log t None x e h = cc
thread_told log t (Some f) x e h =
    let d = moved_told log (readiness_at (paths_of (world_of log).frames t.exec) t.path) (move_effect (setting_of log) (world_of log) t) x h in
    let g = and_then_some (frame_effect (setting_of log) (world_of log) t) ((world_of log).frames t) d.0 d.1 in
    let same : f ≡ g.0 = same_Some f g.0 (sym e ∙ g.1) in
    (f, e, sym d.2 ∙ (frame_move (setting_of log) (world_of log) t g.0 d.0 g.2).named ∙ ap (next_step t) (sym same))

-- a thread's step is the next after its frame
pub step_is_next : (log : Log) (t : Thread) (x : Moved) → step_answer log t ≡ Ok x → (f : Frame) × ((world_of log).frames t ≡ Some f) × (x.name ≡ next_step t f)
unfolding step_answer
step_is_next log t x h = thread_told log t ((world_of log).frames t) x refl h

no_frame : (log : Log) (t : Thread) → (world_of log).frames t ≡ None → is_enabled log t ≡ false
no_frame log t h = ap (λ (o : Option Frame). is_some (option_and_then (frame_effect (setting_of log) (world_of log) t) o)) h

-- such a thread is refused a ticket for memory alone
pub memory_alone : (log : Log) (t : Thread) (e : Refusal) → is_enabled log t ≡ true → IsTicketRefusal log t e → e ≡ Memory
memory_alone log t Memory moves h = refl
memory_alone log t NoThread moves h =
    let clash : true ≡ false = sym moves ∙ no_frame log t h in
    cc
memory_alone log t (NotReady readiness) moves h =
    let clash : true ≡ false = sym moves ∙ h.1 in
    cc
memory_alone log t NoMachine moves h = absurd h
memory_alone log t MachineTaken moves h = absurd h
memory_alone log t (BadMachine fault) moves h = absurd h
memory_alone log t ExecTaken moves h = absurd h
memory_alone log t NoStep moves h = absurd h
memory_alone log t (HasDependents step) moves h = absurd h
memory_alone log t (Stale entries) moves h = absurd h
memory_alone log t Full moves h = absurd h
memory_alone log t Settled moves h = absurd h
memory_alone log t (Held step) moves h = absurd h
