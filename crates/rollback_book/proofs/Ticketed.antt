-- Which threads have a ticket, and where a prepared turn is still its thread's.
use Rattle.std.proofs.Common.{Err, ◌≡◌, Bool, true, false, refl, ap, sym, subst, ◌∙◌, Option, None, Some}
use Rattle.std.specs.Prelude.{IsSome, is_some, not, option_and_then}
use Rattle.std.proofs.lemmas.Option.{same_Some}
use Rattle.asl_machine.specs.MachineSame.{same_definition, definition_exact}
use Rattle.asl_tree.specs.Definition.{Definition}
use Rattle.branch_tree.specs.First as first
use Rattle.branch_tree.specs.Ready.{readiness_at}
use Rattle.branch_tree.specs.declared.readiness.Readiness.{Readiness}
use Rattle.step_history.specs.Frame.{Frame}
use Rattle.step_history.specs.FrameSame.{same_frame, frame_exact}
use Rattle.step_history.specs.Prepared.{Prepared}
use Rattle.step_history.specs.Turn.{located}
use Rattle.step_history.proofs.Movable.{frames_stand}
use Rattle.step_history.proofs.Worked.{is_over, work_move}
use Rattle.step_names.specs.Thread.{Thread}
use Rattle.step_names.specs.declared.step.StepName.{StepName}
use Rattle.saved_steps.specs.Effects.{next_step}
use Rattle.saved_steps.specs.Held.{frames_of, paths_of}
use Rattle.saved_steps.specs.World.{World}
use Rattle.saved_steps.specs.declared.next.Next.TheVariants.{Work}
use Rattle.saved_steps.proofs.Moves.{work_is_effect}
use Rattle.book_log.specs.Answers.{is_full_for_step, step_answer}
use Rattle.book_log.specs.Log.{Log, base_of, step_on_hold, machine_of, past_of, setting_of, world_of}
use Rattle.book_log.specs.declared.refusal.Refusal.{Refusal}
use Rattle.book_log.specs.declared.refusal.Refusal.TheVariants.{NoMachine, MachineTaken, BadMachine, ExecTaken, NoThread, NotReady, NoStep, HasDependents, Stale, Full, Memory, Settled, Held}
use Rattle.rollback_book.specs.Book.{BookView, BookInvariant, machine_place, placed_machine}
use Rattle.book_events.specs.Commits.{AnswersCommit, IsFresh, IsSource, tells_hold, turn_refused}
use Rattle.book_events.specs.declared.commits.CommitRefusal.TheVariants.{Refused}
use Rattle.book_events.specs.Planned.{IsMoveRefusal}
use Rattle.rollback_book.specs.Ready.{HasRoomUnlessHeld, IsNextOf}
use Rattle.book_events.specs.Tickets.{IsTicketed, IsTicketRefusal, log_readiness}
use Rattle.rollback_book.proofs.Moving.{few_steps, moves_where, next_is, ready_to, step_full, told_there}
use Rattle.rollback_book.proofs.Tied.{world_is}
use Rattle.rollback_book.proofs.Whole.{legal_whole}
use Rattle.step_history.specs.History.{history_world}

module _ (b : BookView) (tied : BookInvariant b) (t : Thread) where
  pub frame_there : (o : Option Frame) → o ≡ frames_of (history_world b.history) t → (world_of b.log).frames t ≡ o
  frame_there o h = ap (λ (w : World). w.frames t) (world_is b tied) ∙ sym h

  pub readiness_told : (readiness : Readiness) → readiness ≡ readiness_at (paths_of (frames_of (history_world b.history)) t.exec) t.path → readiness ≡ log_readiness b.log t
  readiness_told readiness h = h ∙ sym (told_there b tied t)

  module _ (f : Frame) (there : Some f ≡ frames_of (history_world b.history) t) where
    pub no_ticket : (readiness : Readiness) → readiness ≡ readiness_at (paths_of (frames_of (history_world b.history)) t.exec) t.path → first.is_free_to_move readiness ≡ false
        → IsTicketRefusal b.log t (NotReady readiness)
    no_ticket readiness h stuck =
        (subst IsSome (sym (frame_there (Some f) there)) refl, moves_where b tied t ∙ sym (ap first.is_free_to_move h) ∙ stuck, readiness_told readiness h)

    pub ticketed : (machine : Definition) (readiness : Readiness) → readiness ≡ readiness_at (paths_of (frames_of (history_world b.history)) t.exec) t.path → first.is_free_to_move readiness ≡ true
        → Some machine ≡ placed_machine (machine_place b.places f.level.machine) → IsTicketed b.log t machine f
    ticketed machine readiness h moves known =
        let p = frames_stand (setting_of b.log) (base_of b.log) (past_of b.log) b.history t f (legal_whole b.log tied.legal) tied.history (sym there) in
        let own : machine_of b.log f.level.machine ≡ Some machine = sym (tied.machines f.level.machine) ∙ sym known in
        record {
          moving = record { frame = frame_there (Some f) there; known = own; moves = moves_where b tied t ∙ sym (ap first.is_free_to_move h) ∙ moves };
          stands = subst IsSome (ap (option_and_then (λ (d : Definition). located d f)) own) p.stands;
          few = few_steps b tied t f (sym there);
        }

pub fresh_by : (log : Log) (t : Thread) (p : Prepared) (f : Frame) → (world_of log).frames t ≡ Some f → IsSource log p f → first.is_free_to_move (log_readiness log t) ≡ true → IsFresh log t p
fresh_by log t p f there source begins =
    record { begins = begins; frame = there ∙ ap Some source.0; machine = subst (λ (g : Frame). machine_of log g.level.machine ≡ Some p.machine) source.0 source.1 }

-- a turn that is fresh is what its thread's next step is to do
pub commit_next : (b : BookView) (tied : BookInvariant b) (t : Thread) (p : Prepared) (name : StepName) → IsFresh b.log t p → HasRoomUnlessHeld b.log → name ≡ next_step t p.frame
    → IsNextOf b t name (Work p)
commit_next b tied t p name fresh free named =
    let f = p.frame in
    let there : frames_of (history_world b.history) t ≡ Some f = sym (ap (λ (w : World). w.frames t) (world_is b tied)) ∙ fresh.frame in
    let ready = ready_to b tied t f there p.machine (sym (ap first.is_free_to_move (told_there b tied t)) ∙ fresh.begins) free (tied.machines f.level.machine ∙ fresh.machine) in
    next_is b tied t f there p.machine name (Work p) ready named
    (λ s base ts is own. work_move s (history_world b.history) t f p.machine (is_over s base ts b.history is) there own p work_is_effect p.ready (ready.begins p.ready) refl refl)

-- and it is refused where there is no room and nothing is held
pub commit_full : (b : BookView) (tied : BookInvariant b) (t : Thread) (p : Prepared) → IsFresh b.log t p → step_on_hold b.log ≡ None → is_full_for_step b.log ≡ true → step_answer b.log t ≡ Err Full
commit_full b tied t p fresh unheld full =
    let there : frames_of (history_world b.history) t ≡ Some p.frame = sym (ap (λ (w : World). w.frames t) (world_is b tied)) ∙ fresh.frame in
    step_full b tied t p.frame there unheld (sym (ap first.is_free_to_move (told_there b tied t)) ∙ fresh.begins) full

-- a turn that is its thread's next is answered as it is refused
pub turn_answer : (log : Log) (t : Thread) (p : Prepared) (e : Refusal) → IsFresh log t p → IsMoveRefusal log t e → AnswersCommit log t p (Err (turn_refused e p))
turn_answer log t p (Held step) fresh refused = (fresh, refused, refl)
turn_answer log t p NoMachine fresh refused = (fresh, refused, refl)
turn_answer log t p MachineTaken fresh refused = (fresh, refused, refl)
turn_answer log t p (BadMachine fault) fresh refused = (fresh, refused, refl)
turn_answer log t p ExecTaken fresh refused = (fresh, refused, refl)
turn_answer log t p NoThread fresh refused = (fresh, refused, refl)
turn_answer log t p (NotReady readiness) fresh refused = (fresh, refused, refl)
turn_answer log t p NoStep fresh refused = (fresh, refused, refl)
turn_answer log t p (HasDependents step) fresh refused = (fresh, refused, refl)
turn_answer log t p (Stale entries) fresh refused = (fresh, refused, refl)
turn_answer log t p Full fresh refused = (fresh, refused, refl)
turn_answer log t p Memory fresh refused = (fresh, refused, refl)
turn_answer log t p Settled fresh refused = (fresh, refused, refl)

not_true : (b : Bool) → (b ≡ true → ⊥) → b ≡ false
not_true true h = absurd (h refl)
not_true false h = refl

-- while nothing is held none is held back
pub unheld_answer : (log : Log) (t : Thread) (p : Prepared) (e : Refusal) → IsFresh log t p → IsMoveRefusal log t e → (tells_hold e ≡ true → IsSome (step_on_hold log)) → is_some (step_on_hold log) ≡ false
    → AnswersCommit log t p (Err (Refused e))
unheld_answer log t p e fresh refused only none = (fresh, refused, not_true (tells_hold e) (λ h. let clash : true ≡ false = sym (only h) ∙ none in cc))

-- ---- what is compared

by_not : (x : Bool) → not x ≡ false → x ≡ true
by_not true h = refl
by_not false h = cc

pub alike : (f g : Frame) (ne : Bool) → ne ≡ not (same_frame f g) → ne ≡ false → f ≡ g
alike f g ne is h = (frame_exact f g).0 (by_not (same_frame f g) (sym is ∙ h))

pub unlike : (f g : Frame) (ne : Bool) → ne ≡ not (same_frame f g) → ne ≡ true → f ≡ g → ⊥
unlike f g ne is h e =
    let clash : true ≡ false = sym h ∙ is ∙ ap not ((frame_exact f g).1 e) in
    cc

-- the book's machine of a frame's level is the one of which a turn was prepared, just where these two are compared equal
module _ (b : BookView) (tied : BookInvariant b) (p : Prepared) (f : Frame) (machine : Definition) (known : Some machine ≡ placed_machine (machine_place b.places f.level.machine)) where
  found : machine_of b.log f.level.machine ≡ Some machine
  found = sym (tied.machines f.level.machine) ∙ sym known

  pub source_by : (other : Definition) (same : Bool) → same ≡ same_definition machine other → other ≡ p.machine → f ≡ p.frame → same ≡ true → IsSource b.log p f
  source_by other same is own frame h = (frame, found ∙ ap Some ((definition_exact machine other).0 (sym is ∙ h) ∙ own))

  pub no_source : (other : Definition) (same : Bool) → same ≡ same_definition machine other → other ≡ p.machine → same ≡ false → IsSource b.log p f → ⊥
  no_source other same is own h source =
      let one : machine ≡ p.machine = same_Some machine p.machine (sym found ∙ source.1) in
      let clash : true ≡ false = sym ((definition_exact machine other).1 (one ∙ sym own)) ∙ sym is ∙ h in
      cc

-- ---- who has a move
