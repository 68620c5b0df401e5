-- Which threads of a book have a move, and what their next step does.
use Rattle.std.proofs.Common.{◌≡◌, ℕ, ◌≤◌, ◌<◌, ◌+◌, arith, length, ◌==◌, eq-eqb, Bool, true, false, cond, List, refl, ap, ap₂, sym, subst, ◌∙◌, Option, None, Some, Result, Ok, Err, inl, inr}
use Rattle.std.specs.Prelude.{◌&&◌, IsSome, not, is_some, option_and_then, ◌^◌}
use Rattle.std.proofs.lemmas.Option.{same_Some}
use Rattle.step_history.specs.Frame.{Frame}
use Rattle.step_history.specs.Phase.TheVariants.{Ready}
use Rattle.asl_tree.specs.Definition.{Definition}
use Rattle.branch_tree.specs.First.{is_free_to_move}
use Rattle.branch_tree.specs.Ready.{readiness_at}
use Rattle.branch_tree.specs.declared.readiness.Readiness.{Readiness}
use Rattle.step_names.specs.Thread.{Thread}
use Rattle.step_names.specs.declared.step.StepName.{StepName}
use Rattle.saved_steps.specs.Effects.{Effect, effect_of, frame_effect, if_numbered, move_effect, next_step, waits}
use Rattle.saved_steps.specs.First.{IsFirstReady, NoneBeforeThread, free}
use Rattle.saved_steps.specs.Held.{frames_of, paths_of, world_view}
use Rattle.saved_steps.specs.Made.{CanMake, effect_of_next}
use Rattle.saved_steps.specs.Steps.{moved}
use Rattle.saved_steps.specs.World.{Setting, World}
use Rattle.saved_steps.specs.declared.fact.Fact.{Fact}
use Rattle.saved_steps.specs.declared.fact.Kind.{Kind}
use Rattle.saved_steps.specs.declared.next.Next.{Next}
use Rattle.depends.proofs.Turned.{frame_move, frame_begins}
use Rattle.step_history.specs.History.{TakenStep, IsHistory, history_world}
use Rattle.step_history.specs.Levels.{HasNamesBelow}
use Rattle.step_history.specs.Moves.{IsMachineOf, IsMoveOf}
use Rattle.step_history.proofs.Counts.{counted, counted_run}
use Rattle.step_history.proofs.Movable.{frames_stand, threads_move}
use Rattle.book_log.proofs.Counts.{legal_counts, steps_there}
use Rattle.depends.specs.Instance.{steps}
use Rattle.trace_theory.proofs.Records.{run_is, run_names}
use Rattle.std.proofs.lemmas.List.{length-map}
use Rattle.book_log.specs.Answers.{effect_answer, is_enabled as can_move, step_answer, thread_answer, moved_answer, needed_left, unless_needed, is_full_for_step}
use Rattle.book_log.specs.Log.{Log, base_of, first_world, past_of, remaining, settled, step_on_hold, setting_of, world_of}
use Rattle.book_log.specs.declared.moved.Moved.{Moved}
use Rattle.book_log.specs.declared.refusal.Refusal.{Refusal}
use Rattle.book_log.specs.declared.refusal.Refusal.TheVariants as refusal
use Rattle.book_log.specs.declared.refusal.Refusal.TheVariants.{NoThread, NotReady, Full}
use Rattle.book_log.proofs.HoldSaid.{needs_none}
use Rattle.rollback_book.specs.Book.{BookView, BookInvariant, machine_place, placed_machine}
use Rattle.book_events.specs.Planned.{IsMoveRefusal, OrMemory}
use Rattle.rollback_book.specs.Ready.{HasRoomUnlessHeld, IsNextOf, IsReadyTo, MayEnter}
use Rattle.book_events.specs.FirstMove.{IsFirstToMove, moves_freely}
use Rattle.rollback_book.specs.declared.making.MadeChange.TheVariants as made
use Rattle.rollback_book.proofs.Refusing.{none_there}
use Rattle.rollback_book.proofs.Tied.{stands, world_is, as_many_records}
use Rattle.rollback_book.proofs.Whole.{legal_whole}

some_there : {A : Type 0} (o : Option A) → is_some o ≡ true → (x : A) × (o ≡ Some x)
some_there None h = cc
some_there (Some x) h = (x, refl)

-- no frame of the base counts further than there are settled steps
base_counts : (b : BookView) → BookInvariant b → (u : Thread) (g : Frame) → (base_of b.log).frames u ≡ Some g → g.count ≤ length (settled b.log)
base_counts b tied u g there =
    let s = setting_of b.log in
    let first = first_world b.log.begin in
    let h = stands b tied in
    let c = (counted_run s first (base_of b.log) h.before (λ x. refl) (run_is (steps s) (settled b.log) first (base_of b.log) h.before h.leads) u g there).bound in
    let named = ap length (run_names (steps s) (settled b.log) first (base_of b.log) h.before h.leads) in
    let long = length-map h.before (λ (x : TakenStep). x.step) in
    omega (arith, c, named, long)

-- as many steps remain as the past has
many_steps : (b : BookView) → BookInvariant b → length (remaining b.log) ≡ length (past_of b.log)
many_steps b tied = steps_there b.log (setting_of b.log) (world_view (history_world b.history)) (past_of b.log) (stands b tied)

module _ (b : BookView) (tied : BookInvariant b) (t : Thread) where
  abbrev pub readiness_there : Readiness
  readiness_there = readiness_at (paths_of (frames_of (history_world b.history)) t.exec) t.path

  moves_there : move_effect (setting_of b.log) (world_of b.log) t ≡ move_effect (setting_of b.log) (world_view (history_world b.history)) t
  moves_there = ap (λ (w : World). move_effect (setting_of b.log) w t) (world_is b tied)

  pub moves_where : is_some (move_effect (setting_of b.log) (world_of b.log) t) ≡ is_free_to_move readiness_there
  moves_where =
      ap is_some moves_there
      ∙ threads_move (setting_of b.log) (base_of b.log) (past_of b.log) b.history t (legal_whole b.log tied.legal) tied.history

  answer_by : (o : Option Frame) → frames_of (history_world b.history) t ≡ o → step_answer b.log t ≡ thread_answer b.log t o
  unfolding step_answer
  answer_by o h = ap (thread_answer b.log t) (ap (λ (w : World). w.frames t) (world_is b tied) ∙ h)

  pub told_there : readiness_at (paths_of (world_of b.log).frames t.exec) t.path ≡ readiness_there
  told_there = ap (λ (w : World). readiness_at (paths_of w.frames t.exec) t.path) (world_is b tied)

  pub step_absent : frames_of (history_world b.history) t ≡ None → step_answer b.log t ≡ Err NoThread
  step_absent h = answer_by None h

  module _ (f : Frame) (there : frames_of (history_world b.history) t ≡ Some f) where
    by_move : (o : Option Effect) → move_effect (setting_of b.log) (world_of b.log) t ≡ o → step_answer b.log t ≡ moved_answer b.log readiness_there o
    by_move o h = answer_by (Some f) there ∙ ap₂ (λ (r : Readiness) (x : Option Effect). moved_answer b.log r x) told_there h

    pub step_stuck : is_free_to_move readiness_there ≡ false → step_answer b.log t ≡ Err (NotReady readiness_there)
    step_stuck h = by_move None (none_there (move_effect (setting_of b.log) (world_of b.log) t) (moves_where ∙ h))

    moving : is_free_to_move readiness_there ≡ true → (d : Effect) × (move_effect (setting_of b.log) (world_of b.log) t ≡ Some d)
    moving h = some_there (move_effect (setting_of b.log) (world_of b.log) t) (moves_where ∙ h)

    abbrev or_full : Moved → Bool → Result Moved Refusal
    or_full m full = cond full (Err Full) (Ok m)

    pub step_full : step_on_hold b.log ≡ None → is_free_to_move readiness_there ≡ true → is_full_for_step b.log ≡ true → step_answer b.log t ≡ Err Full
    step_full unheld h full =
        let d = moving h in
        let m : Moved = record { name = d.0.fact.name; kind = d.0.fact.kind } in
        by_move (Some d.0) d.1 ∙ ap (λ (o : Option Fact). unless_needed o (or_full m (is_full_for_step b.log))) (needs_none b.log unheld d.0.fact) ∙ ap (or_full m) full

    pub few_steps : f.count + 1 < 2 ^ 32
    few_steps =
        let c = (counted (setting_of b.log) (base_of b.log) (past_of b.log) b.history (length (settled b.log)) (base_counts b tied) tied.history t f there).bound in
        let all = (legal_counts b.log tied.legal).stepped in
        let bounded = tied.bounded in
        let many = as_many_records b tied in
        let own = many_steps b tied in
        omega (arith, c, all, bounded, many, own)

    names_below : HasNamesBelow t f
    names_below =
        let p = frames_stand (setting_of b.log) (base_of b.log) (past_of b.log) b.history t f (legal_whole b.log tied.legal) tied.history there in
        p.below

    begins : is_free_to_move readiness_there ≡ true → f.phase ≡ Ready → waits (frames_of (history_world b.history)) t f ≡ false
    begins h e =
        let s = setting_of b.log in
        let w = world_view (history_world b.history) in
        let d = moving h in
        let by_frame : frame_effect s w t f ≡ Some d.0 = sym (ap (option_and_then (frame_effect s w t)) there) ∙ (sym moves_there ∙ d.1) in
        frame_begins s w t f d.0 by_frame e

    pub ready_to : (machine : Definition) → is_free_to_move readiness_there ≡ true → HasRoomUnlessHeld b.log → placed_machine (machine_place b.places f.level.machine) ≡ Some machine → IsReadyTo b t machine f
    ready_to machine h free known =
        let d = moving h in
        record {
          frame = there;
          known = sym (tied.machines f.level.machine) ∙ known;
          effect = d.0;
          moves = d.1;
          few = few_steps;
          below = names_below;
          begins = begins h;
          answer = by_move (Some d.0) d.1;
          room = free;
        }

    pub machine_known : placed_machine (machine_place b.places f.level.machine) ≡ None → ⊥
    machine_known h =
        let p = frames_stand (setting_of b.log) (base_of b.log) (past_of b.log) b.history t f (legal_whole b.log tied.legal) tied.history there in
        let known : is_some ((setting_of b.log).machines f.level.machine) ≡ true = p.known in
        let gone : is_some ((setting_of b.log).machines f.level.machine) ≡ false = ap is_some (sym (tied.machines f.level.machine) ∙ h) in
        let clash : true ≡ false = sym known ∙ gone in
        cc

    -- what the next step does
    pub next_is : (machine : Definition) (name : StepName) (next : Next) → IsReadyTo b t machine f → name ≡ next_step t f
        → ((s : Setting) (base : World) (ts : List TakenStep) → IsHistory s base ts b.history → IsMachineOf s (frames_of (history_world b.history) t) machine → IsMoveOf s (history_world b.history) t (Some next)) → IsNextOf b t name next
    next_is machine name next ready named found =
        let s = setting_of b.log in
        let w = world_view (history_world b.history) in
        let own : IsMachineOf s (frames_of (history_world b.history) t) machine = subst (λ (o : Option Frame). IsMachineOf s o machine) (sym there) ready.known in
        let m = found s (base_of b.log) (past_of b.log) tied.history own in
        let frame : m.0 ≡ f = same_Some m.0 f (sym m.1 ∙ there) in
        let suits : CanMake (history_world b.history) (next_step t f) next = subst (λ (g : Frame). CanMake (history_world b.history) (next_step t g) next) frame m.2 in
        let same : effect_of s w (moved (next_step t f)) ≡ effect_of_next (history_world b.history) (next_step t f) next =
        subst (λ (g : Frame). effect_of s w (moved (next_step t g)) ≡ effect_of_next (history_world b.history) (next_step t g) next) frame m.3 in
        let moves : move_effect s w t ≡ Some ready.effect = sym moves_there ∙ ready.moves in
        let by_frame : frame_effect s w t f ≡ Some ready.effect = sym (ap (option_and_then (frame_effect s w t)) there) ∙ moves in
        let told : ready.effect.fact.name ≡ next_step t f = (frame_move s w t f ready.effect by_frame).named in
        let number : (ready.effect.fact.name.no == (next_step t f).no) ≡ true = eq-eqb ready.effect.fact.name.no (next_step t f).no (ap (λ (n : StepName). n.no) told) in
        let does : effect_of s w (moved (next_step t f)) ≡ Some ready.effect =
        ap (option_and_then (if_numbered (next_step t f).no)) moves ∙ ap (λ (x : Bool). cond x (Some ready.effect) None) number in
        subst (λ (n : StepName). IsNextOf b t n next) (sym named) (record {
          thread = refl;
          suits = suits;
          effect = ready.effect;
          does = ap (λ (v : World). effect_of s v (moved (next_step t f))) (world_is b tied) ∙ does;
          same = sym same ∙ does;
          named = told;
          answer = ready.answer;
          moves = ap is_some ready.moves;
          room = ready.room;
        })

    -- a thread that may move has a move
    pub has_next : (machine : Definition) → IsReadyTo b t machine f
        → ((s : Setting) (base : World) (ts : List TakenStep) → IsHistory s base ts b.history → IsMachineOf s (frames_of (history_world b.history) t) machine → IsMoveOf s (history_world b.history) t None) → ⊥
    has_next machine ready found =
        let s = setting_of b.log in
        let own : IsMachineOf s (frames_of (history_world b.history) t) machine = subst (λ (o : Option Frame). IsMachineOf s o machine) (sym there) ready.known in
        let none = found s (base_of b.log) (past_of b.log) tied.history own in
        let clash : ◌≡◌ {A = Option Effect} None (Some ready.effect) = sym none ∙ sym moves_there ∙ ready.moves in
        cc

-- what the history finds for a thread, of a machine
abbrev pub Finds : BookView → Thread → Definition → Option Next → Type 0
Finds b t machine o = (s : Setting) (base : World) (ts : List TakenStep) → IsHistory s base ts b.history → IsMachineOf s (frames_of (history_world b.history) t) machine → IsMoveOf s (history_world b.history) t o

-- ---- a step for which everything is made

-- a step that may be entered is answered to be taken
enters : (log : Log) (d : Effect) (name : StepName) (f : Fact) → d.fact ≡ f → d.fact.name ≡ name → MayEnter log f → effect_answer log d ≡ Ok (record { name = name; kind = f.kind })
enters log d name f same named may =
    let none : needed_left log d.fact ≡ None = ap (needed_left log) same ∙ may.0 in
    let free = may.1 in
    rw (none, free) (ap₂ (λ (n : StepName) (k : Kind). let x : Moved = record { name = n; kind = k } in Ok x) named (ap (λ (x : Fact). x.kind) same))

-- memory may be wanting for a move for which there is room, or while something is held
lacks_memory : (log : Log) (t : Thread) (d : Effect) → step_answer log t ≡ effect_answer log d → can_move log t ≡ true → HasRoomUnlessHeld log → IsMoveRefusal log t refusal.Memory
lacks_memory log t d answer moves room = by_held (step_on_hold log) refl
  where
    by_held : (o : Option StepName) → step_on_hold log ≡ o → IsMoveRefusal log t refusal.Memory
    by_held None e =
        let none = needs_none log e d.fact in
        let free = room e in
        let told : step_answer log t ≡ Ok (record { name = d.fact.name; kind = d.fact.kind }) = answer ∙ rw (none, free) refl in
        inl (subst (λ (r : Result Moved Refusal). OrMemory r refusal.Memory) (sym told) refl)
    by_held (Some name) e = inr (refl, (subst IsSome (sym e) refl, moves))

pub next_lacks : (b : BookView) (t : Thread) (name : StepName) (next : Next) → IsNextOf b t name next → IsMoveRefusal b.log t refusal.Memory
next_lacks b t name next is = lacks_memory b.log t is.effect is.answer is.moves is.room

pub ready_lacks : (b : BookView) (t : Thread) (machine : Definition) (f : Frame) → IsReadyTo b t machine f → IsMoveRefusal b.log t refusal.Memory
ready_lacks b t machine f ready = lacks_memory b.log t ready.effect ready.answer (ap is_some ready.moves) ready.room

-- ---- the first thread that has a move

module _ (b : BookView) (tied : BookInvariant b) (passed : Thread → Bool) where
  freely : (t : Thread) → moves_freely b.log passed t ≡ free (frames_of (history_world b.history)) passed t
  freely t = ap (λ (x : Bool). x && not (passed t)) (moves_where b tied t)

  pub first_to_move : (found : Option Thread) → IsFirstReady (frames_of (history_world b.history)) passed found → IsFirstToMove b.log passed found
  first_to_move None h = λ t i. freely t ∙ h t i
  first_to_move (Some t) h = (h.0, freely t ∙ h.1, λ u i less. freely u ∙ h.2 u i less)

  pub ready_there : (found : Option Thread) → IsFirstReady (frames_of (history_world b.history)) passed found → IsFirstReady (world_of b.log).frames passed found
  ready_there found h = subst (λ (w : World). IsFirstReady w.frames passed found) (sym (world_is b tied)) h

  pub none_there_before : (name : List ℕ) (path : List (ℕ × ℕ)) → NoneBeforeThread (world_of b.log).frames passed name path → NoneBeforeThread (frames_of (history_world b.history)) passed name path
  none_there_before name path h = subst (λ (w : World). NoneBeforeThread w.frames passed name path) (world_is b tied) h
