-- What a book tells of a step that is taken in it again.
use Rattle.std.proofs.Common.{◌≡◌, ◌≤◌, ◌+◌, ◌-◌, arith, ℕ, eq-eqb, true, false, List, [], ◌∷◌, refl, ap, sym, ◌∙◌, inl, inr, Option, None, Some, Ok}
use Rattle.std.specs.Prelude.{position, is_some}
use Rattle.std.proofs.lemmas.Bool.{eqb-true}
use Rattle.std.proofs.lemmas.Option.{same_Some}
use Rattle.json_tree.specs.Data.{depth}
use Rattle.json_tree.specs.View.{data_of}
use Rattle.json_tree.specs.declared.tree.Json.{Json}
use Rattle.step_history.specs.Frame.{Frame}
use Rattle.step_names.specs.Thread.{Thread, execution}
use Rattle.step_names.specs.declared.step.StepName.{StepName}
use Rattle.trace_theory.specs.Traces.{In, names_of}
use Rattle.trace_theory.proofs.Lists.{by_bool}
use Rattle.depends.specs.Instance.{steps}
use Rattle.depends.specs.Laws.{facts_of}
use Rattle.saved_steps.specs.Held.{frames_of, world_view}
use Rattle.saved_steps.specs.Steps.{Step, started, moved, name_of}
use Rattle.saved_steps.specs.World.{Setting, World, is_same_step}
use Rattle.saved_steps.specs.declared.fact.Fact.{Fact}
use Rattle.saved_steps.specs.declared.record.StepRecord.{StepRecord}
use Rattle.step_history.specs.History.{TakenStep, history_records, history_world}
use Rattle.book_log.specs.Answers.{from_step, step_answer, step_named}
use Rattle.book_log.specs.Legal.{IsLegal}
use Rattle.book_log.specs.Log.{Log, past_of, remaining, setting_of, world_of}
use Rattle.book_log.specs.declared.moved.Moved.{Moved}
use Rattle.book_log.proofs.Counts.{legal_counts}
use Rattle.book_log.proofs.Standing.{fact_named, names_there}
use Rattle.book_log.proofs.Reruns.{named_is}
use Rattle.book_events.proofs.Answered.{step_is_next}
use Rattle.rollback_book.specs.Book.{BookView, BookInvariant}
use Rattle.rollback_book.specs.Rerunning.{CanRetake, is_numbered, last_start}
use Rattle.rollback_book.proofs.Searching.{no_step, step_at}
use Rattle.rollback_book.proofs.Started.{legal_last, legal_numbered}
use Rattle.rollback_book.proofs.Tied.{facts_are, stands}

-- ---- a step that remains

named_alike : (s : Setting) (name : StepName) (ts : List TakenStep) → ((t : TakenStep) → In t ts → t.fact.name ≡ name_of t.step) → is_some (step_named name (names_of (steps s) ts)) ≡ is_some (from_step name (facts_of ts))
named_alike s name [] named = refl
named_alike s name (t ∷ ts) named =
    let own : is_same_step name t.fact.name ≡ is_same_step name (name_of t.step) = ap (is_same_step name) (named t (inl refl)) in
    let rest = named_alike s name ts (λ x i. named x (inr i)) in
    by_bool (is_same_step name (name_of t.step)) _
    (λ k. let j = own ∙ k in rw (k, j) refl)
    (λ k. let j = own ∙ k in rw (k, j) rest)

module _ (b : BookView) (tied : BookInvariant b) (name : StepName) where
  remains_by : is_some (step_named name (remaining b.log)) ≡ is_some (from_step name (facts_of (past_of b.log)))
  remains_by =
      ap (λ (l : List Step). is_some (step_named name l)) (sym (names_there b.log (setting_of b.log) (world_view (history_world b.history)) (past_of b.log) (stands b tied)))
      ∙ named_alike (setting_of b.log) name (past_of b.log) (fact_named b.log (setting_of b.log) (world_view (history_world b.history)) (past_of b.log) (stands b tied))

  none_by : (o : Option Step) → is_some o ≡ false → o ≡ None
  none_by None h = refl
  none_by (Some x) h = cc

  pub not_there : position (λ (r : StepRecord). is_same_step r.fact.name name) (history_records b.history) ≡ None → step_named name (remaining b.log) ≡ None
  not_there h =
      none_by (step_named name (remaining b.log))
      (remains_by ∙ ap (λ (fs : List Fact). is_some (from_step name fs)) (sym (facts_are b tied)) ∙ ap is_some (no_step name (history_records b.history) h))

  pub is_there : (at : ℕ) → position (λ (r : StepRecord). is_same_step r.fact.name name) (history_records b.history) ≡ Some at → is_some (step_named name (remaining b.log)) ≡ true
  is_there at h = remains_by ∙ ap (λ (fs : List Fact). is_some (from_step name fs)) (sym (facts_are b tied)) ∙ ap is_some (step_at name (history_records b.history) at h).answer

some_by : {A : Type 0} (o : Option A) → is_some o ≡ true → (x : A) × (o ≡ Some x)
some_by None h = cc
some_by (Some x) h = (x, refl)

pub found_some : (b : BookView) (tied : BookInvariant b) (name : StepName) (o : Option ℕ) → o ≡ position (λ (r : StepRecord). is_same_step r.fact.name name) (history_records b.history) → is_some o ≡ true → is_some (step_named name (remaining b.log)) ≡ true
found_some b tied name None h k = cc
found_some b tied name (Some at) h k = is_there b tied name at (sym h)

-- ---- a start that remains

pub record IsStartThere (log : Log) (name : StepName) (step : Step) : Type 0 where
  pub machine : List ℕ
  pub input : Json
  pub is : step ≡ started name.thread.exec machine input
  pub root : name.thread.path ≡ []
  pub last : last_start name.thread log.entries ≡ Some (machine, input)
  pub shallow : depth (data_of input) ≤ 127

pub start_there : (log : Log) → IsLegal log → (name : StepName) → name.no ≡ 0 → (step : Step) → step_named name (remaining log) ≡ Some step → IsStartThere log name step
start_there log legal name zero_no (started exec machine input) named =
    let k = named_is name (remaining log) (started exec machine input) named in
    let thread : execution exec ≡ name.thread = ap (λ (n : StepName). n.thread) k.0 in
    record {
      machine = machine;
      input = input;
      is = ap (λ (t : Thread). started t.exec machine input) thread;
      root = ap (λ (t : Thread). t.path) (sym thread);
      last = ap (λ (t : Thread). last_start t log.entries) (sym thread) ∙ legal_last log legal exec machine input k.1;
      shallow = (legal_counts log legal).shallow (started exec machine input) k.1;
    }
start_there log legal name zero_no (moved n) named =
    let k = named_is name (remaining log) (moved n) named in
    let least = legal_numbered log legal n k.1 in
    let same = ap (λ (x : StepName). x.no) k.0 in
    absurd (omega (arith, least, same, zero_no))

pub some_start : (log : Log) → IsLegal log → (name : StepName) → name.no ≡ 0 → is_some (step_named name (remaining log)) ≡ true → (step : Step) × (step_named name (remaining log) ≡ Some step) × IsStartThere log name step
some_start log legal name zero_no h =
    let k = some_by (step_named name (remaining log)) h in
    (k.0, k.1, start_there log legal name zero_no k.0 k.1)

-- a step with another number is a move
pub move_there : (log : Log) (name : StepName) → 1 ≤ name.no → is_some (step_named name (remaining log)) ≡ true → step_named name (remaining log) ≡ Some (moved name)
move_there log name least h =
    let k = some_by (step_named name (remaining log)) h in
    k.1 ∙ ap (λ (s : Step). Some s) (is_move k.0 (named_is name (remaining log) k.0 k.1).0)
  where
    is_move : (s : Step) → name_of s ≡ name → s ≡ moved name
    is_move (started exec machine input) e = let z = ap (λ (n : StepName). n.no) e in absurd (omega (arith, z, least))
    is_move (moved n) e = ap moved e

-- ---- what commands answer

-- ---- starts

-- an execution's own thread
pub own_thread : (t : Thread) → t.path ≡ [] → t ≡ execution t.exec
own_thread t root = ap (λ (p : List (ℕ × ℕ)). let u : Thread = record { exec = t.exec; path = p } in u) root

-- ---- moves

module _ (b : BookView) (name : StepName) where
  -- a move that can be taken has the next number
  retake_next : world_of b.log ≡ world_view (history_world b.history) → CanRetake b.log (moved name) → is_numbered (frames_of (history_world b.history) name.thread) name.no ≡ true
  retake_next world can =
      let k = step_is_next b.log name.thread (record { name = name; kind = can.0 }) can.1 in
      let n : name.no ≡ k.0.count + 1 = ap (λ (x : StepName). x.no) k.2 in
      let there : frames_of (history_world b.history) name.thread ≡ Some k.0 = ap (λ (w : World). w.frames name.thread) (sym world) ∙ k.1 in
      ap (λ (o : Option Frame). is_numbered o name.no) there ∙ eq-eqb k.0.count (name.no - 1) (omega (arith, n))

  pub no_retake : world_of b.log ≡ world_view (history_world b.history) → is_numbered (frames_of (history_world b.history) name.thread) name.no ≡ false → CanRetake b.log (moved name) → ⊥
  no_retake world other can = let clash = sym (retake_next world can) ∙ other in cc

  numbered_by : 1 ≤ name.no → (o : Option Frame) → is_numbered o name.no ≡ true → (f : Frame) × (o ≡ Some f) × (f.count + 1 ≡ name.no)
  numbered_by least None h = cc
  numbered_by least (Some f) h = let k = eqb-true f.count (name.no - 1) h in (f, refl, omega (arith, k, least))

  -- where the number is the next, the step of the thread is this one
  pub next_is : 1 ≤ name.no → world_of b.log ≡ world_view (history_world b.history) → is_numbered (frames_of (history_world b.history) name.thread) name.no ≡ true → (x : Moved) → step_answer b.log name.thread ≡ Ok x → x ≡ record { name = name; kind = x.kind }
  next_is least world h x a =
      let k = step_is_next b.log name.thread x a in
      let n = numbered_by least (frames_of (history_world b.history) name.thread) h in
      let there : frames_of (history_world b.history) name.thread ≡ Some k.0 = ap (λ (w : World). w.frames name.thread) (sym world) ∙ k.1 in
      let same : k.0 ≡ n.0 = same_Some k.0 n.0 (sym there ∙ n.1) in
      let no : k.0.count + 1 ≡ name.no = ap (λ (f : Frame). f.count + 1) same ∙ n.2 in
      ap (λ (m : StepName). let y : Moved = record { name = m; kind = x.kind } in y)
      (k.2 ∙ ap (λ (i : ℕ). let m : StepName = record { thread = name.thread; no = i } in m) no)
