-- Where the frames of a history stand: each in its setting's machine, as deep as its thread's name.
use Rattle.std.proofs.Common.{◌≡◌, ◌≤◌, ◌<◌, arith, ℕ, ◌+◌, cond, true, List, [], ◌∷◌, ◌++◌, length, length-append, zero, suc, refl, ap, sym, subst, ◌∙◌, Option, None, Some, Result, Ok, Err}
use Rattle.std.specs.Prelude.{IfSome, IsSome, option_map, option_and_then, is_some, slice_get}
use Rattle.std.specs.List.{AllByRecursion}
use Rattle.std.proofs.lemmas.Option.{same_Some}
use Rattle.json_tree.specs.Data.{Data}
use Rattle.json_tree.specs.View.{data_of}
use Rattle.json_tree.specs.declared.tree.Json.{Json}
use Rattle.attr_values.specs.declared.key.Key.{Key}
use Rattle.item_store.specs.Calls.{call_of}
use Rattle.item_store.specs.Table as table
use Rattle.item_store.specs.declared.access.AccessMode.{AccessMode}
use Rattle.item_store.specs.declared.call.Call as call
use Rattle.asl_errors.specs.declared.errors.ErrorHandling.{ErrorHandling}
use Rattle.asl_tree.specs.Complete.{state_of, IsStateName, StaysInside, IsWellFormed}
use Rattle.asl_tree.specs.Definition.{Definition}
use Rattle.asl_tree.specs.Find.{branch_of, machine_at}
use Rattle.asl_tree.specs.Levels.{IsWellFormedThroughout}
use Rattle.asl_tree.specs.declared.level.Level.{Level}
use Rattle.asl_tree.specs.declared.level.LevelStep.{LevelStep}
use Rattle.asl_tree.specs.declared.state.State.{State}
use Rattle.asl_tree.specs.declared.state.State.TheVariants as state
use Rattle.asl_states.specs.declared.state.Task.{Task}
use Rattle.asl_forward.specs.Forks.{branch_frame, parallel_frames, map_frames}
use Rattle.asl_forward.specs.Outcomes.{outcome_of_call, task_turn, parks, forks, fork_of, turn_of, turn, action_of}
use Rattle.asl_forward.specs.Results.{Work, state_work, after_join, after_answer, after_branch}
use Rattle.asl_forward.specs.Processing.{effective}
use Rattle.asl_frames.specs.Turn.{Location, located, first_frame}
use Rattle.asl_frames.specs.declared.frame.Fault.{Fault}
use Rattle.asl_frames.specs.declared.frame.Frame.{Frame}
use Rattle.asl_frames.specs.declared.frame.Phase.{Phase}
use Rattle.asl_frames.specs.declared.frame.Phase.TheVariants.{Ready, Parked, Done, Failed}
use Rattle.asl_forward.specs.declared.prepared.Outcome.{Outcome}
use Rattle.asl_forward.specs.declared.prepared.Outcome.TheVariants as outcome
use Rattle.asl_forward.proofs.Firsts.{located_parts, one_step_further, first_of, branches_all, OnBranches}
use Rattle.asl_forward.proofs.NextFrames.{OnFrame, turn-level, turn-state}
use Rattle.asl_forward.proofs.ResultFrames.{WorkStays, work_stays, after_answer-level, after_answer-state, after_join-level, after_join-state, after_branch-level, after_branch-state}
use Rattle.saved_steps.specs.FlatMap.{is_parked}
use Rattle.saved_steps.specs.Paths.{Path, rest_after}
use Rattle.saved_steps.proofs.Under.{whole_is}
use Rattle.step_names.specs.Thread.{Thread, execution}
use Rattle.step_names.proofs.OrderLaws.{thread_same}
use Rattle.saved_steps.specs.Effects.{Effect, next_step, own_effect, called, call_effect, effect_of_turn, kids, first_fault, outputs, join_effect, close_effect, effect_in, stands, frame_effect, move_effect, if_numbered, effect_of}
use Rattle.saved_steps.specs.Held.{world_view}
use Rattle.saved_steps.specs.Made.{is_unparked}
use Rattle.saved_steps.specs.Run.{begun_at, after_effect, take_step}
use Rattle.saved_steps.specs.Steps.{Step, started, moved, start_name, makes, closes}
use Rattle.saved_steps.specs.World.{Setting, World, is_same_thread}
use Rattle.saved_steps.specs.declared.fact.Fact.{Fact}
use Rattle.saved_steps.specs.declared.fact.Kind.TheVariants.{Start, Join}
use Rattle.saved_steps.proofs.Begun.{turn_told}
use Rattle.saved_steps.proofs.Turned.{Yields, turn_yields, answer_open, join_open, branch_open}
use Rattle.trace_theory.proofs.Base.{reached_from}
use Rattle.trace_theory.proofs.Lists.{by_bool}
use Rattle.trace_theory.proofs.Runs.{and_then_some, map_some, reached_good}
use Rattle.depends.specs.Instance.{steps}
use Rattle.depends.proofs.Planned.{numbered}
use Rattle.depends.proofs.Worlds.{effect_taken}
use Rattle.step_history.specs.History.{TakenStep, IsHistory}
use Rattle.step_history.specs.Levels.{HasWellFormedMachines}
use Rattle.step_history.specs.declared.history.History.{History}

-- a frame stands this deep in its setting's machine; where it is parked, its state works, and has branches that stand deeper
pub record Placed (s : Setting) (depth : ℕ) (f : Frame) : Type 0 where
  pub root : Definition
  pub known : s.machines f.level.machine ≡ Some root
  pub at : Location
  pub there : located root f ≡ Some at
  pub deep : length f.level.path ≡ depth
  pub works : is_parked f.phase ≡ true → is_some (state_work at.1) ≡ true
  pub over : (n bound : ℕ) → f.phase ≡ Parked n bound → 1 ≤ n → depth < 31

some_there : {A : Type 0} (o : Option A) → IsSome o → (a : A) × (o ≡ Some a)
some_there (Some a) h = (a, refl)
some_there None h = cc

if_there : {A : Type 0} (P : A → Type 0) (o : Option A) (a : A) → IfSome o P → o ≡ Some a → P a
if_there {A} P o a h e = subst (λ (x : Option A). IfSome x P) e h

module _ (s : Setting) (whole : HasWellFormedMachines s) where
  root_whole : (name : List ℕ) (root : Definition) → s.machines name ≡ Some root → IsWellFormedThroughout root
  root_whole name root e = if_there IsWellFormedThroughout (s.machines name) root (whole name) e

  module _ (depth : ℕ) (f : Frame) (p : Placed s depth f) where
    level_there : machine_at f.level.path p.root ≡ Some p.at.0
    level_there = (located_parts (machine_at f.level.path p.root) f.state p.at p.there).0

    state_there : state_of f.state p.at.0.states ≡ Some p.at.1
    state_there = (located_parts (machine_at f.level.path p.root) f.state p.at p.there).1

    level_whole : IsWellFormed p.at.0 × (length f.level.path ≤ 31)
    level_whole = if_there (λ (m : Definition). IsWellFormed m × (length f.level.path ≤ 31)) (machine_at f.level.path p.root) p.at.0 (root_whole f.level.machine p.root p.known f.level.path) level_there

    pub shallow : depth ≤ 31
    shallow = subst (λ (n : ℕ). n ≤ 31) p.deep level_whole.1

    inside : StaysInside p.at.0.states p.at.1
    inside = if_there (StaysInside p.at.0.states) (state_of f.state p.at.0.states) p.at.1 (level_whole.0.stays f.state) state_there

    here : IsStateName p.at.0.states f.state
    here = subst (λ (o : Option State). IsSome o) (sym state_there) refl

    pub stands_at : stands s f ≡ Some p.at
    stands_at = ap (option_and_then (λ d. located d f)) p.known ∙ p.there

    -- another frame of the level, before a state that is there
    module _ (g : Frame) (level : g.level ≡ f.level) (st : State) (found : state_of g.state p.at.0.states ≡ Some st) where
      known_again : s.machines g.level.machine ≡ Some p.root
      known_again = ap (λ (l : Level). s.machines l.machine) level ∙ p.known

      stands_again : located p.root g ≡ Some (p.at.0, st)
      stands_again =
          ap (option_and_then (λ m. option_map (λ x. (m, x)) (state_of g.state m.states))) (ap (λ (l : Level). machine_at l.path p.root) level ∙ level_there)
          ∙ ap (option_map (λ x. (p.at.0, x))) found

      deep_again : length g.level.path ≡ depth
      deep_again = ap (λ (l : Level). length l.path) level ∙ p.deep

    goes_on : (g : Frame) → g.level ≡ f.level → IsStateName p.at.0.states g.state → is_unparked g → Placed s depth g
    goes_on g level found free =
        let st = some_there (state_of g.state p.at.0.states) found in
        record {
          root = p.root;
          known = known_again g level st.0 st.1;
          at = (p.at.0, st.0);
          there = stands_again g level st.0 st.1;
          deep = deep_again g level st.0 st.1;
          works = λ h. let clash = sym free ∙ h in cc;
          over = λ n bound h k. let clash = sym free ∙ ap is_parked h in cc;
        }

    first_placed : (branch : ℕ) (d : Definition) (input : Data) → branch_of branch p.at.1 ≡ Some d → Placed s (depth + 1) (branch_frame f d branch input)
    first_placed branch d input is =
        let step : LevelStep = record { state = f.state; branch = branch } in
        let further = one_step_further f.level.path step p.root p.at.0 d p.at.1 level_there state_there is in
        let complete = if_there (λ (m : Definition). IsWellFormed m × (length (f.level.path ++ step ∷ []) ≤ 31)) (machine_at (f.level.path ++ step ∷ []) p.root) d
        (root_whole f.level.machine p.root p.known (f.level.path ++ step ∷ [])) further in
        let first = first_of p.root p.at f d branch input p.there is complete.0.starts in
        record {
          root = p.root;
          known = p.known;
          at = first.at;
          there = first.stands;
          deep = length-append f.level.path (step ∷ []) ∙ ap (λ (n : ℕ). n + 1) p.deep;
          works = λ h. cc;
          over = λ n bound h k. cc;
        }

    branches_placed : OnBranches (Placed s (depth + 1)) (turn_of p.at.0 p.at.1 f)
    branches_placed = branches_all (Placed s (depth + 1)) p.at.0 p.at.1 f first_placed

-- ---- forks

-- a turn that forks parks its frame over as many branches as begin, and its state works
abbrev pub IsForked : State → Frame → Outcome → Type 0
IsForked st f (outcome.Next g) = Unit {0}
IsForked st f (outcome.Call c) = is_some (state_work st) ≡ true
IsForked st f (outcome.Fork g fs) = (bound : ℕ) × (g ≡ parks f (length fs) bound) × (is_some (state_work st) ≡ true)

forks_so : (level : Definition) (st : State) (errors : ErrorHandling) (f : Frame) (bound : ℕ) (fs : Result (List Frame) (List ℕ)) → is_some (state_work st) ≡ true → IsForked st f (forks level errors f bound fs)
forks_so level st errors f bound (Ok fs) h = (bound, refl, h)
forks_so level st errors f bound (Err error) h = tt

asks_so : (level : Definition) (st : Task) (f : Frame) (c : Option call.Call) → IsForked (state.Task st) f (outcome_of_call level st f c)
asks_so level st f (Some c) = refl
asks_so level st f None = tt

task_so : (level : Definition) (st : Task) (f : Frame) (worked : Result Data (List ℕ)) → IsForked (state.Task st) f (task_turn level st f worked)
task_so level st f (Ok input) = asks_so level st f (call_of (action_of st.resource) input)
task_so level st f (Err error) = tt

pub turn_so : (level : Definition) (st : State) (f : Frame) → IsForked st f (turn_of level st f)
turn_so level (state.Task st) f = task_so level st f (effective st.processing (data_of f.raw))
turn_so level (state.Parallel st) f = forks_so level (state.Parallel st) st.errors f 0 (fork_of (parallel_frames st) f (effective st.processing (data_of f.raw))) refl
turn_so level (state.Map st) f = forks_so level (state.Map st) st.errors f st.max_concurrency (fork_of (map_frames st) f (effective st.processing (data_of f.raw))) refl
turn_so level (state.Pass st) f = tt
turn_so level (state.Choice st) f = tt
turn_so level (state.Wait st) f = tt
turn_so level (state.Succeed st) f = tt
turn_so level (state.Fail st) f = tt

-- ---- effects

-- a thread's frame after an effect is placed as its thread's was, and its branches one level deeper
pub record PlacedAt (s : Setting) (t : Thread) (d : Effect) : Type 0 where
  pub own : d.fact.name.thread ≡ t
  pub frame : Placed s (length t.path) d.frame
  pub branches : AllByRecursion (Placed s (length t.path + 1)) d.branches

abbrev AllPlaced : Setting → World → Type 0
AllPlaced s w = (t : Thread) (f : Frame) → w.frames t ≡ Some f → Placed s (length t.path) f

module _ (s : Setting) (whole : HasWellFormedMachines s) (w : World) (t : Thread) (f : Frame) (p : Placed s (length t.path) f) where
  called_placed : (g : Frame) (items : table.Table) (access : Option (Key × AccessMode)) → Placed s (length t.path) g → PlacedAt s t (called (next_step t f) g items access)
  called_placed g items None h = record { own = refl; frame = h; branches = tt }
  called_placed g items (Some (key, mode)) h = record { own = refl; frame = h; branches = tt }

  some_room : (fs : List Frame) → AllByRecursion (Placed s (length t.path + 1)) fs → 1 ≤ length fs → length t.path < 31
  some_room [] all h = absurd (omega (arith, h))
  some_room (g ∷ fs) all h = let e = shallow s whole (length t.path + 1) g all.0 in omega (arith, e)

  parked_placed : (fs : List Frame) (bound : ℕ) → AllByRecursion (Placed s (length t.path + 1)) fs → is_some (state_work p.at.1) ≡ true → Placed s (length t.path) (parks f (length fs) bound)
  parked_placed fs bound all works = record {
    root = p.root;
    known = p.known;
    at = p.at;
    there = p.there;
    deep = p.deep;
    works = λ h. works;
    over = λ n m h k. let e : Parked (length fs) bound ≡ Parked n m = h in let same : length fs ≡ n = cc in some_room fs all (omega (arith, k, same));
  }

  turn_placed : (o : Outcome) (d : Effect) → OnFrame (λ g. g.level ≡ f.level) o → OnFrame (λ g. IsStateName p.at.0.states g.state) o → OnBranches (Placed s (length t.path + 1)) o → Yields f o → IsForked p.at.1 f o
      → effect_of_turn s w (next_step t f) p.at f o ≡ Some d → PlacedAt s t d
  turn_placed (outcome.Next g) d level found branches free so h =
      subst (PlacedAt s t) (same_Some _ _ h) (record { own = refl; frame = goes_on s whole (length t.path) f p g level found free; branches = tt })
  turn_placed (outcome.Fork g fs) d level found branches free so h =
      subst (PlacedAt s t) (same_Some _ _ h)
      (record { own = refl; frame = subst (Placed s (length t.path)) (sym so.1) (parked_placed fs so.0 branches so.2); branches = branches })
  turn_placed (outcome.Call c) d level found branches free so h =
      let m = map_some (λ (work : Work). call_effect (next_step t f) p.at.0 work f (table.in_form s.table s.schema w.items c)) (state_work p.at.1) d h in
      let o = table.in_form s.table s.schema w.items c in
      let stays : WorkStays p.at.0.states m.0 = work_stays p.at.0.states p.at.1 m.0 (inside s whole (length t.path) f p) m.1 in
      subst (PlacedAt s t) m.2
      (called_placed (after_answer p.at.0 m.0 f o.answer) o.items o.access
      (goes_on s whole (length t.path) f p (after_answer p.at.0 m.0 f o.answer) (after_answer-level p.at.0 m.0 f o.answer)
      (after_answer-state p.at.0 m.0 f o.answer stays (here s whole (length t.path) f p)) (answer_open p.at.0 m.0 f o.answer)))

  close_placed : (fault : Option Fault) (all : Option (List Data)) (d : Effect) → close_effect (next_step t f) p.at f fault all ≡ Some d → PlacedAt s t d
  close_placed (Some fault) all d h =
      subst (PlacedAt s t) (same_Some _ _ h)
      (record {
        own = refl;
        frame = goes_on s whole (length t.path) f p (after_branch p.at f fault) (after_branch-level p.at f fault)
            (after_branch-state p.at f fault (inside s whole (length t.path) f p) (here s whole (length t.path) f p)) (branch_open p.at f fault);
        branches = tt;
      })
  close_placed None all d h =
      let j = and_then_some (join_effect (next_step t f) p.at f) all d h in
      let m = map_some (λ (work : Work). own_effect Join (next_step t f) (after_join p.at.0 work f j.0)) (state_work p.at.1) d j.2 in
      let stays : WorkStays p.at.0.states m.0 = work_stays p.at.0.states p.at.1 m.0 (inside s whole (length t.path) f p) m.1 in
      subst (PlacedAt s t) m.2
      (record {
        own = refl;
        frame = goes_on s whole (length t.path) f p (after_join p.at.0 m.0 f j.0) (after_join-level p.at.0 m.0 f j.0)
            (after_join-state p.at.0 m.0 f j.0 stays (here s whole (length t.path) f p)) (join_open p.at.0 m.0 f j.0);
        branches = tt;
      })

  phase_placed : (phase : Phase) (d : Effect) → effect_in s w t p.at f phase ≡ Some d → PlacedAt s t d
  phase_placed Ready d h =
      let k = turn_told w.frames t f (effect_of_turn s w (next_step t f) p.at f (turn p.at f)) d h in
      let it = turn_placed (turn p.at f) k.effect_of (turn-level p.at f) (turn-state p.at f (inside s whole (length t.path) f p) (here s whole (length t.path) f p)) (branches_placed s whole (length t.path) f p)
      (turn_yields p.at.0 p.at.1 f) (turn_so p.at.0 p.at.1 f) k.is in
      subst (PlacedAt s t) k.told (record { own = it.own; frame = it.frame; branches = it.branches })
  phase_placed (Parked n bound) d h = close_placed (first_fault (kids w t f n)) (outputs (kids w t f n)) d h
  phase_placed (Done output) d h = cc
  phase_placed (Failed fault) d h = cc

  pub frame_placed : (d : Effect) → frame_effect s w t f ≡ Some d → PlacedAt s t d
  frame_placed d h = phase_placed f.phase d (ap (option_and_then (λ (at : Location). effect_in s w t at f f.phase)) (sym (stands_at s whole (length t.path) f p)) ∙ h)

-- ---- steps and runs

module _ (s : Setting) (whole : HasWellFormedMachines s) where
  unless_there : {A : Type 0} (b : Option A) (o : Option Effect) (d : Effect) → cond (is_some b) None o ≡ Some d → o ≡ Some d
  unless_there None o d h = h
  unless_there (Some x) o d h = cc

  start_placed : (machine : List ℕ) (m : Definition) (input : Json) → s.machines machine ≡ Some m → Placed s 0 (first_frame machine m input)
  start_placed machine m input known =
      let st = some_there (state_of m.start m.states) ((root_whole s whole machine m known []).0.starts) in
      record {
        root = m;
        known = known;
        at = (m, st.0);
        there = ap (option_map (λ (x : State). (m, x))) st.1;
        deep = refl;
        works = λ h. cc;
        over = λ n bound h k. cc;
      }

  step_placed : (w : World) (step : Step) (d : Effect) → AllPlaced s w → effect_of s w step ≡ Some d → PlacedAt s d.fact.name.thread d
  step_placed w (started exec machine input) d all h =
      let k = unless_there (w.frames (execution exec)) (option_map (λ (m : Definition). own_effect Start (start_name exec) (first_frame machine m input)) (s.machines machine)) d h in
      let m = map_some (λ (m : Definition). own_effect Start (start_name exec) (first_frame machine m input)) (s.machines machine) d k in
      subst (λ (e : Effect). PlacedAt s e.fact.name.thread e) m.2 (record { own = refl; frame = start_placed machine m.0 input m.1; branches = tt })
  step_placed w (moved name) d all h =
      let k = and_then_some (if_numbered name.no) (move_effect s w name.thread) d h in
      let n = numbered k.0 d name.no k.2 in
      let f = and_then_some (frame_effect s w name.thread) (w.frames name.thread) k.0 k.1 in
      let it = frame_placed s whole w name.thread f.0 (all name.thread f.0 f.1) k.0 f.2 in
      subst (λ (e : Effect). PlacedAt s e.fact.name.thread e) n.1 (subst (λ (t : Thread). PlacedAt s t k.0) (sym it.own) it)

  one_deeper : (p q : Path) (b : ℕ × ℕ) → rest_after p q ≡ Some (b ∷ []) → length p + 1 ≡ length q
  one_deeper p q b h = sym (length-append p (b ∷ [])) ∙ ap (λ (x : Path). length x) (sym (whole_is p q (b ∷ []) h))

  branch_in : (P : Frame → Type 0) (fs : List Frame) (i : ℕ) (f : Frame) → AllByRecursion P fs → slice_get fs i ≡ Some f → P f
  branch_in P [] i f all h = cc
  branch_in P (g ∷ fs) zero f all h = subst P (same_Some g f h) all.0
  branch_in P (g ∷ fs) (suc i) f all h = branch_in P fs i f all.1 h

  begun_placed : (p q : Path) (branches : List Frame) (o : Option Path) (f : Frame) → AllByRecursion (Placed s (length p + 1)) branches → rest_after p q ≡ o → begun_at branches o ≡ Some f → Placed s (length q) f
  begun_placed p q branches (Some ((k, i) ∷ [])) f all e h =
      subst (λ (n : ℕ). Placed s n f) (one_deeper p q (k, i) e) (branch_in (Placed s (length p + 1)) branches i f all h)
  begun_placed p q branches (Some ((k, i) ∷ b ∷ r)) f all e h = cc
  begun_placed p q branches (Some []) f all e h = cc
  begun_placed p q branches None f all e h = cc

  after_placed : (w : World) (d : Effect) → AllPlaced s w → PlacedAt s d.fact.name.thread d → AllPlaced s (after_effect w d)
  after_placed w d all it t f there =
      by_bool (is_same_thread d.fact.name.thread t) (Placed s (length t.path) f)
      (λ j. subst (Placed s (length t.path)) (same_Some d.frame f (rw j at there)) (subst (λ (u : Thread). Placed s (length u.path) d.frame) (thread_same d.fact.name.thread t j) it.frame))
      (λ j. by_bool (makes d.fact t) (Placed s (length t.path) f)
      (λ i. begun_placed d.fact.name.thread.path t.path d.branches (rest_after d.fact.name.thread.path t.path) f it.branches refl (rw (j, i) at there))
      (λ i. by_bool (closes d.fact t) (Placed s (length t.path) f)
      (λ l. let none = rw (j, i, l) at there in cc)
      (λ l. all t f (rw (j, i, l) at there))))

  kept_placed : (w v : World) (step : Step) (fact : Fact) → AllPlaced s w → take_step s w step ≡ Some (v, fact) → AllPlaced s v
  kept_placed w v step fact all h =
      let k = effect_taken s w v step fact h in
      subst (AllPlaced s) k.2 (after_placed w k.0 all (step_placed w step k.0 all k.1))

  pub placed : (base : World) (ts : List TakenStep) (h : History) → IsHistory s base ts h → AllPlaced s (world_view h.world)
  placed base ts h is =
      reached_good (steps s) (AllPlaced s) is.from.0 (λ t f k. let n = sym (is.from.1 t) ∙ k in cc) kept_placed (world_view h.world) (reached_from (steps s) is.from.0 base is.from.2 (world_view h.world) (ts, is.runs))
