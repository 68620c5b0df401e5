-- The frames with which a fork's branches begin: each is ready, has made no move, and stands before the first state of its
-- branch, with a counter for each retrier.
use Rattle.std.proofs.Common.{◌≡◌, ℕ, suc, ◌+◌, nat_le, Bool, true, false, if◌then◌else◌, codes, List, [], ◌∷◌, ◌++◌, length, replicate, IsSome, Option, Some, None, Result, Ok, Err, option_map, option_and_then, slice_get, refl, ap, subst, sym, ◌∙◌, arith}
use Rattle.std.specs.List.{AllByRecursion}
use Rattle.json_tree.specs.Data.{Data}
use Rattle.json_tree.specs.View.{data_of}
use Rattle.asl_frames.specs.Complete.{state_of, IsStateName}
use Rattle.asl_frames.specs.Definition.{Definition}
use Rattle.asl_frames.specs.Find.{branch_of, machine_at}
use Rattle.asl_frames.specs.LevelStep.{LevelStep}
use Rattle.asl_frames.specs.Map.{Map}
use Rattle.asl_frames.specs.Parallel.{Parallel}
use Rattle.asl_frames.specs.State.{State}
use Rattle.asl_frames.specs.State.TheVariants as state
use Rattle.item_store.specs.Calls.{call_of}
use Rattle.item_store.specs.declared.call.Call.{Call}
use Rattle.asl_forward.specs.Forks.{branch_frame, with_others, begins_branch, frames_from, parallel_frames, elements, element_input, element_frames, counted_frames, map_frames}
use Rattle.asl_forward.specs.Outcomes.{outcome_of_call, task_turn, forks, fork_of, turn, turn_of, action_of}
use Rattle.asl_processing.specs.Processing.{within_levels, effective}
use Rattle.asl_frames.specs.Turn.{Location, located, counters_of, retriers_of}
use Rattle.asl_frames.specs.declared.frame.Frame.{Frame}
use Rattle.asl_frames.specs.declared.frame.Phase.TheVariants.{Ready}
use Rattle.asl_forward.specs.declared.prepared.Outcome.{Outcome}
use Rattle.asl_forward.specs.declared.prepared.Outcome.TheVariants as outcome

-- ---- what stands

-- a frame stands where its level's path leads, before the state of its name there
pub located_parts : (o : Option Definition) (name : List ℕ) (at : Location) → option_and_then (λ level. option_map (λ s. (level, s)) (state_of name level.states)) o ≡ Some at
    → (o ≡ Some at.0) × (state_of name at.0.states ≡ Some at.1)
located_parts None name at h = cc h
located_parts (Some level) name at h = on_state (state_of name level.states) refl h
  where
    on_state : (o : Option State) → state_of name level.states ≡ o → option_map (λ s. (level, s)) o ≡ Some at → (Some level ≡ Some at.0) × (state_of name at.0.states ≡ Some at.1)
    on_state None is k = cc k
    on_state (Some s) is k =
        let same : ◌≡◌ {A = Location} (level, s) at = cc k in
        subst (λ (a : Location). (Some level ≡ Some a.0) × (state_of name a.0.states ≡ Some a.1)) same (refl, is)

-- the machine that a path leads to with one more step
pub one_step_further : (path : List LevelStep) (step : LevelStep) (machine m d : Definition) (s : State) → machine_at path machine ≡ Some m → state_of step.state m.states ≡ Some s
    → branch_of step.branch s ≡ Some d → machine_at (path ++ step ∷ []) machine ≡ Some d
one_step_further [] step machine m d s h there is =
    let same : machine ≡ m = cc h in
    subst (λ (n : Definition). machine_at (step ∷ []) n ≡ Some d) (sym same)
    (ap (option_and_then (λ t. option_and_then (machine_at []) (branch_of step.branch t))) there ∙ ap (option_and_then (machine_at [])) is)
one_step_further (p ∷ path) step machine m d s h there is = on_state (state_of p.state machine.states) h (λ b k. one_step_further path step b m d s k there is)
  where
    on_branch : (o : Option Definition) → option_and_then (machine_at path) o ≡ Some m → ((b : Definition) → machine_at path b ≡ Some m → machine_at (path ++ step ∷ []) b ≡ Some d)
        → option_and_then (machine_at (path ++ step ∷ [])) o ≡ Some d
    on_branch None k rest = cc k
    on_branch (Some b) k rest = rest b k

    on_state : (o : Option State) → option_and_then (λ t. option_and_then (machine_at path) (branch_of p.branch t)) o ≡ Some m
        → ((b : Definition) → machine_at path b ≡ Some m → machine_at (path ++ step ∷ []) b ≡ Some d)
        → option_and_then (λ t. option_and_then (machine_at (path ++ step ∷ [])) (branch_of p.branch t)) o ≡ Some d
    on_state None k rest = cc k
    on_state (Some t) k rest = on_branch (branch_of p.branch t) k rest

-- ---- first frames

pub record IsFirst (machine : Definition) (g : Frame) : Type 0 where
  pub ready : g.phase ≡ Ready
  pub unmoved : g.count ≡ 0
  pub at : Location
  pub stands : located machine g ≡ Some at
  pub counters : g.retries ≡ replicate (length (retriers_of at.1)) 0

-- each branch of a state starts at a state that it has
abbrev pub BranchesStart : State → Type 0
BranchesStart s = (branch : ℕ) (d : Definition) → branch_of branch s ≡ Some d → IsStateName d.states d.start

pub first_of : (machine : Definition) (at : Location) (f : Frame) (d : Definition) (branch : ℕ) (input : Data) → located machine f ≡ Some at → branch_of branch at.1 ≡ Some d
    → IsStateName d.states d.start → IsFirst machine (branch_frame f d branch input)
first_of machine at f d branch input stands is starts = on_start (state_of d.start d.states) refl starts
  where
    there : machine_at (branch_frame f d branch input).level.path machine ≡ Some d
    there =
        let parts = located_parts (machine_at f.level.path machine) f.state at stands in
        one_step_further f.level.path (record { state = f.state; branch = branch }) machine at.0 d at.1 parts.0 parts.1 is

    on_start : (o : Option State) → state_of d.start d.states ≡ o → IsSome o → IsFirst machine (branch_frame f d branch input)
    on_start None e k = cc k
    on_start (Some s) e k = record {
      ready = refl;
      unmoved = refl;
      at = (d, s);
      stands = ap (option_and_then (λ level. option_map (λ t. (level, t)) (state_of d.start level.states))) there ∙ ap (option_map (λ t. (d, t))) e;
      counters = ap counters_of e;
    }

-- ---- all of a fork

-- P of each branch's frame, where it is so of the frame of each branch
frames_all : (P : Frame → Type 0) (f : Frame) (n : ℕ) (ds : List Definition) (input : Data) (fs : List Frame)
    → ((place branch : ℕ) → branch ≡ n + place → (d : Definition) (j : Data) → slice_get ds place ≡ Some d → P (branch_frame f d branch j)) → frames_from f n ds input ≡ Ok fs → AllByRecursion P fs
frames_all P f n [] input fs all h =
    let same : ◌≡◌ {A = List Frame} [] fs = cc h in
    subst (AllByRecursion P) same tt
frames_all P f n (d ∷ ds) input fs all h =
    on_input (within_levels input) h (λ gs k. frames_all P f (n + 1) ds input gs (λ place branch e. all (suc place) branch (omega (arith, e))) k)
  where
    on_others : (j : Data) (o : Result (List Frame) (List ℕ)) → frames_from f (n + 1) ds input ≡ o → with_others o (Ok (branch_frame f d n j)) ≡ Ok fs
        → ((gs : List Frame) → frames_from f (n + 1) ds input ≡ Ok gs → AllByRecursion P gs) → AllByRecursion P fs
    on_others j (Err error) e k rest = cc k
    on_others j (Ok gs) e k rest =
        let same : ◌≡◌ {A = List Frame} (branch_frame f d n j ∷ gs) fs = cc k in
        subst (AllByRecursion P) same (all 0 n (omega arith) d j refl, rest gs e)

    on_input : (o : Result Data (List ℕ)) → with_others (frames_from f (n + 1) ds input) (begins_branch f d n o) ≡ Ok fs
        → ((gs : List Frame) → frames_from f (n + 1) ds input ≡ Ok gs → AllByRecursion P gs) → AllByRecursion P fs
    on_input (Err error) k rest = cc k
    on_input (Ok j) k rest = on_others j (frames_from f (n + 1) ds input) refl k rest

elements_all : (P : Frame → Type 0) (s : Map) (f : Frame) (input : Data) (n : ℕ) (xs : List Data) (fs : List Frame) → ((j : Data) → P (branch_frame f s.processor 0 j))
    → element_frames s f input n xs ≡ Ok fs → AllByRecursion P fs
elements_all P s f input n [] fs all h =
    let same : ◌≡◌ {A = List Frame} [] fs = cc h in
    subst (AllByRecursion P) same tt
elements_all P s f input n (x ∷ xs) fs all h = on_input (element_input s.item_selector input n x) h (λ gs k. elements_all P s f input (n + 1) xs gs all k)
  where
    on_others : (j : Data) (o : Result (List Frame) (List ℕ)) → element_frames s f input (n + 1) xs ≡ o → with_others o (Ok (branch_frame f s.processor 0 j)) ≡ Ok fs
        → ((gs : List Frame) → element_frames s f input (n + 1) xs ≡ Ok gs → AllByRecursion P gs) → AllByRecursion P fs
    on_others j (Err error) e k rest = cc k
    on_others j (Ok gs) e k rest =
        let same : ◌≡◌ {A = List Frame} (branch_frame f s.processor 0 j ∷ gs) fs = cc k in
        subst (AllByRecursion P) same (all j, rest gs e)

    on_input : (o : Result Data (List ℕ)) → with_others (element_frames s f input (n + 1) xs) (begins_branch f s.processor 0 o) ≡ Ok fs
        → ((gs : List Frame) → element_frames s f input (n + 1) xs ≡ Ok gs → AllByRecursion P gs) → AllByRecursion P fs
    on_input (Err error) k rest = cc k
    on_input (Ok j) k rest = on_others j (element_frames s f input (n + 1) xs) refl k rest

-- P of each frame with which a branch begins
abbrev pub OnBranches : (Frame → Type 0) → Outcome → Type 0
OnBranches P (outcome.Next g) = Unit {0}
OnBranches P (outcome.Call c) = Unit {0}
OnBranches P (outcome.Fork g fs) = AllByRecursion P fs

parallel_all : (P : Frame → Type 0) (s : Parallel) (f : Frame) (o : Result Data (List ℕ)) (fs : List Frame)
    → ((branch : ℕ) (d : Definition) (j : Data) → slice_get s.branches branch ≡ Some d → P (branch_frame f d branch j)) → fork_of (parallel_frames s) f o ≡ Ok fs → AllByRecursion P fs
parallel_all P s f (Err error) fs all h = cc h
parallel_all P s f (Ok input) fs all h =
    frames_all P f 0 s.branches input fs (λ place branch e d j is. all branch d j (subst (λ (n : ℕ). slice_get s.branches n ≡ Some d) (omega (arith, e)) is)) h

map_all : (P : Frame → Type 0) (s : Map) (f : Frame) (o : Result Data (List ℕ)) (fs : List Frame) → ((j : Data) → P (branch_frame f s.processor 0 j)) → fork_of (map_frames s) f o ≡ Ok fs → AllByRecursion P fs
map_all P s f (Err error) fs all h = cc h
map_all P s f (Ok input) fs all h = on_elements (elements s.items_path input) h
  where
    on_count : (b : Bool) (xs : List Data) → (if b then element_frames s f input 0 xs else Err (codes "States.Runtime")) ≡ Ok fs → AllByRecursion P fs
    on_count true xs k = elements_all P s f input 0 xs fs all k
    on_count false xs k = cc k

    on_elements : (o : Result (List Data) (List ℕ)) → counted_frames s f input o ≡ Ok fs → AllByRecursion P fs
    on_elements (Err error) k = cc k
    on_elements (Ok xs) k = on_count (nat_le (length xs) 4096) xs k

-- P of each branch's frame, where it is so of the frame with which each branch of the state begins
pub branches_all : (P : Frame → Type 0) (level : Definition) (s : State) (f : Frame) → ((branch : ℕ) (d : Definition) (j : Data) → branch_of branch s ≡ Some d → P (branch_frame f d branch j))
    → OnBranches P (turn_of level s f)
branches_all P level (state.Pass s) f all = tt
branches_all P level (state.Choice s) f all = tt
branches_all P level (state.Wait s) f all = tt
branches_all P level (state.Succeed s) f all = tt
branches_all P level (state.Fail s) f all = tt
branches_all P level (state.Task s) f all = on_input (effective s.processing (data_of f.raw))
  where
    on_call : (o : Option Call) → OnBranches P (outcome_of_call level s f o)
    on_call (Some c) = tt
    on_call None = tt

    on_input : (o : Result Data (List ℕ)) → OnBranches P (task_turn level s f o)
    on_input (Ok input) = on_call (call_of (action_of s.resource) input)
    on_input (Err error) = tt
branches_all P level (state.Parallel s) f all = on_frames (fork_of (parallel_frames s) f (effective s.processing (data_of f.raw))) refl
  where
    on_frames : (o : Result (List Frame) (List ℕ)) → fork_of (parallel_frames s) f (effective s.processing (data_of f.raw)) ≡ o → OnBranches P (forks level s.errors f 0 o)
    on_frames (Err error) is = tt
    on_frames (Ok fs) is = parallel_all P s f (effective s.processing (data_of f.raw)) fs all is
branches_all P level (state.Map s) f all = on_frames (fork_of (map_frames s) f (effective s.processing (data_of f.raw))) refl
  where
    on_frames : (o : Result (List Frame) (List ℕ)) → fork_of (map_frames s) f (effective s.processing (data_of f.raw)) ≡ o → OnBranches P (forks level s.errors f s.max_concurrency o)
    on_frames (Err error) is = tt
    on_frames (Ok fs) is = map_all P s f (effective s.processing (data_of f.raw)) fs (λ j. all 0 s.processor j refl) is

pub turn-branches : (machine : Definition) (at : Location) (f : Frame) → located machine f ≡ Some at → BranchesStart at.1 → OnBranches (IsFirst machine) (turn at f)
turn-branches machine at f stands start = branches_all (IsFirst machine) at.0 at.1 f (λ branch d j there. first_of machine at f d branch j stands there (start branch d there))
