-- A definition is one machine at most.
use Rattle.std.proofs.Common.{◌≡◌, ℕ, zero, suc, List, [], ◌∷◌, ◌++◌, Option, Some, None, false, refl, sym, ap, subst, ◌∙◌, codes, option_and_then}
use Rattle.std.specs.BTreeMap.{insert_entry}
use Rattle.std.specs.Cmp.Lexicographic.{slice_cmp}
use Rattle.std.specs.Ordering.{nat_cmp}
use Rattle.serde_json.specs.Data.{Data as Source, Items, no_items, item, Members, no_members, member}
use Rattle.serde_json.specs.Find.{get, as_array}
use Rattle.ref_paths.specs.Templates.{Payload}
use Rattle.ref_paths.specs.declared.path.PathStep.{PathStep}
use Rattle.asl_fields.proofs.OneField.{one_path, one_template}
use Rattle.asl_fields.specs.declared.fields.Place.{Place}
use Rattle.asl_fields.specs.declared.fields.Place.TheVariants as at
use Rattle.asl_states.specs.ErrorHandling.{ErrorHandling}
use Rattle.asl_tree.specs.Definition.{StateTree, Definition}
use Rattle.asl_states.specs.Profile.{IsPass, IsWait, IsSucceed, IsFail, IsTask, IsChoice}
use Rattle.asl_machine.specs.Profile.{BranchesAre, ListedBranches, IsParallel, IsProcessor, NamedProcessor, IsMap, IsPassState, IsWaitState, IsSucceedState, IsFailState, IsTaskState, IsChoiceState, IsParallelState, IsMapState, IsOfKind, state_kind_of, IsStateText, StatesAre, MembersAre, states_field, MachineOver, StatesWithin, Defines}
use Rattle.asl_states.specs.Reading.{name_of_two}
use Rattle.asl_tree.specs.TreeView.{tree_of}
use Rattle.asl_states.specs.declared.kind.StateKind.{StateKind}
use Rattle.asl_states.specs.declared.kind.StateKind.TheVariants as kind
use Rattle.asl_states.specs.declared.state.Choice.{Choice}
use Rattle.asl_states.specs.declared.state.Fail.{Fail}
use Rattle.asl_tree.specs.declared.state.Map.{Map}
use Rattle.asl_tree.specs.declared.state.Parallel.{Parallel}
use Rattle.asl_states.specs.declared.state.Pass.{Pass}
use Rattle.asl_states.specs.declared.state.Processing.{Processing}
use Rattle.asl_tree.specs.declared.state.State.{State}
use Rattle.asl_tree.specs.declared.state.State.TheVariants.{Pass as PassState, Task as TaskState, Choice as ChoiceState, Wait as WaitState, Succeed as SucceedState, Fail as FailState, Parallel as ParallelState, Map as MapState}
use Rattle.asl_states.specs.declared.state.Succeed.{Succeed}
use Rattle.asl_states.specs.declared.state.Task.{Task}
use Rattle.asl_states.specs.declared.state.Transition.{Transition}
use Rattle.asl_states.specs.declared.state.Wait.{Wait}
use Rattle.asl_states.proofs.OneState.{one_work, one_pass, one_succeed, one_wait, one_fail, one_task, one_choice, one_selector}

pub is_pass : (d : Source) (s : State) → IsPassState d s → (p : Pass) × (s ≡ PassState p) × IsPass d p
is_pass d (PassState p) h = (p, refl, h)
is_pass d _ h = absurd h

pub is_succeed : (d : Source) (s : State) → IsSucceedState d s → (p : Succeed) × (s ≡ SucceedState p) × IsSucceed d p
is_succeed d (SucceedState p) h = (p, refl, h)
is_succeed d _ h = absurd h

pub is_wait : (d : Source) (s : State) → IsWaitState d s → (p : Wait) × (s ≡ WaitState p) × IsWait d p
is_wait d (WaitState p) h = (p, refl, h)
is_wait d _ h = absurd h

pub is_fail : (d : Source) (s : State) → IsFailState d s → (p : Fail) × (s ≡ FailState p) × IsFail d p
is_fail d (FailState p) h = (p, refl, h)
is_fail d _ h = absurd h

pub is_choice : (d : Source) (s : State) → IsChoiceState d s → (p : Choice) × (s ≡ ChoiceState p) × IsChoice d p
is_choice d (ChoiceState p) h = (p, refl, h)
is_choice d _ h = absurd h

pub is_task : (d : Source) (s : State) → IsTaskState d s → (p : Task) × (s ≡ TaskState p) × IsTask d p
is_task d (TaskState p) h = (p, refl, h)
is_task d _ h = absurd h

pub is_parallel : (P : Place → Source → Definition → Type 0) (d : Source) (s : State) → IsParallelState P d s → (p : Parallel) × (s ≡ ParallelState p) × IsParallel P d p
is_parallel P d (ParallelState p) h = (p, refl, h)
is_parallel P d _ h = absurd h

pub is_map : (P : Place → Source → Definition → Type 0) (d : Source) (s : State) → IsMapState P d s → (p : Map) × (s ≡ MapState p) × IsMap P d p
is_map P d (MapState p) h = (p, refl, h)
is_map P d _ h = absurd h

-- ---- where an object is one machine at most

abbrev pub IsOne : (Place → Source → Definition → Type 0) → Type 0
IsOne P = (place : Place) (d : Source) (m n : Definition) → P place d m → P place d n → m ≡ n

one_branches : (P : Place → Source → Definition → Type 0) → IsOne P → (ds : Items) (before ms ns : List Definition) → BranchesAre P ds before ms → BranchesAre P ds before ns → ms ≡ ns
one_branches P one no_items before ms ns h k = h ∙ sym k
one_branches P one (item d ds) before ms ns h k =
    let same : k.0 ≡ h.0 = one at.Branch d k.0 h.0 k.1 h.1 in
    one_branches P one ds (before ++ h.0 ∷ []) ms ns h.2 (subst (λ (m : Definition). BranchesAre P ds (before ++ m ∷ []) ns) same k.2)

one_list : (P : Place → Source → Definition → Type 0) → IsOne P → (ds : Option Items) (ms ns : List Definition) → ListedBranches P ds ms → ListedBranches P ds ns → ms ≡ ns
one_list P one None ms ns h k = absurd h
one_list P one (Some ds) ms ns h k = one_branches P one ds [] ms ns h.0 k.0

one_parallel : (P : Place → Source → Definition → Type 0) → IsOne P → (d : Source) (s u : Parallel) → IsParallel P d s → IsParallel P d u → s ≡ u
one_parallel P one d s u h k =
    let parameters : s.processing.parameters ≡ u.processing.parameters = one_template false (get (codes "Parameters") d) s.processing.parameters u.processing.parameters h.1 k.1 in
    let work = one_work d s.processing u.processing s.errors u.errors s.transition u.transition parameters h.2 k.2 in
    let branches : s.branches ≡ u.branches = one_list P one (option_and_then as_array (get (codes "Branches") d)) s.branches u.branches h.3 k.3 in
    let make : List Definition → Processing → ErrorHandling → Transition → Parallel = λ b p e t. record { branches = b; processing = p; errors = e; transition = t } in
    ap (λ b. make b s.processing s.errors s.transition) branches ∙ ap (λ p. make u.branches p s.errors s.transition) work.0
    ∙ ap (λ e. make u.branches u.processing e s.transition) work.1 ∙ ap (λ t. make u.branches u.processing u.errors t) work.2

one_processor : (P : Place → Source → Definition → Type 0) → IsOne P → (d : Option Source) (m n : Definition) → IsProcessor P d m → IsProcessor P d n → m ≡ n
one_processor P one None m n h k = absurd h
one_processor P one (Some d) m n h k = one at.Processor d m n h.1 k.1

one_named_processor : (P : Place → Source → Definition → Type 0) → IsOne P → (d : Source) (name : Option (List ℕ)) (m n : Definition) → NamedProcessor P d name m → NamedProcessor P d name n → m ≡ n
one_named_processor P one d None m n h k = absurd h
one_named_processor P one d (Some name) m n h k = one_processor P one (get name d) m n h k

one_map : (P : Place → Source → Definition → Type 0) → IsOne P → (d : Source) (s u : Map) → IsMap P d s → IsMap P d u → s ≡ u
one_map P one d s u h k =
    let paths : Some s.items_path ≡ Some u.items_path = one_path (get (codes "ItemsPath") d) (Some s.items_path) (Some u.items_path) h.2 k.2 in
    let path : s.items_path ≡ u.items_path = cc in
    let selector : s.item_selector ≡ u.item_selector = one_selector d (name_of_two (codes "ItemSelector") (codes "Parameters") d) s.item_selector u.item_selector h.3 k.3 in
    let bounds : Some s.max_concurrency ≡ Some u.max_concurrency = sym h.1 ∙ k.1 in
    let bound : s.max_concurrency ≡ u.max_concurrency = cc in
    let work = one_work d s.processing u.processing s.errors u.errors s.transition u.transition (h.4 ∙ sym k.4) h.5 k.5 in
    let processor : s.processor ≡ u.processor = one_named_processor P one d (name_of_two (codes "ItemProcessor") (codes "Iterator") d) s.processor u.processor h.6 k.6 in
    let make : Definition → List PathStep → Option Payload → ℕ → Processing → ErrorHandling → Transition → Map =
    λ m i c k p e t. record { processor = m; items_path = i; item_selector = c; max_concurrency = k; processing = p; errors = e; transition = t }
    in
    ap (λ m. make m s.items_path s.item_selector s.max_concurrency s.processing s.errors s.transition) processor
    ∙ ap (λ i. make u.processor i s.item_selector s.max_concurrency s.processing s.errors s.transition) path
    ∙ ap (λ c. make u.processor u.items_path c s.max_concurrency s.processing s.errors s.transition) selector
    ∙ ap (λ k. make u.processor u.items_path u.item_selector k s.processing s.errors s.transition) bound
    ∙ ap (λ p. make u.processor u.items_path u.item_selector u.max_concurrency p s.errors s.transition) work.0
    ∙ ap (λ e. make u.processor u.items_path u.item_selector u.max_concurrency u.processing e s.transition) work.1
    ∙ ap (λ t. make u.processor u.items_path u.item_selector u.max_concurrency u.processing u.errors t) work.2

one_of_kind : (P : Place → Source → Definition → Type 0) → IsOne P → (k : Option StateKind) (d : Source) (s u : State) → IsOfKind P k d s → IsOfKind P k d u → s ≡ u
one_of_kind P one (Some kind.Pass) d s u h k =
    let a = is_pass d s h in
    let b = is_pass d u k in
    a.1 ∙ ap PassState (one_pass d a.0 b.0 a.2 b.2) ∙ sym b.1
one_of_kind P one (Some kind.Task) d s u h k =
    let a = is_task d s h in
    let b = is_task d u k in
    a.1 ∙ ap TaskState (one_task d a.0 b.0 a.2 b.2) ∙ sym b.1
one_of_kind P one (Some kind.Choice) d s u h k =
    let a = is_choice d s h in
    let b = is_choice d u k in
    a.1 ∙ ap ChoiceState (one_choice d a.0 b.0 a.2 b.2) ∙ sym b.1
one_of_kind P one (Some kind.Succeed) d s u h k =
    let a = is_succeed d s h in
    let b = is_succeed d u k in
    a.1 ∙ ap SucceedState (one_succeed d a.0 b.0 a.2 b.2) ∙ sym b.1
one_of_kind P one (Some kind.Wait) d s u h k =
    let a = is_wait d s h in
    let b = is_wait d u k in
    a.1 ∙ ap WaitState (one_wait d a.0 b.0 a.2 b.2) ∙ sym b.1
one_of_kind P one (Some kind.Fail) d s u h k =
    let a = is_fail d s h in
    let b = is_fail d u k in
    a.1 ∙ ap FailState (one_fail d a.0 b.0 a.2 b.2) ∙ sym b.1
one_of_kind P one (Some kind.Parallel) d s u h k =
    let a = is_parallel P d s h in
    let b = is_parallel P d u k in
    a.1 ∙ ap ParallelState (one_parallel P one d a.0 b.0 a.2 b.2) ∙ sym b.1
one_of_kind P one (Some kind.Map) d s u h k =
    let a = is_map P d s h in
    let b = is_map P d u k in
    a.1 ∙ ap MapState (one_map P one d a.0 b.0 a.2 b.2) ∙ sym b.1
one_of_kind P one None d s u h k = absurd h

one_state : (P : Place → Source → Definition → Type 0) → IsOne P → (d : Source) (s u : State) → IsStateText P d s → IsStateText P d u → s ≡ u
one_state P one d s u h k = one_of_kind P one (state_kind_of d) d s u h k

one_states : (P : Place → Source → Definition → Type 0) → IsOne P → (ms : Members) (before ss us : List (List ℕ × StateTree)) → StatesAre P ms before ss → StatesAre P ms before us → ss ≡ us
one_states P one no_members before ss us h k = h ∙ sym k
one_states P one (member name d ms) before ss us h k =
    let same : k.0 ≡ h.0 = one_state P one d k.0 h.0 k.1 h.1 in
    one_states P one ms (insert_entry (slice_cmp nat_cmp) before name (tree_of h.0)) ss us h.2
    (subst (λ (s : State). StatesAre P ms (insert_entry (slice_cmp nat_cmp) before name (tree_of s)) us) same k.2)

-- the same of the states of a `States` object
abbrev pub AreOne : (Members → List (List ℕ × StateTree) → Type 0) → Type 0
AreOne S = (ms : Members) (ss us : List (List ℕ × StateTree)) → S ms ss → S ms us → ss ≡ us

pub one_members : (S : Members → List (List ℕ × StateTree) → Type 0) → AreOne S → (ms : Option Members) (ss us : List (List ℕ × StateTree)) → MembersAre S ms ss → MembersAre S ms us → ss ≡ us
one_members S one None ss us h k = absurd h
one_members S one (Some ms) ss us h k = one ms ss us h k

one_over : (S : Members → List (List ℕ × StateTree) → Type 0) → AreOne S → (place : Place) (d : Source) (m n : Definition) → MachineOver S place d m → MachineOver S place d n → m ≡ n
one_over S one place d m n h k =
    let starts : Some m.start ≡ Some n.start = sym h.1 ∙ k.1 in
    let start : m.start ≡ n.start = cc in
    let states : m.states ≡ n.states = one_members S one (states_field d) m.states n.states h.2 k.2 in
    let make : List ℕ → List (List ℕ × StateTree) → Definition = λ a b. record { start = a; states = b } in
    ap (λ a. make a m.states) start ∙ ap (λ b. make n.start b) states

pub one_within : (levels : ℕ) (ms : Members) (ss us : List (List ℕ × StateTree)) → StatesWithin levels ms ss → StatesWithin levels ms us → ss ≡ us
one_within zero ms ss us h k = absurd h
one_within (suc levels) ms ss us h k = one_states (MachineOver (StatesWithin levels)) (one_over (StatesWithin levels) (one_within levels)) ms [] ss us h k

pub one_machine : (d : Source) (m n : Definition) → Defines d m → Defines d n → m ≡ n
one_machine d m n h k = one_over (StatesWithin 32) (one_within 32) at.Top d m n h k
