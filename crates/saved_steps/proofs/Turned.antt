-- What a turn leaves: a frame that isn't parked, or one that is parked over branches of which none is.
use Rattle.std.proofs.Common.{arith, zero, suc, ◌≡◌, ℕ, ◌+◌, List, [], ◌∷◌, length, refl, subst, Option, Some, None, Result, Ok, Err, cond, Bool, true, false, nat_le}
use Rattle.std.specs.Option.{option_map}
use Rattle.std.specs.List.{All}
use Rattle.std.proofs.lemmas.List.Elements.{All-nil}
use Rattle.std.proofs.lemmas.Option.{same_Some}
use Rattle.json_tree.specs.Data.{Data, list, items_of}
use Rattle.json_tree.specs.View.{data_of}
use Rattle.item_store.specs.Calls.{call_of}
use Rattle.item_store.specs.Deciding.{Reply, given, refused}
use Rattle.item_store.specs.Faults.{validation}
use Rattle.item_store.specs.declared.call.Call as call
use Rattle.asl_forward.specs.Catcher.{Catcher}
use Rattle.asl_forward.specs.ErrorHandling.{ErrorHandling}
use Rattle.branch_tree.specs.Definition.{Definition}
use Rattle.asl_forward.specs.Choice.{Choice}
use Rattle.branch_tree.specs.Map.{Map}
use Rattle.asl_forward.specs.StateProcessing.{Processing}
use Rattle.branch_tree.specs.State.{State}
use Rattle.branch_tree.specs.State.TheVariants as state
use Rattle.asl_forward.specs.Task.{Task}
use Rattle.asl_forward.specs.Transition.{Transition}
use Rattle.asl_forward.specs.Transition.TheVariants.{Next, End}
use Rattle.asl_forward.specs.Choosing.{chosen}
use Rattle.asl_forward.specs.Forks.{with_others, begins_branch, frames_from, parallel_frames, element_frames, element_input, counted_frames, elements, map_frames}
use Rattle.asl_forward.specs.Handling.{retried, catcher_for}
use Rattle.asl_forward.specs.Outcomes.{outcome_of_call, task_turn, forks, fork_of, turn_of, turn, action_of}
use Rattle.asl_forward.specs.Results.{Work, call_fault, on_catch, on_retry, handled, comes_to, after_answer, after_join, after_branch, errors_of, taken_by}
use Rattle.asl_forward.specs.Planned.{turn_at}
use Rattle.asl_forward.specs.Processing.{effective, within_levels, passed_on}
use Rattle.branch_tree.specs.Turn.{Location, located, go_on, ends, own_fault, goes_where, choice_frame, next_frame}
use Rattle.branch_tree.specs.Fault.{Fault}
use Rattle.branch_tree.specs.Frame.{Frame}
use Rattle.branch_tree.specs.Phase.TheVariants.{Parked}
use Rattle.asl_forward.specs.declared.prepared.Outcome.{Outcome}
use Rattle.asl_forward.specs.declared.prepared.Outcome.TheVariants as outcome
use Rattle.saved_steps.specs.Made.{is_unparked}

abbrev pub Yields : Frame → Outcome → Type 0
Yields f (outcome.Next g) = is_unparked g
Yields f (outcome.Fork g branches) = (bound : ℕ) × (g.phase ≡ Parked (length branches) bound) × (g.count ≡ f.count + 1) × All is_unparked branches
Yields f (outcome.Call c) = Unit {0}

-- ---- frames that aren't parked

on_open : (level : Definition) (t : Transition) (f : Frame) (output : Data) → is_unparked (go_on level t f output)
on_open level (Next name) f output = refl
on_open level End f output = refl

ends_open : (level : Definition) (t : Transition) (f : Frame) (worked : Result Data (List ℕ)) → is_unparked (ends level t f worked)
ends_open level t f (Ok output) = on_open level t f output
ends_open level t f (Err error) = refl

catch_open : (level : Definition) (f : Frame) (fault : Fault) (c : Option Catcher) → is_unparked (on_catch level f fault c)
catch_open level f fault None = refl
catch_open level f fault (Some c) = ends_open level (Next c.next) f _

retry_open : (level : Definition) (errors : ErrorHandling) (f : Frame) (fault : Fault) (counters : Option (List ℕ)) → is_unparked (on_retry level errors f fault counters)
retry_open level errors f fault (Some counters) = refl
retry_open level errors f fault None = catch_open level f fault (catcher_for errors.catchers fault)

handled_open : (level : Definition) (errors : ErrorHandling) (f : Frame) (fault : Fault) → is_unparked (handled level errors f fault)
handled_open level errors f fault = retry_open level errors f fault (retried errors.retriers f.retries fault)

comes_open : (level : Definition) (w : Work) (f : Frame) (worked : Result Data (List ℕ)) → is_unparked (comes_to level w f worked)
comes_open level w f (Ok output) = on_open level w.2 f output
comes_open level w f (Err error) = handled_open level w.1 f (own_fault error)

pub answer_open : (level : Definition) (w : Work) (f : Frame) (reply : Reply) → is_unparked (after_answer level w f reply)
answer_open level w f (given result) = comes_open level w f (passed_on w.0 (data_of f.raw) result)
answer_open level w f (refused error) = handled_open level w.1 f (call_fault error)

pub join_open : (level : Definition) (w : Work) (f : Frame) (ds : List Data) → is_unparked (after_join level w f ds)
join_open level w f ds = comes_open level w f (passed_on w.0 (data_of f.raw) (list (items_of ds)))

pub branch_open : (at : Location) (f : Frame) (fault : Fault) → is_unparked (after_branch at f fault)
branch_open at f fault = handled_open at.0 (errors_of at.1) f (taken_by at.1 fault)

where_open : (level : Definition) (p : Processing) (f : Frame) (input : Data) (name : Result (List ℕ) (List ℕ)) → is_unparked (goes_where level p f input name)
where_open level p f input (Ok name) = ends_open level (Next name) f _
where_open level p f input (Err error) = refl

choice_open : (level : Definition) (s : Choice) (f : Frame) (worked : Result Data (List ℕ)) → is_unparked (choice_frame level s f worked)
choice_open level s f (Ok input) = where_open level s.processing f input (chosen s.rules s.default input)
choice_open level s f (Err error) = refl

next_open : (level : Definition) (s : State) (f : Frame) → is_unparked (next_frame level s f)
next_open level (state.Pass s) f = ends_open level s.transition f _
next_open level (state.Task s) f = refl
next_open level (state.Choice s) f = choice_open level s f (effective s.processing (data_of f.raw))
next_open level (state.Wait s) f = ends_open level s.transition f _
next_open level (state.Succeed s) f = ends_open level End f _
next_open level (state.Fail s) f = refl
next_open level (state.Parallel s) f = refl
next_open level (state.Map s) f = refl

-- ---- the frames of branches

abbrev AllOpen : Result (List Frame) (List ℕ) → Type 0
AllOpen (Ok fs) = All is_unparked fs
AllOpen (Err error) = Unit {0}

all_more : (f : Frame) (fs : List Frame) → is_unparked f → All is_unparked fs → All is_unparked (f ∷ fs)
all_more f fs h all zero d k = h
all_more f fs h all (suc i) d k = all i d (omega arith)

others_open : (others : Result (List Frame) (List ℕ)) (f : Frame) (d : Definition) (branch : ℕ) (worked : Result Data (List ℕ)) → AllOpen others → AllOpen (with_others others (begins_branch f d branch worked))
others_open (Ok fs) f d branch (Ok input) h = all_more _ fs refl h
others_open (Err error) f d branch (Ok input) h = tt
others_open (Ok fs) f d branch (Err error) h = tt
others_open (Err other) f d branch (Err error) h = tt

from_open : (f : Frame) (branch : ℕ) (ds : List Definition) (input : Data) → AllOpen (frames_from f branch ds input)
from_open f branch [] input = All-nil is_unparked
from_open f branch (d ∷ ds) input = others_open (frames_from f (branch + 1) ds input) f d branch (within_levels input) (from_open f (branch + 1) ds input)

elements_open : (s : Map) (f : Frame) (input : Data) (index : ℕ) (xs : List Data) → AllOpen (element_frames s f input index xs)
elements_open s f input index [] = All-nil is_unparked
elements_open s f input index (x ∷ xs) =
    others_open (element_frames s f input (index + 1) xs) f s.processor 0 (element_input s.item_selector input index x) (elements_open s f input (index + 1) xs)

few_open : (few : Bool) (fs : Result (List Frame) (List ℕ)) (error : List ℕ) → AllOpen fs → AllOpen (cond few fs (Err error))
few_open true fs error h = h
few_open false fs error h = tt

counted_open : (s : Map) (f : Frame) (input : Data) (xs : Result (List Data) (List ℕ)) → AllOpen (counted_frames s f input xs)
counted_open s f input (Ok xs) = few_open (nat_le (length xs) 4096) (element_frames s f input 0 xs) _ (elements_open s f input 0 xs)
counted_open s f input (Err error) = tt

-- ---- turns

forks_yield : (level : Definition) (errors : ErrorHandling) (f : Frame) (bound : ℕ) (fs : Result (List Frame) (List ℕ)) → AllOpen fs → Yields f (forks level errors f bound fs)
forks_yield level errors f bound (Ok fs) h = (bound, refl, refl, h)
forks_yield level errors f bound (Err error) h = handled_open level errors f (own_fault error)

fork_open : (begin : Frame → Data → Result (List Frame) (List ℕ)) (f : Frame) (worked : Result Data (List ℕ)) → ((input : Data) → AllOpen (begin f input)) → AllOpen (fork_of begin f worked)
fork_open begin f (Ok input) h = h input
fork_open begin f (Err error) h = tt

asks_yield : (level : Definition) (s : Task) (f : Frame) (c : Option call.Call) → Yields f (outcome_of_call level s f c)
asks_yield level s f (Some c) = tt
asks_yield level s f None = handled_open level s.errors f (call_fault validation)

task_yield : (level : Definition) (s : Task) (f : Frame) (worked : Result Data (List ℕ)) → Yields f (task_turn level s f worked)
task_yield level s f (Ok input) = asks_yield level s f (call_of (action_of s.resource) input)
task_yield level s f (Err error) = handled_open level s.errors f (own_fault error)

pub turn_yields : (level : Definition) (s : State) (f : Frame) → Yields f (turn_of level s f)
turn_yields level (state.Pass s) f = next_open level (state.Pass s) f
turn_yields level (state.Task s) f = task_yield level s f (effective s.processing (data_of f.raw))
turn_yields level (state.Choice s) f = next_open level (state.Choice s) f
turn_yields level (state.Wait s) f = next_open level (state.Wait s) f
turn_yields level (state.Succeed s) f = next_open level (state.Succeed s) f
turn_yields level (state.Fail s) f = next_open level (state.Fail s) f
turn_yields level (state.Parallel s) f =
    forks_yield level s.errors f 0 _ (fork_open (parallel_frames s) f (effective s.processing (data_of f.raw)) (λ input. from_open f 0 s.branches input))
turn_yields level (state.Map s) f =
    forks_yield level s.errors f s.max_concurrency _ (fork_open (map_frames s) f (effective s.processing (data_of f.raw)) (λ input. counted_open s f input (elements s.items_path input)))

-- what a turn that was prepared comes to
pub yields : (d : Definition) (f : Frame) (o : Outcome) → turn_at d f ≡ Some o → Yields f o
yields d f o h = by (located d f) h
  where
    by : (at : Option Location) → option_map (λ x. turn x f) at ≡ Some o → Yields f o
    by None e = cc
    by (Some at) e = subst (Yields f) (same_Some (turn at f) o e) (turn_yields at.0 at.1 f)
