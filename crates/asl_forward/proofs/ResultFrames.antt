-- What errors and results give: each frame counts one move more, stays at its level, and stands before a state that is there.
use Rattle.std.proofs.Common.{◌≡◌, ℕ, ◌+◌, List, [], ◌∷◌, Bool, true, false, cond, Option, Some, None, Result, Ok, Err, refl, subst}
use Rattle.std.specs.List.{AllByRecursion, find}
use Rattle.json_tree.specs.Data.{Data, list, items_of}
use Rattle.json_tree.specs.View.{data_of}
use Rattle.item_store.specs.Deciding.{Reply, given, refused}
use Rattle.asl_frames.specs.Catcher.{Catcher}
use Rattle.asl_frames.specs.ErrorHandling.{ErrorHandling}
use Rattle.asl_frames.specs.Complete.{IsStateName, LeadsInto, StaysInside}
use Rattle.asl_frames.specs.Definition.{StateTree, Definition}
use Rattle.asl_frames.specs.State.{State}
use Rattle.asl_frames.specs.State.TheVariants as state
use Rattle.asl_frames.specs.Transition.TheVariants.{Next}
use Rattle.asl_forward.specs.Handling.{stand_for, retried, catcher_for, error_object}
use Rattle.asl_forward.specs.Results.{tries_again, on_catch, on_retry, handled, errors_of, after_error, taken_by, after_branch, call_fault, Work, state_work, comes_to, after_result, after_answer, after_join}
use Rattle.asl_frames.specs.Processing.{and_then, within_levels, passed_on, placed_in}
use Rattle.asl_frames.specs.Turn.{Location, ends, go_on, frame_failed_with, own_fault}
use Rattle.asl_frames.specs.declared.frame.Fault.{Fault}
use Rattle.asl_frames.specs.declared.frame.Frame.{Frame}
use Rattle.asl_frames.proofs.Turns.{on_count, end_count, on_level, end_level, on_state, end_state}

abbrev States : Type 0
States = List (List ℕ × StateTree)

-- ---- errors

-- P of each frame that an error may give
handled_of : (P : Frame → Type 0) (level : Definition) (errors : ErrorHandling) (f : Frame) (fault : Fault) → ((counters : List ℕ) → P (tries_again f counters))
    → ((c : Catcher) → catcher_for errors.catchers fault ≡ Some c → (worked : Result Data (List ℕ)) → P (ends level (Next c.next) f worked))
    → P (frame_failed_with f fault) → P (handled level errors f fault)
handled_of P level errors f fault again caught fails = on_tries (retried errors.retriers f.retries fault)
  where
    on_catcher : (o : Option Catcher) → catcher_for errors.catchers fault ≡ o → P (on_catch level f fault o)
    on_catcher None is = fails
    on_catcher (Some c) is = caught c is (and_then within_levels (placed_in c.result_path (data_of f.raw) (error_object fault)))

    on_tries : (o : Option (List ℕ)) → P (on_retry level errors f fault o)
    on_tries None = on_catcher (catcher_for errors.catchers fault) refl
    on_tries (Some counters) = again counters

pub handled-count : (level : Definition) (errors : ErrorHandling) (f : Frame) (fault : Fault) → (handled level errors f fault).count ≡ f.count + 1
handled-count level errors f fault =
    handled_of (λ g. g.count ≡ f.count + 1) level errors f fault (λ counters. refl) (λ c is worked. end_count level (Next c.next) f worked) refl

pub handled-level : (level : Definition) (errors : ErrorHandling) (f : Frame) (fault : Fault) → (handled level errors f fault).level ≡ f.level
handled-level level errors f fault =
    handled_of (λ g. g.level ≡ f.level) level errors f fault (λ counters. refl) (λ c is worked. end_level level (Next c.next) f worked) refl

-- the catchers of some lead to states
abbrev pub CatchersStay : List (List ℕ × StateTree) → List Catcher → Type 0
CatchersStay states cs = AllByRecursion (λ (c : Catcher). IsStateName states c.next) cs

found_inside : (states : States) (test : Catcher → Bool) (cs : List Catcher) (c : Catcher) → CatchersStay states cs → find test cs ≡ Some c → IsStateName states c.next
found_inside states test [] c all is = cc is
found_inside states test (d ∷ cs) c all is = on_test (test d) is (found_inside states test cs c all.1)
  where
    on_test : (b : Bool) → cond b (Some d) (find test cs) ≡ Some c → (find test cs ≡ Some c → IsStateName states c.next) → IsStateName states c.next
    on_test true k rest =
        let same : d ≡ c = cc k in
        subst (λ (e : Catcher). IsStateName states e.next) same all.0
    on_test false k rest = rest k

pub handled-state : (level : Definition) (errors : ErrorHandling) (f : Frame) (fault : Fault) → CatchersStay level.states errors.catchers → IsStateName level.states f.state
    → IsStateName level.states (handled level errors f fault).state
handled-state level errors f fault stay here =
    handled_of (λ g. IsStateName level.states g.state) level errors f fault (λ counters. here)
    (λ c is worked. end_state level (Next c.next) f worked (found_inside level.states (λ (d : Catcher). stand_for d.errors fault) errors.catchers c stay is) here) here

pub catchers_stay : (states : States) (s : State) → StaysInside states s → CatchersStay states (errors_of s).catchers
catchers_stay states (state.Pass s) stays = tt
catchers_stay states (state.Task s) stays = stays.1
catchers_stay states (state.Choice s) stays = tt
catchers_stay states (state.Wait s) stays = tt
catchers_stay states (state.Succeed s) stays = tt
catchers_stay states (state.Fail s) stays = tt
catchers_stay states (state.Parallel s) stays = stays.1
catchers_stay states (state.Map s) stays = stays.1

pub after_error-count : (at : Location) (f : Frame) (fault : Fault) → (after_error at f fault).count ≡ f.count + 1
after_error-count at f fault = handled-count at.0 (errors_of at.1) f fault

pub after_error-level : (at : Location) (f : Frame) (fault : Fault) → (after_error at f fault).level ≡ f.level
after_error-level at f fault = handled-level at.0 (errors_of at.1) f fault

pub after_error-state : (at : Location) (f : Frame) (fault : Fault) → StaysInside at.0.states at.1 → IsStateName at.0.states f.state → IsStateName at.0.states (after_error at f fault).state
after_error-state at f fault stays here = handled-state at.0 (errors_of at.1) f fault (catchers_stay at.0.states at.1 stays) here

pub after_branch-count : (at : Location) (f : Frame) (fault : Fault) → (after_branch at f fault).count ≡ f.count + 1
after_branch-count at f fault = after_error-count at f (taken_by at.1 fault)

pub after_branch-level : (at : Location) (f : Frame) (fault : Fault) → (after_branch at f fault).level ≡ f.level
after_branch-level at f fault = after_error-level at f (taken_by at.1 fault)

pub after_branch-state : (at : Location) (f : Frame) (fault : Fault) → StaysInside at.0.states at.1 → IsStateName at.0.states f.state → IsStateName at.0.states (after_branch at f fault).state
after_branch-state at f fault stays here = after_error-state at f (taken_by at.1 fault) stays here

-- ---- results

-- what a state's work may go on to is a state
abbrev pub WorkStays : List (List ℕ × StateTree) → Work → Type 0
WorkStays states w = LeadsInto states w.2 × CatchersStay states w.1.catchers

pub work_stays : (states : States) (s : State) (w : Work) → StaysInside states s → state_work s ≡ Some w → WorkStays states w
work_stays states (state.Pass s) w stays is = cc is
work_stays states (state.Task s) w stays is =
    let same : ◌≡◌ {A = Work} (s.processing, s.errors, s.transition) w = cc is in
    subst (WorkStays states) same stays
work_stays states (state.Choice s) w stays is = cc is
work_stays states (state.Wait s) w stays is = cc is
work_stays states (state.Succeed s) w stays is = cc is
work_stays states (state.Fail s) w stays is = cc is
work_stays states (state.Parallel s) w stays is =
    let same : ◌≡◌ {A = Work} (s.processing, s.errors, s.transition) w = cc is in
    subst (WorkStays states) same stays
work_stays states (state.Map s) w stays is =
    let same : ◌≡◌ {A = Work} (s.processing, s.errors, s.transition) w = cc is in
    subst (WorkStays states) same stays

-- P of each frame that a result may give
result_of : (P : Frame → Type 0) (level : Definition) (w : Work) (f : Frame) (result : Data) → ((output : Data) → P (go_on level w.2 f output))
    → ((fault : Fault) → P (handled level w.1 f fault)) → P (after_result level w f result)
result_of P level w f result ok err = on_output (passed_on w.0 (data_of f.raw) result)
  where
    on_output : (o : Result Data (List ℕ)) → P (comes_to level w f o)
    on_output (Ok output) = ok output
    on_output (Err error) = err (own_fault error)

-- and that an answer may give
answer_of : (P : Frame → Type 0) (level : Definition) (w : Work) (f : Frame) (reply : Reply) → ((output : Data) → P (go_on level w.2 f output))
    → ((fault : Fault) → P (handled level w.1 f fault)) → P (after_answer level w f reply)
answer_of P level w f (given result) ok err = result_of P level w f result ok err
answer_of P level w f (refused error) ok err = err (call_fault error)

pub after_answer-count : (level : Definition) (w : Work) (f : Frame) (reply : Reply) → (after_answer level w f reply).count ≡ f.count + 1
after_answer-count level w f reply = answer_of (λ g. g.count ≡ f.count + 1) level w f reply (on_count level w.2 f) (handled-count level w.1 f)

pub after_answer-level : (level : Definition) (w : Work) (f : Frame) (reply : Reply) → (after_answer level w f reply).level ≡ f.level
after_answer-level level w f reply = answer_of (λ g. g.level ≡ f.level) level w f reply (on_level level w.2 f) (handled-level level w.1 f)

pub after_answer-state : (level : Definition) (w : Work) (f : Frame) (reply : Reply) → WorkStays level.states w → IsStateName level.states f.state
    → IsStateName level.states (after_answer level w f reply).state
after_answer-state level w f reply stays here =
    answer_of (λ g. IsStateName level.states g.state) level w f reply (on_state level w.2 f stays.0 here) (λ fault. handled-state level w.1 f fault stays.1 here)

pub after_join-count : (level : Definition) (w : Work) (f : Frame) (outputs : List Data) → (after_join level w f outputs).count ≡ f.count + 1
after_join-count level w f outputs = result_of (λ g. g.count ≡ f.count + 1) level w f (list (items_of outputs)) (on_count level w.2 f) (handled-count level w.1 f)

pub after_join-level : (level : Definition) (w : Work) (f : Frame) (outputs : List Data) → (after_join level w f outputs).level ≡ f.level
after_join-level level w f outputs = result_of (λ g. g.level ≡ f.level) level w f (list (items_of outputs)) (on_level level w.2 f) (handled-level level w.1 f)

pub after_join-state : (level : Definition) (w : Work) (f : Frame) (outputs : List Data) → WorkStays level.states w → IsStateName level.states f.state
    → IsStateName level.states (after_join level w f outputs).state
after_join-state level w f outputs stays here =
    result_of (λ g. IsStateName level.states g.state) level w f (list (items_of outputs)) (on_state level w.2 f stays.0 here) (λ fault. handled-state level w.1 f fault stays.1 here)
