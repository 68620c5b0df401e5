-- A turn counts one move, stays at its level, and leads to a state that is there.
use Rattle.std.proofs.Common.{◌≡◌, ℕ, ◌+◌, List, [], ◌∷◌, Bool, true, false, Option, Some, None, Result, Ok, Err, option_and_then, if◌then◌else◌, refl, subst}
use Rattle.std.specs.Prelude.{IfSome}
use Rattle.std.specs.List.{AllByRecursion}
use Rattle.json_tree.specs.Data.{Data}
use Rattle.asl_tree.specs.Complete.{IsStateName, LeadsInto, StaysInside}
use Rattle.asl_tree.specs.Definition.{Definition}
use Rattle.asl_tree.specs.declared.state.State.{State}
use Rattle.asl_tree.specs.declared.state.State.TheVariants.{Pass, Task, Choice as ChoiceState, Wait, Succeed, Fail, Parallel, Map}
use Rattle.asl_processing.specs.Transition.{Transition}
use Rattle.asl_processing.specs.Transition.TheVariants.{Next, End}
use Rattle.asl_processing.specs.TestView.{test_of}
use Rattle.asl_processing.specs.Rule.{Rule}
use Rattle.asl_processing.specs.Choice.{Choice}
use Rattle.asl_processing.specs.Holding.{holds, first_rule}
use Rattle.asl_processing.specs.Choosing.{or_default, chosen_state, chosen}
use Rattle.asl_processing.specs.Processing.{effective, passed_on}
use Rattle.asl_frames.specs.Turn.{ends, frame_failed_with, own_fault, goes_where, choice_frame, next_frame, pass_output, idle_output}
use Rattle.asl_frames.specs.declared.frame.Frame.{Frame}
use Rattle.json_tree.specs.View.{data_of}

-- a Choice state goes there with some input
abbrev IsChosen : Choice → List ℕ → Type 0
IsChosen s name = (input : Data) × (chosen s.rules s.default input ≡ Ok name)

-- P of each frame that a state's end may give
end_of : (P : Frame → Type 0) (level : Definition) (t : Transition) (f : Frame) (worked : Result Data (List ℕ))
    → ((output : Data) → P (ends level t f (Ok output))) → ((error : List ℕ) → P (ends level t f (Err error))) → P (ends level t f worked)
end_of P level t f (Ok output) ok err = ok output
end_of P level t f (Err error) ok err = err error

pub on_count : (level : Definition) (t : Transition) (f : Frame) (output : Data) → (ends level t f (Ok output)).count ≡ f.count + 1
on_count level (Next name) f output = refl
on_count level End f output = refl

pub end_count : (level : Definition) (t : Transition) (f : Frame) (worked : Result Data (List ℕ)) → (ends level t f worked).count ≡ f.count + 1
end_count level t f worked = end_of (λ g. g.count ≡ f.count + 1) level t f worked (on_count level t f) (λ error. refl)

-- P of each frame that a Choice state may give
choice_of : (P : Frame → Type 0) (level : Definition) (s : Choice) (f : Frame) → ((error : List ℕ) → P (frame_failed_with f (own_fault error)))
    → ((name : List ℕ) → IsChosen s name → (worked : Result Data (List ℕ)) → P (ends level (Next name) f worked)) → P (choice_frame level s f (effective s.processing (data_of f.raw)))
choice_of P level s f err ok = on_input (effective s.processing (data_of f.raw))
  where
    on_name : (input : Data) (o : Result (List ℕ) (List ℕ)) → chosen s.rules s.default input ≡ o → P (goes_where level s.processing f input o)
    on_name input (Ok name) is = ok name (input, is) (passed_on s.processing (data_of f.raw) input)
    on_name input (Err error) is = err error

    on_input : (o : Result Data (List ℕ)) → P (choice_frame level s f o)
    on_input (Ok input) = on_name input (chosen s.rules s.default input) refl
    on_input (Err error) = err error

pub next_frame-count : (level : Definition) (s : State) (f : Frame) → (next_frame level s f).count ≡ f.count + 1
next_frame-count level (Pass s) f = end_count level s.transition f (pass_output s (data_of f.raw))
next_frame-count level (Wait s) f = end_count level s.transition f (idle_output s.processing (data_of f.raw))
next_frame-count level (Succeed s) f = end_count level End f (idle_output s.processing (data_of f.raw))
next_frame-count level (Fail s) f = refl
next_frame-count level (Task s) f = refl
next_frame-count level (ChoiceState s) f = choice_of (λ g. g.count ≡ f.count + 1) level s f (λ error. refl) (λ name is worked. end_count level (Next name) f worked)
next_frame-count level (Parallel s) f = refl
next_frame-count level (Map s) f = refl

pub on_level : (level : Definition) (t : Transition) (f : Frame) (output : Data) → (ends level t f (Ok output)).level ≡ f.level
on_level level (Next name) f output = refl
on_level level End f output = refl

pub end_level : (level : Definition) (t : Transition) (f : Frame) (worked : Result Data (List ℕ)) → (ends level t f worked).level ≡ f.level
end_level level t f worked = end_of (λ g. g.level ≡ f.level) level t f worked (on_level level t f) (λ error. refl)

pub next_frame-level : (level : Definition) (s : State) (f : Frame) → (next_frame level s f).level ≡ f.level
next_frame-level level (Pass s) f = end_level level s.transition f (pass_output s (data_of f.raw))
next_frame-level level (Wait s) f = end_level level s.transition f (idle_output s.processing (data_of f.raw))
next_frame-level level (Succeed s) f = end_level level End f (idle_output s.processing (data_of f.raw))
next_frame-level level (Fail s) f = refl
next_frame-level level (Task s) f = refl
next_frame-level level (ChoiceState s) f = choice_of (λ g. g.level ≡ f.level) level s f (λ error. refl) (λ name is worked. end_level level (Next name) f worked)
next_frame-level level (Parallel s) f = refl
next_frame-level level (Map s) f = refl

pub on_state : (level : Definition) (t : Transition) (f : Frame) → LeadsInto level.states t → IsStateName level.states f.state → (output : Data) → IsStateName level.states (ends level t f (Ok output)).state
on_state level (Next name) f leads here output = leads
on_state level End f leads here output = here

pub end_state : (level : Definition) (t : Transition) (f : Frame) (worked : Result Data (List ℕ)) → LeadsInto level.states t → IsStateName level.states f.state → IsStateName level.states (ends level t f worked).state
end_state level t f worked leads here = end_of (λ g. IsStateName level.states g.state) level t f worked (on_state level t f leads here) (λ error. here)

-- a rule goes to a state that is there, and so does the default
rule_inside : (P : List ℕ → Type 0) (rs : List Rule) (d : Data) (name : List ℕ) → AllByRecursion (λ (r : Rule). P r.next) rs → first_rule rs d ≡ Some (Some name) → P name
rule_inside P [] d name all h = cc h
rule_inside P (r ∷ rs) d name all h = on_test (holds (test_of r.test) d) h (rule_inside P rs d name all.1)
  where
    on_test : (o : Option Bool) → option_and_then (λ b. if b then Some (Some r.next) else first_rule rs d) o ≡ Some (Some name) → (first_rule rs d ≡ Some (Some name) → P name) → P name
    on_test None k rest = cc k
    on_test (Some true) k rest =
        let same : r.next ≡ name = cc k in
        subst P same all.0
    on_test (Some false) k rest = rest k

chosen_inside : (P : List ℕ → Type 0) (s : Choice) (name : List ℕ) → AllByRecursion (λ (r : Rule). P r.next) s.rules → IfSome s.default P → IsChosen s name → P name
chosen_inside P s name rules default is = on_rule (first_rule s.rules is.0) refl is.1
  where
    on_default : (o : Option (List ℕ)) → IfSome o P → or_default None o ≡ Ok name → P name
    on_default None p k = cc k
    on_default (Some other) p k =
        let same : other ≡ name = cc k in
        subst P same p

    on_rule : (o : Option (Option (List ℕ))) → first_rule s.rules is.0 ≡ o → chosen_state o s.default ≡ Ok name → P name
    on_rule None h k = cc k
    on_rule (Some None) h k = on_default s.default default k
    on_rule (Some (Some other)) h k =
        let same : other ≡ name = cc k in
        subst P same (rule_inside P s.rules is.0 other rules h)

pub next_frame-state : (level : Definition) (s : State) (f : Frame) → StaysInside level.states s → IsStateName level.states f.state → IsStateName level.states (next_frame level s f).state
next_frame-state level (Pass s) f stays here = end_state level s.transition f (pass_output s (data_of f.raw)) stays here
next_frame-state level (Wait s) f stays here = end_state level s.transition f (idle_output s.processing (data_of f.raw)) stays here
next_frame-state level (Succeed s) f stays here = end_state level End f (idle_output s.processing (data_of f.raw)) tt here
next_frame-state level (Fail s) f stays here = here
next_frame-state level (Task s) f stays here = here
next_frame-state level (ChoiceState s) f stays here =
    choice_of (λ g. IsStateName level.states g.state) level s f (λ error. here)
    (λ name is worked. end_state level (Next name) f worked (chosen_inside (IsStateName level.states) s name stays.0 stays.1 is) here)
next_frame-state level (Parallel s) f stays here = here
next_frame-state level (Map s) f stays here = here
