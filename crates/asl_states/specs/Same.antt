-- Equality of states that hold no machines, and of what all states are made of.
use Rattle.std.specs.Prelude.{◌≡◌, ℕ, Bool, true, false, ◌&&◌, ◌==◌, refl}
use Rattle.std.proofs.Common.{ap}
use Rattle.std.specs.Cmp.{unsigned_Decides}
use Rattle.std.specs.Cmp.Derive.{both_true}
use Rattle.std.specs.Option.{option_eq}
use Rattle.std.specs.Ordering.{eq_by_cmp, on}
use lib.Pointwise.{pointwise}
use Rattle.json_tree.proofs.Same.{eq_one, eq_itself}
use Rattle.json_tree.specs.Order.{data_cmp}
use Rattle.json_tree.specs.View.{data_of}
use Rattle.json_tree.specs.declared.tree.Json.{Json}
use Rattle.asl_fields.specs.Same.{same_text, same_payload_path, same_payload, IsExact, exact, first_true, second_true, text_exact, path_exact, payload_exact, option_exact}
use Rattle.asl_states.specs.TestSame.{same_rule, rules_exact}
use Rattle.asl_errors.specs.Same.{same_handling, handling_exact}
use Rattle.asl_states.specs.declared.state.Processing.{Processing}
use Rattle.asl_states.specs.declared.state.Pass.{Pass}
use Rattle.asl_states.specs.declared.state.Task.{Task}
use Rattle.asl_states.specs.declared.state.Choice.{Choice}
use Rattle.asl_states.specs.declared.state.Wait.{Wait}
use Rattle.asl_states.specs.declared.state.Succeed.{Succeed}
use Rattle.asl_states.specs.declared.state.Fail.{Fail}
use Rattle.asl_states.specs.declared.state.Resource.{Resource}
use Rattle.asl_states.specs.declared.state.Resource.TheVariants.{GetItem, PutItem, DeleteItem}
use Rattle.asl_states.specs.declared.state.Transition.{Transition}
use Rattle.asl_states.specs.declared.state.Transition.TheVariants.{Next, End}

abbrev pub same_json : Json → Json → Bool
same_json = eq_by_cmp (on data_of data_cmp)

abbrev pub resource_number : Resource → ℕ
resource_number GetItem = 0
resource_number PutItem = 1
resource_number DeleteItem = 2

abbrev pub same_resource : Resource → Resource → Bool
same_resource r s = resource_number r == resource_number s

abbrev pub same_transition : Transition → Transition → Bool
same_transition (Next s) (Next t) = same_text s t
same_transition (Next s) End = false
same_transition End (Next t) = false
same_transition End End = true

abbrev pub same_processing : Processing → Processing → Bool
same_processing s t = option_eq same_payload_path s.input_path t.input_path && (option_eq same_payload s.parameters t.parameters && (option_eq same_payload s.result_selector t.result_selector && (option_eq same_payload_path s.result_path t.result_path && option_eq same_payload_path s.output_path t.output_path)))

abbrev pub same_pass : Pass → Pass → Bool
same_pass s t = same_processing s.processing t.processing && (option_eq same_json s.result t.result && same_transition s.transition t.transition)

abbrev pub same_task : Task → Task → Bool
same_task s t = same_resource s.resource t.resource && (same_processing s.processing t.processing && (same_handling s.errors t.errors && same_transition s.transition t.transition))

abbrev pub same_choice : Choice → Choice → Bool
same_choice s t = same_processing s.processing t.processing && (pointwise same_rule s.rules t.rules && option_eq same_text s.default t.default)

abbrev pub same_wait : Wait → Wait → Bool
same_wait s t = same_processing s.processing t.processing && same_transition s.transition t.transition

abbrev pub same_succeed : Succeed → Succeed → Bool
same_succeed s t = same_processing s.processing t.processing

abbrev pub same_fail : Fail → Fail → Bool
same_fail s t = same_text s.error t.error && same_text s.cause t.cause

-- ---- they hold of equal values alone

pub json_exact : IsExact same_json
json_exact = exact same_json eq_one eq_itself

resource_one : (r s : Resource) → same_resource r s ≡ true → r ≡ s
resource_one GetItem GetItem h = refl
resource_one PutItem PutItem h = refl
resource_one DeleteItem DeleteItem h = refl
resource_one _ _ h = cc

pub resource_exact : IsExact same_resource
resource_exact = exact same_resource resource_one (λ r. (unsigned_Decides (resource_number r) (resource_number r)).1 refl)

transition_one : (t u : Transition) → same_transition t u ≡ true → t ≡ u
transition_one (Next s) (Next t) h = ap Next ((text_exact s t).0 h)
transition_one (Next s) End h = cc
transition_one End (Next t) h = cc
transition_one End End h = refl

transition_itself : (t : Transition) → same_transition t t ≡ true
transition_itself (Next s) = (text_exact s s).1 refl
transition_itself End = refl

pub transition_exact : IsExact same_transition
transition_exact = exact same_transition transition_one transition_itself

processing_one : (s t : Processing) → same_processing s t ≡ true → s ≡ t
processing_one s t h =
    let is_input_path : s.input_path ≡ t.input_path = (option_exact same_payload_path path_exact s.input_path t.input_path).0 (first_true _ _ h) in
    let h0 = second_true (option_eq same_payload_path s.input_path t.input_path) _ h in
    let is_parameters : s.parameters ≡ t.parameters = (option_exact same_payload payload_exact s.parameters t.parameters).0 (first_true _ _ h0) in
    let h1 = second_true (option_eq same_payload s.parameters t.parameters) _ h0 in
    let is_result_selector : s.result_selector ≡ t.result_selector = (option_exact same_payload payload_exact s.result_selector t.result_selector).0 (first_true _ _ h1) in
    let h2 = second_true (option_eq same_payload s.result_selector t.result_selector) _ h1 in
    let is_result_path : s.result_path ≡ t.result_path = (option_exact same_payload_path path_exact s.result_path t.result_path).0 (first_true _ _ h2) in
    let h3 = second_true (option_eq same_payload_path s.result_path t.result_path) _ h2 in
    let is_output_path : s.output_path ≡ t.output_path = (option_exact same_payload_path path_exact s.output_path t.output_path).0 h3 in
    λ i. record { input_path = is_input_path i; parameters = is_parameters i; result_selector = is_result_selector i; result_path = is_result_path i; output_path = is_output_path i }

pub processing_exact : IsExact same_processing
processing_exact = exact same_processing processing_one (λ s. both_true ((option_exact same_payload_path path_exact s.input_path s.input_path).1 refl) (both_true ((option_exact same_payload payload_exact s.parameters s.parameters).1 refl) (both_true ((option_exact same_payload payload_exact s.result_selector s.result_selector).1 refl) (both_true ((option_exact same_payload_path path_exact s.result_path s.result_path).1 refl) ((option_exact same_payload_path path_exact s.output_path s.output_path).1 refl)))))

pass_one : (s t : Pass) → same_pass s t ≡ true → s ≡ t
pass_one s t h =
    let is_processing : s.processing ≡ t.processing = (processing_exact s.processing t.processing).0 (first_true _ _ h) in
    let h0 = second_true (same_processing s.processing t.processing) _ h in
    let is_result : s.result ≡ t.result = (option_exact same_json json_exact s.result t.result).0 (first_true _ _ h0) in
    let h1 = second_true (option_eq same_json s.result t.result) _ h0 in
    let is_transition : s.transition ≡ t.transition = (transition_exact s.transition t.transition).0 h1 in
    λ i. record { processing = is_processing i; result = is_result i; transition = is_transition i }

pub pass_exact : IsExact same_pass
pass_exact = exact same_pass pass_one (λ s. both_true ((processing_exact s.processing s.processing).1 refl) (both_true ((option_exact same_json json_exact s.result s.result).1 refl) ((transition_exact s.transition s.transition).1 refl)))

task_one : (s t : Task) → same_task s t ≡ true → s ≡ t
task_one s t h =
    let is_resource : s.resource ≡ t.resource = (resource_exact s.resource t.resource).0 (first_true _ _ h) in
    let h0 = second_true (same_resource s.resource t.resource) _ h in
    let is_processing : s.processing ≡ t.processing = (processing_exact s.processing t.processing).0 (first_true _ _ h0) in
    let h1 = second_true (same_processing s.processing t.processing) _ h0 in
    let is_errors : s.errors ≡ t.errors = (handling_exact s.errors t.errors).0 (first_true _ _ h1) in
    let h2 = second_true (same_handling s.errors t.errors) _ h1 in
    let is_transition : s.transition ≡ t.transition = (transition_exact s.transition t.transition).0 h2 in
    λ i. record { resource = is_resource i; processing = is_processing i; errors = is_errors i; transition = is_transition i }

pub task_exact : IsExact same_task
task_exact = exact same_task task_one (λ s. both_true ((resource_exact s.resource s.resource).1 refl) (both_true ((processing_exact s.processing s.processing).1 refl) (both_true ((handling_exact s.errors s.errors).1 refl) ((transition_exact s.transition s.transition).1 refl))))

choice_one : (s t : Choice) → same_choice s t ≡ true → s ≡ t
choice_one s t h =
    let is_processing : s.processing ≡ t.processing = (processing_exact s.processing t.processing).0 (first_true _ _ h) in
    let h0 = second_true (same_processing s.processing t.processing) _ h in
    let is_rules : s.rules ≡ t.rules = (rules_exact s.rules t.rules).0 (first_true _ _ h0) in
    let h1 = second_true (pointwise same_rule s.rules t.rules) _ h0 in
    let is_default : s.default ≡ t.default = (option_exact same_text text_exact s.default t.default).0 h1 in
    λ i. record { processing = is_processing i; rules = is_rules i; default = is_default i }

pub choice_exact : IsExact same_choice
choice_exact = exact same_choice choice_one (λ s. both_true ((processing_exact s.processing s.processing).1 refl) (both_true ((rules_exact s.rules s.rules).1 refl) ((option_exact same_text text_exact s.default s.default).1 refl)))

wait_one : (s t : Wait) → same_wait s t ≡ true → s ≡ t
wait_one s t h =
    let is_processing : s.processing ≡ t.processing = (processing_exact s.processing t.processing).0 (first_true _ _ h) in
    let h0 = second_true (same_processing s.processing t.processing) _ h in
    let is_transition : s.transition ≡ t.transition = (transition_exact s.transition t.transition).0 h0 in
    λ i. record { processing = is_processing i; transition = is_transition i }

pub wait_exact : IsExact same_wait
wait_exact = exact same_wait wait_one (λ s. both_true ((processing_exact s.processing s.processing).1 refl) ((transition_exact s.transition s.transition).1 refl))

succeed_one : (s t : Succeed) → same_succeed s t ≡ true → s ≡ t
succeed_one s t h =
    let is_processing : s.processing ≡ t.processing = (processing_exact s.processing t.processing).0 h in
    λ i. record { processing = is_processing i }

pub succeed_exact : IsExact same_succeed
succeed_exact = exact same_succeed succeed_one (λ s. (processing_exact s.processing s.processing).1 refl)

fail_one : (s t : Fail) → same_fail s t ≡ true → s ≡ t
fail_one s t h =
    let is_error : s.error ≡ t.error = (text_exact s.error t.error).0 (first_true _ _ h) in
    let h0 = second_true (same_text s.error t.error) _ h in
    let is_cause : s.cause ≡ t.cause = (text_exact s.cause t.cause).0 h0 in
    λ i. record { error = is_error i; cause = is_cause i }

pub fail_exact : IsExact same_fail
fail_exact = exact same_fail fail_one (λ s. both_true ((text_exact s.error s.error).1 refl) ((text_exact s.cause s.cause).1 refl))
