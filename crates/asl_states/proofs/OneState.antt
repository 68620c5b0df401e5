-- An object is one state at most.
use Rattle.std.proofs.Common.{◌≡◌, ℕ, List, Option, Some, None, false, true, sym, ap, ◌∙◌, codes}
use Rattle.serde_json.specs.Data.{Data as Source}
use Rattle.serde_json.specs.Find.{get}
use Rattle.json_tree.specs.declared.tree.Json.{Json}
use Rattle.asl_fields.specs.Templates.{Payload}
use Rattle.asl_fields.specs.PathStep.{PathStep}
use Rattle.asl_fields.proofs.OneField.{one_path, one_template}
use Rattle.asl_states.proofs.OneTest.{rules_are_one}
use Rattle.asl_states.specs.declared.choice.Rule.{Rule}
use Rattle.asl_errors.proofs.OneErrors.{one_error_handling}
use Rattle.asl_errors.specs.declared.errors.ErrorHandling.{ErrorHandling}
use Rattle.asl_states.specs.Profile.{IsProcessing, HasWork, IsPass, IsWait, IsSucceed, IsFail, IsTask, IsChoice, NamedSelector}
use Rattle.asl_states.specs.declared.state.Choice.{Choice}
use Rattle.asl_states.specs.declared.state.Fail.{Fail}
use Rattle.asl_states.specs.declared.state.Pass.{Pass}
use Rattle.asl_states.specs.declared.state.Processing.{Processing}
use Rattle.asl_states.specs.declared.state.Resource.{Resource}
use Rattle.asl_states.specs.declared.state.Succeed.{Succeed}
use Rattle.asl_states.specs.declared.state.Task.{Task}
use Rattle.asl_states.specs.declared.state.Transition.{Transition}
use Rattle.asl_states.specs.declared.state.Wait.{Wait}

abbrev pub made_processing : Option (List PathStep) → Option Payload → Option Payload → Option (List PathStep) → Option (List PathStep) → Processing
made_processing input parameters selector result output =
    record { input_path = input; parameters = parameters; result_selector = selector; result_path = result; output_path = output }

pub one_processing : (d : Source) (p q : Processing) → p.parameters ≡ q.parameters → IsProcessing d p → IsProcessing d q → p ≡ q
one_processing d p q same h k =
    let input : p.input_path ≡ q.input_path = one_path (get (codes "InputPath") d) p.input_path q.input_path h.0 k.0 in
    let selector : p.result_selector ≡ q.result_selector = one_template false (get (codes "ResultSelector") d) p.result_selector q.result_selector h.1 k.1 in
    let placed : p.result_path ≡ q.result_path = one_path (get (codes "ResultPath") d) p.result_path q.result_path h.2 k.2 in
    let output : p.output_path ≡ q.output_path = one_path (get (codes "OutputPath") d) p.output_path q.output_path h.3 k.3 in
    let e : made_processing p.input_path p.parameters p.result_selector p.result_path p.output_path ≡ made_processing q.input_path q.parameters q.result_selector q.result_path q.output_path = cc in
    e

pub one_work : (d : Source) (p q : Processing) (e f : ErrorHandling) (t u : Transition) → p.parameters ≡ q.parameters → HasWork d p e t → HasWork d q f u → (p ≡ q) × (e ≡ f) × (t ≡ u)
one_work d p q e f t u same h k =
    let transitions : Some t ≡ Some u = sym h.2 ∙ k.2 in
    let transition : t ≡ u = cc in
    (one_processing d p q same h.0 k.0, one_error_handling d e f h.1 k.1, transition)

pub one_pass : (d : Source) (s u : Pass) → IsPass d s → IsPass d u → s ≡ u
one_pass d s u h k =
    let parameters : s.processing.parameters ≡ u.processing.parameters = one_template false (get (codes "Parameters") d) s.processing.parameters u.processing.parameters h.1 k.1 in
    let processing : s.processing ≡ u.processing = one_processing d s.processing u.processing parameters h.2 k.2 in
    let results : Some s.result ≡ Some u.result = sym h.3 ∙ k.3 in
    let result : s.result ≡ u.result = cc in
    let transitions : Some s.transition ≡ Some u.transition = sym h.4 ∙ k.4 in
    let transition : s.transition ≡ u.transition = cc in
    let make : Processing → Option Json → Transition → Pass = λ p r t. record { processing = p; result = r; transition = t } in
    ap (λ p. make p s.result s.transition) processing ∙ ap (λ r. make u.processing r s.transition) result ∙ ap (λ t. make u.processing u.result t) transition

pub one_succeed : (d : Source) (s u : Succeed) → IsSucceed d s → IsSucceed d u → s ≡ u
one_succeed d s u h k =
    let processing : s.processing ≡ u.processing = one_processing d s.processing u.processing (h.1 ∙ sym k.1) h.2 k.2 in
    let make : Processing → Succeed = λ p. record { processing = p } in
    ap make processing

pub one_wait : (d : Source) (s u : Wait) → IsWait d s → IsWait d u → s ≡ u
one_wait d s u h k =
    let processing : s.processing ≡ u.processing = one_processing d s.processing u.processing (h.1 ∙ sym k.1) h.2 k.2 in
    let transitions : Some s.transition ≡ Some u.transition = sym h.3 ∙ k.3 in
    let transition : s.transition ≡ u.transition = cc in
    let make : Processing → Transition → Wait = λ p t. record { processing = p; transition = t } in
    ap (λ p. make p s.transition) processing ∙ ap (λ t. make u.processing t) transition

pub one_fail : (d : Source) (s u : Fail) → IsFail d s → IsFail d u → s ≡ u
one_fail d s u h k =
    let errors : Some s.error ≡ Some u.error = sym h.1 ∙ k.1 in
    let error : s.error ≡ u.error = cc in
    let causes : Some s.cause ≡ Some u.cause = sym h.2 ∙ k.2 in
    let cause : s.cause ≡ u.cause = cc in
    let make : List ℕ → List ℕ → Fail = λ a b. record { error = a; cause = b } in
    ap (λ a. make a s.cause) error ∙ ap (λ b. make u.error b) cause

pub one_task : (d : Source) (s u : Task) → IsTask d s → IsTask d u → s ≡ u
one_task d s u h k =
    let resources : Some s.resource ≡ Some u.resource = sym h.1 ∙ k.1 in
    let resource : s.resource ≡ u.resource = cc in
    let parameters : s.processing.parameters ≡ u.processing.parameters = one_template false (get (codes "Parameters") d) s.processing.parameters u.processing.parameters h.2 k.2 in
    let work = one_work d s.processing u.processing s.errors u.errors s.transition u.transition parameters h.3 k.3 in
    let make : Resource → Processing → ErrorHandling → Transition → Task = λ r p e t. record { resource = r; processing = p; errors = e; transition = t } in
    ap (λ r. make r s.processing s.errors s.transition) resource ∙ ap (λ p. make u.resource p s.errors s.transition) work.0
    ∙ ap (λ e. make u.resource u.processing e s.transition) work.1 ∙ ap (λ t. make u.resource u.processing u.errors t) work.2

pub one_choice : (d : Source) (s u : Choice) → IsChoice d s → IsChoice d u → s ≡ u
one_choice d s u h k =
    let rules : s.rules ≡ u.rules = rules_are_one d s.rules u.rules h.1 k.1 in
    let defaults : Some s.default ≡ Some u.default = sym h.2 ∙ k.2 in
    let default : s.default ≡ u.default = cc in
    let processing : s.processing ≡ u.processing = one_processing d s.processing u.processing (h.3 ∙ sym k.3) h.4 k.4 in
    let make : Processing → List Rule → Option (List ℕ) → Choice = λ p r o. record { processing = p; rules = r; default = o } in
    ap (λ p. make p s.rules s.default) processing ∙ ap (λ r. make u.processing r s.default) rules ∙ ap (λ o. make u.processing u.rules o) default

-- ---- where an object is one machine at most

pub one_selector : (d : Source) (name : Option (List ℕ)) (p q : Option Payload) → NamedSelector d name p → NamedSelector d name q → p ≡ q
one_selector d None p q h k = absurd h
one_selector d (Some name) p q h k = one_template true (get name d) p q h k
