-- A tree of numbers for each machine and state, and no tree for two: by it a proof tells machines apart.
use base.Stored.{Gv, gnil, gnum, gcons}
use Rattle.std.specs.Prelude.{◌≡◌, ℕ, List, [], ◌∷◌, Option, refl}
use Rattle.std.specs.Coded.{Coded, coded_ℕ, coded_list, coded_option, coded×, code_by}
use Rattle.std.proofs.Common.{ap, ap₂}
use Rattle.asl_states.specs.PayloadCode.{payload_code, steps_code}
use Rattle.asl_states.specs.Templates.{Payload}
use Rattle.asl_tree.specs.Definition.{StateTree, pass, task, choice, wait, succeed, fail, parallel, map_over, MachineTree, machine, MachineTrees, no_machines, branch, NamedStates, no_states, named, Definition}
use Rattle.asl_states.specs.ErrorHandlingContract as error_handling
use Rattle.asl_states.specs.contracts.state.Choice as choice_state
use Rattle.asl_states.specs.contracts.state.Fail as fail_state
use Rattle.asl_states.specs.contracts.state.Pass as pass_state
use Rattle.asl_states.specs.contracts.state.Processing as processing
use Rattle.asl_states.specs.contracts.state.Succeed as succeed_state
use Rattle.asl_states.specs.contracts.state.Task as task_state
use Rattle.asl_states.specs.contracts.state.Transition as transition
use Rattle.asl_states.specs.contracts.state.Wait as wait_state

abbrev text_code : Coded (List ℕ)
text_code = coded_list coded_ℕ

abbrev selector_code : Coded (Option Payload)
selector_code = coded_option payload_code

abbrev mutual
  pub state_gv : StateTree → Gv
  state_gv (pass s) = gcons (gnum 0) (pass_state.the_row.coded.code s)
  state_gv (task s) = gcons (gnum 1) (task_state.the_row.coded.code s)
  state_gv (choice s) = gcons (gnum 2) (choice_state.the_row.coded.code s)
  state_gv (wait s) = gcons (gnum 3) (wait_state.the_row.coded.code s)
  state_gv (succeed s) = gcons (gnum 4) (succeed_state.the_row.coded.code s)
  state_gv (fail s) = gcons (gnum 5) (fail_state.the_row.coded.code s)
  state_gv (parallel ms p e t) = gcons (gnum 6) (gcons (machines_gv ms) (gcons (processing.the_row.coded.code p) (gcons (error_handling.the_row.coded.code e) (transition.the_row.coded.code t))))
  state_gv (map_over m path selector k p e t) =
      gcons (gnum 7)
      (gcons (machine_gv m)
      (gcons (steps_code.code path)
      (gcons (selector_code.code selector)
      (gcons (gnum k) (gcons (processing.the_row.coded.code p) (gcons (error_handling.the_row.coded.code e) (transition.the_row.coded.code t)))))))

  pub machine_gv : MachineTree → Gv
  machine_gv (machine start states) = gcons (text_code.code start) (named_gv states)

  pub machines_gv : MachineTrees → Gv
  machines_gv no_machines = gnil
  machines_gv (branch m ms) = gcons (machine_gv m) (machines_gv ms)

  pub named_gv : NamedStates → Gv
  named_gv no_states = gnil
  named_gv (named name s ss) = gcons (text_code.code name) (gcons (state_gv s) (named_gv ss))

abbrev first_of : Gv → Gv
first_of gnil = gnil
first_of (gnum n) = gnil
first_of (gcons a b) = a

abbrev rest_of : Gv → Gv
rest_of gnil = gnil
rest_of (gnum n) = gnil
rest_of (gcons a b) = b

-- what is left of a list without its first elements
abbrev from_2 : Gv → Gv
from_2 g = rest_of (rest_of g)

abbrev from_3 : Gv → Gv
from_3 g = rest_of (from_2 g)

abbrev from_4 : Gv → Gv
from_4 g = rest_of (from_3 g)

abbrev from_5 : Gv → Gv
from_5 g = rest_of (from_4 g)

abbrev from_6 : Gv → Gv
from_6 g = rest_of (from_5 g)

abbrev from_7 : Gv → Gv
from_7 g = rest_of (from_6 g)

abbrev number_of : Gv → ℕ
number_of gnil = 0
number_of (gnum n) = n
number_of (gcons a b) = 0

mutual
  pub state_inj : (s u : StateTree) → state_gv s ≡ state_gv u → s ≡ u
  state_inj (pass s) (pass u) h = ap pass (pass_state.the_row.coded.inj s u (ap rest_of h))
  state_inj (task s) (task u) h = ap task (task_state.the_row.coded.inj s u (ap rest_of h))
  state_inj (choice s) (choice u) h = ap choice (choice_state.the_row.coded.inj s u (ap rest_of h))
  state_inj (wait s) (wait u) h = ap wait (wait_state.the_row.coded.inj s u (ap rest_of h))
  state_inj (succeed s) (succeed u) h = ap succeed (succeed_state.the_row.coded.inj s u (ap rest_of h))
  state_inj (fail s) (fail u) h = ap fail (fail_state.the_row.coded.inj s u (ap rest_of h))
  state_inj (parallel ms p e t) (parallel ns q f u) h =
      let same_machines : ms ≡ ns = machines_inj ms ns (ap (λ g. first_of (rest_of g)) h) in
      let same_processing : p ≡ q = processing.the_row.coded.inj p q (ap (λ g. first_of (from_2 g)) h) in
      let same_errors : e ≡ f = error_handling.the_row.coded.inj e f (ap (λ g. first_of (from_3 g)) h) in
      let same_transition : t ≡ u = transition.the_row.coded.inj t u (ap from_4 h) in
      cc
  state_inj (map_over m path selector k p e t) (map_over n way chooser l q f u) h =
      let same_machine : m ≡ n = machine_inj m n (ap (λ g. first_of (rest_of g)) h) in
      let same_path : path ≡ way = steps_code.inj path way (ap (λ g. first_of (from_2 g)) h) in
      let same_selector : selector ≡ chooser = selector_code.inj selector chooser (ap (λ g. first_of (from_3 g)) h) in
      let same_bound : k ≡ l = ap (λ g. number_of (first_of (from_4 g))) h in
      let same_processing : p ≡ q = processing.the_row.coded.inj p q (ap (λ g. first_of (from_5 g)) h) in
      let same_errors : e ≡ f = error_handling.the_row.coded.inj e f (ap (λ g. first_of (from_6 g)) h) in
      let same_transition : t ≡ u = transition.the_row.coded.inj t u (ap from_7 h) in
      cc
  state_inj _ _ h = cc

  pub machine_inj : (m n : MachineTree) → machine_gv m ≡ machine_gv n → m ≡ n
  machine_inj (machine start states) (machine begin others) h = ap₂ machine (text_code.inj start begin (ap first_of h)) (named_inj states others (ap rest_of h))

  pub machines_inj : (ms ns : MachineTrees) → machines_gv ms ≡ machines_gv ns → ms ≡ ns
  machines_inj no_machines no_machines h = refl
  machines_inj (branch m ms) (branch n ns) h = ap₂ branch (machine_inj m n (ap first_of h)) (machines_inj ms ns (ap rest_of h))
  machines_inj _ _ h = cc

  pub named_inj : (ss us : NamedStates) → named_gv ss ≡ named_gv us → ss ≡ us
  named_inj no_states no_states h = refl
  named_inj (named name s ss) (named other u us) h =
      let same_name : name ≡ other = text_code.inj name other (ap first_of h) in
      let same_state : s ≡ u = state_inj s u (ap (λ g. first_of (rest_of g)) h) in
      let same_rest : ss ≡ us = named_inj ss us (ap from_2 h) in
      cc
  named_inj _ _ h = cc

abbrev pub state_code : Coded StateTree
state_code = record { code = state_gv; inj = state_inj }

abbrev pub states_code : Coded (List (List ℕ × StateTree))
states_code = coded_list (coded× text_code state_code)

abbrev pub definition_code : Coded Definition
definition_code =
    code_by (List ℕ × List (List ℕ × StateTree)) (coded× text_code states_code) (λ d. (d.start, d.states)) (λ p. record { start = p.0; states = p.1 }) (λ _. refl)

abbrev pub branches_code : Coded (List Definition)
branches_code = coded_list definition_code
