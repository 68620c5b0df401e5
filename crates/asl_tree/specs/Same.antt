-- Equality of machines and of what they are made of.
use Rattle.std.specs.Prelude.{◌≡◌, ℕ, ◌==◌, Bool, true, false, ◌&&◌, List, [], ◌∷◌, refl}
use Rattle.std.proofs.Common.{ap, sym, ◌∙◌}
use Rattle.std.proofs.lemmas.Bool.{eqb-true, eq-eqb}
use Rattle.std.specs.Cmp.Derive.{both_true}
use Rattle.std.specs.Option.{option_eq}
use Rattle.asl_states.specs.PathSame.{same_text, same_payload_path, same_payload, IsExact, exact, first_true, second_true, text_exact, path_exact, payload_exact, option_exact}
use Rattle.asl_states.specs.ErrorSame.{same_handling, handling_exact}
use Rattle.asl_tree.specs.Definition.{StateTree, pass, task, choice, wait, succeed, fail, parallel, map_over, MachineTree, machine, MachineTrees, no_machines, branch, NamedStates, no_states, named, Definition, states_in, named_states, definition_in, machine_tree}
use Rattle.asl_states.specs.Same.{same_transition, same_processing, same_pass, same_task, same_choice, same_wait, same_succeed, same_fail, transition_exact, processing_exact, pass_exact, task_exact, choice_exact, wait_exact, succeed_exact, fail_exact}

abbrev mutual
  pub same_state : StateTree → StateTree → Bool
  same_state (pass s) (pass t) = same_pass s t
  same_state (task s) (task t) = same_task s t
  same_state (choice s) (choice t) = same_choice s t
  same_state (wait s) (wait t) = same_wait s t
  same_state (succeed s) (succeed t) = same_succeed s t
  same_state (fail s) (fail t) = same_fail s t
  same_state (parallel ms p e t) (parallel ns q f u) = same_machines ms ns && (same_processing p q && (same_handling e f && same_transition t u))
  same_state (map_over m path selector k p e t) (map_over n way chooser l q f u) =
      same_machine m n && (same_payload_path path way && (option_eq same_payload selector chooser && ((k == l) && (same_processing p q && (same_handling e f && same_transition t u)))))
  same_state _ _ = false

  pub same_machine : MachineTree → MachineTree → Bool
  same_machine (machine start states) (machine begin others) = same_text start begin && same_states states others

  pub same_machines : MachineTrees → MachineTrees → Bool
  same_machines no_machines no_machines = true
  same_machines no_machines (branch n ns) = false
  same_machines (branch m ms) no_machines = false
  same_machines (branch m ms) (branch n ns) = same_machine m n && same_machines ms ns

  pub same_states : NamedStates → NamedStates → Bool
  same_states no_states no_states = true
  same_states no_states (named other u us) = false
  same_states (named name s ss) no_states = false
  same_states (named name s ss) (named other u us) = same_text name other && (same_state s u && same_states ss us)

-- two machines are equal
abbrev pub same_definition : Definition → Definition → Bool
same_definition d e = same_machine (machine_tree d) (machine_tree e)

-- ---- they hold of equal values alone

equal_numbers : (k l : ℕ) → (k == l) ≡ true → k ≡ l
equal_numbers k l h = eqb-true k l h

number_itself : (k : ℕ) → (k == k) ≡ true
number_itself k = eq-eqb k k refl

mutual
  state_one : (s t : StateTree) → same_state s t ≡ true → s ≡ t
  state_one (pass s) (pass t) h = ap pass ((pass_exact s t).0 h)
  state_one (task s) (task t) h = ap task ((task_exact s t).0 h)
  state_one (choice s) (choice t) h = ap choice ((choice_exact s t).0 h)
  state_one (wait s) (wait t) h = ap wait ((wait_exact s t).0 h)
  state_one (succeed s) (succeed t) h = ap succeed ((succeed_exact s t).0 h)
  state_one (fail s) (fail t) h = ap fail ((fail_exact s t).0 h)
  state_one (parallel ms p e t) (parallel ns q f u) h =
      let machines : ms ≡ ns = machines_one ms ns (first_true _ _ h) in
      let h1 = second_true (same_machines ms ns) _ h in
      let processing : p ≡ q = (processing_exact p q).0 (first_true _ _ h1) in
      let h2 = second_true (same_processing p q) _ h1 in
      let errors : e ≡ f = (handling_exact e f).0 (first_true _ _ h2) in
      let transition : t ≡ u = (transition_exact t u).0 (second_true (same_handling e f) _ h2) in
      cc
  state_one (map_over m path selector k p e t) (map_over n way chooser l q f u) h =
      let machines : m ≡ n = machine_one m n (first_true _ _ h) in
      let h1 = second_true (same_machine m n) _ h in
      let items : path ≡ way = (path_exact path way).0 (first_true _ _ h1) in
      let h2 = second_true (same_payload_path path way) _ h1 in
      let selection : selector ≡ chooser = (option_exact same_payload payload_exact selector chooser).0 (first_true _ _ h2) in
      let h3 = second_true (option_eq same_payload selector chooser) _ h2 in
      let bound : k ≡ l = equal_numbers k l (first_true _ _ h3) in
      let h4 = second_true (k == l) _ h3 in
      let processing : p ≡ q = (processing_exact p q).0 (first_true _ _ h4) in
      let h5 = second_true (same_processing p q) _ h4 in
      let errors : e ≡ f = (handling_exact e f).0 (first_true _ _ h5) in
      let transition : t ≡ u = (transition_exact t u).0 (second_true (same_handling e f) _ h5) in
      cc
  state_one _ _ h = cc

  machine_one : (m n : MachineTree) → same_machine m n ≡ true → m ≡ n
  machine_one (machine start states) (machine begin others) h =
      let first : start ≡ begin = (text_exact start begin).0 (first_true _ _ h) in
      let rest : states ≡ others = states_one states others (second_true (same_text start begin) _ h) in
      cc

  machines_one : (ms ns : MachineTrees) → same_machines ms ns ≡ true → ms ≡ ns
  machines_one no_machines no_machines h = refl
  machines_one no_machines (branch n ns) h = cc
  machines_one (branch m ms) no_machines h = cc
  machines_one (branch m ms) (branch n ns) h =
      let first : m ≡ n = machine_one m n (first_true _ _ h) in
      let rest : ms ≡ ns = machines_one ms ns (second_true (same_machine m n) _ h) in
      cc

  states_one : (ss us : NamedStates) → same_states ss us ≡ true → ss ≡ us
  states_one no_states no_states h = refl
  states_one no_states (named other u us) h = cc
  states_one (named name s ss) no_states h = cc
  states_one (named name s ss) (named other u us) h =
      let is_name : name ≡ other = (text_exact name other).0 (first_true _ _ h) in
      let h1 = second_true (same_text name other) _ h in
      let first : s ≡ u = state_one s u (first_true _ _ h1) in
      let rest : ss ≡ us = states_one ss us (second_true (same_state s u) _ h1) in
      cc

mutual
  state_itself : (s : StateTree) → same_state s s ≡ true
  state_itself (pass s) = (pass_exact s s).1 refl
  state_itself (task s) = (task_exact s s).1 refl
  state_itself (choice s) = (choice_exact s s).1 refl
  state_itself (wait s) = (wait_exact s s).1 refl
  state_itself (succeed s) = (succeed_exact s s).1 refl
  state_itself (fail s) = (fail_exact s s).1 refl
  state_itself (parallel ms p e t) = both_true (machines_itself ms) (both_true ((processing_exact p p).1 refl) (both_true ((handling_exact e e).1 refl) ((transition_exact t t).1 refl)))
  state_itself (map_over m path selector k p e t) =
      both_true (machine_itself m)
      (both_true ((path_exact path path).1 refl)
      (both_true ((option_exact same_payload payload_exact selector selector).1 refl)
      (both_true (number_itself k) (both_true ((processing_exact p p).1 refl) (both_true ((handling_exact e e).1 refl) ((transition_exact t t).1 refl))))))

  machine_itself : (m : MachineTree) → same_machine m m ≡ true
  machine_itself (machine start states) = both_true ((text_exact start start).1 refl) (states_itself states)

  machines_itself : (ms : MachineTrees) → same_machines ms ms ≡ true
  machines_itself no_machines = refl
  machines_itself (branch m ms) = both_true (machine_itself m) (machines_itself ms)

  states_itself : (ss : NamedStates) → same_states ss ss ≡ true
  states_itself no_states = refl
  states_itself (named name s ss) = both_true ((text_exact name name).1 refl) (both_true (state_itself s) (states_itself ss))

-- a machine is told by its tree
states_in-named_states : (ss : List (List ℕ × StateTree)) → states_in (named_states ss) ≡ ss
states_in-named_states [] = refl
states_in-named_states (s ∷ ss) = ap (λ us. s ∷ us) (states_in-named_states ss)

pub definition_in-machine_tree : (d : Definition) → definition_in (machine_tree d) ≡ d
definition_in-machine_tree d = ap (λ (ss : List (List ℕ × StateTree)). let r : Definition = record { start = d.start; states = ss } in r) (states_in-named_states d.states)

definition_one : (d e : Definition) → same_definition d e ≡ true → d ≡ e
definition_one d e h =
    let trees : machine_tree d ≡ machine_tree e = machine_one (machine_tree d) (machine_tree e) h in
    sym (definition_in-machine_tree d) ∙ ap definition_in trees ∙ definition_in-machine_tree e

pub definition_exact : IsExact same_definition
definition_exact = exact same_definition definition_one (λ d. machine_itself (machine_tree d))
