-- The names of states that are named where no state has them.
use Rattle.std.specs.Prelude.{ℕ, List, [], ◌∷◌, Bool, Option, Some, None, is_some, not, option_map, if◌then◌else◌}
use Rattle.asl_tree.specs.Complete.{state_of}
use Rattle.asl_tree.specs.Definition.{StateTree}
use Rattle.asl_tree.specs.TreeView.{state_in}
use Rattle.asl_states.specs.declared.choice.Rule.{Rule}
use Rattle.asl_states.specs.Catcher.{Catcher}
use Rattle.asl_states.specs.MachineFault.{MachineFault}
use Rattle.asl_states.specs.MachineFault.TheVariants.{NoTarget}
use Rattle.asl_tree.specs.declared.state.State.{State}
use Rattle.asl_tree.specs.declared.state.State.TheVariants.{Pass, Task, Choice, Wait, Succeed, Fail, Parallel, Map}
use Rattle.asl_states.specs.declared.state.Transition.{Transition}
use Rattle.asl_states.specs.declared.state.Transition.TheVariants.{Next, End}

abbrev pub is_missing : List (List ℕ × StateTree) → List ℕ → Bool
is_missing states name = not (is_some (state_of name states))

-- the name, where no state has it
abbrev pub if_missing : List (List ℕ × StateTree) → List ℕ → Option (List ℕ)
if_missing states name = if is_missing states name then Some name else None

-- the first, and else the other
abbrev pub name_or_else : Option (List ℕ) → Option (List ℕ) → Option (List ℕ)
name_or_else (Some name) other = Some name
name_or_else None other = other

abbrev pub missing_next : List (List ℕ × StateTree) → Transition → Option (List ℕ)
missing_next states (Next name) = if_missing states name
missing_next states End = None

abbrev pub missing_catcher : List (List ℕ × StateTree) → List Catcher → Option (List ℕ)
missing_catcher states [] = None
missing_catcher states (c ∷ cs) = name_or_else (if_missing states c.next) (missing_catcher states cs)

abbrev pub missing_rule : List (List ℕ × StateTree) → List Rule → Option (List ℕ)
missing_rule states [] = None
missing_rule states (r ∷ rs) = name_or_else (if_missing states r.next) (missing_rule states rs)

abbrev pub missing_default : List (List ℕ × StateTree) → Option (List ℕ) → Option (List ℕ)
missing_default states None = None
missing_default states (Some name) = if_missing states name

-- the first name that a state may go to and that is no state's
abbrev pub missing_target : List (List ℕ × StateTree) → State → Option (List ℕ)
missing_target states (Pass s) = missing_next states s.transition
missing_target states (Task s) = name_or_else (missing_next states s.transition) (missing_catcher states s.errors.catchers)
missing_target states (Choice s) = name_or_else (missing_rule states s.rules) (missing_default states s.default)
missing_target states (Wait s) = missing_next states s.transition
missing_target states (Succeed s) = None
missing_target states (Fail s) = None
missing_target states (Parallel s) = name_or_else (missing_next states s.transition) (missing_catcher states s.errors.catchers)
missing_target states (Map s) = name_or_else (missing_next states s.transition) (missing_catcher states s.errors.catchers)

-- of these among the states
abbrev pub first_missing : List (List ℕ × StateTree) → List (List ℕ × StateTree) → Option (List ℕ)
first_missing states [] = None
first_missing states (s ∷ ss) = name_or_else (missing_target states (state_in s.1)) (first_missing states ss)

-- the first name that is to be a state's and is none's
abbrev pub target_fault : List ℕ → List (List ℕ × StateTree) → Option MachineFault
target_fault start states = option_map NoTarget (name_or_else (if_missing states start) (first_missing states states))
