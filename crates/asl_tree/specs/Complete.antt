-- A machine is whole: it starts at a state that it has, and each transition leads to one.
use Rattle.std.specs.Prelude.{◌≡◌, ℕ, List, Option, IsSome, IfSome, option_map}
use Rattle.std.specs.Ordering.{nat_cmp}
use Rattle.std.specs.Cmp.Lexicographic.{slice_cmp}
use Rattle.std.specs.BTreeMap.{is_at}
use Rattle.std.specs.List.{AllByRecursion}
use Rattle.std.specs.Map.{lookup}
use Rattle.asl_tree.specs.Definition.{StateTree, Definition}
use Rattle.asl_tree.specs.TreeView.{state_in}
use Rattle.asl_states.specs.declared.choice.Rule.{Rule}
use Rattle.asl_states.specs.Catcher.{Catcher}
use Rattle.asl_tree.specs.declared.state.State.{State}
use Rattle.asl_tree.specs.declared.state.State.TheVariants.{Pass, Task, Choice, Wait, Succeed, Fail, Parallel, Map}
use Rattle.asl_states.specs.declared.state.Transition.{Transition}
use Rattle.asl_states.specs.declared.state.Transition.TheVariants.{Next, End}

-- the state of a name in a `States` object
abbrev pub state_of : List ℕ → List (List ℕ × StateTree) → Option State
state_of name states = option_map state_in (lookup (is_at (slice_cmp nat_cmp name)) states)

-- a name is one of the states'
abbrev pub IsStateName : List (List ℕ × StateTree) → List ℕ → Type 0
IsStateName states name = IsSome (state_of name states)

-- a transition leads to one of the states
abbrev pub LeadsInto : List (List ℕ × StateTree) → Transition → Type 0
LeadsInto states (Next name) = IsStateName states name
LeadsInto states End = Unit {0}

-- a state's transition, or each place that it may go to, leads to one of the states
abbrev pub StaysInside : List (List ℕ × StateTree) → State → Type 0
StaysInside states (Pass s) = LeadsInto states s.transition
StaysInside states (Task s) = LeadsInto states s.transition × AllByRecursion (λ (c : Catcher). IsStateName states c.next) s.errors.catchers
StaysInside states (Choice s) = AllByRecursion (λ (r : Rule). IsStateName states r.next) s.rules × IfSome s.default (IsStateName states)
StaysInside states (Wait s) = LeadsInto states s.transition
StaysInside states (Succeed s) = Unit {0}
StaysInside states (Fail s) = Unit {0}
StaysInside states (Parallel s) = LeadsInto states s.transition × AllByRecursion (λ (c : Catcher). IsStateName states c.next) s.errors.catchers
StaysInside states (Map s) = LeadsInto states s.transition × AllByRecursion (λ (c : Catcher). IsStateName states c.next) s.errors.catchers

-- a machine starts at a state that it has, and stays inside
pub record IsWellFormed (d : Definition) : Type 0 where
  pub starts : IsStateName d.states d.start
  pub stays : (name : List ℕ) → IfSome (state_of name d.states) (StaysInside d.states)
