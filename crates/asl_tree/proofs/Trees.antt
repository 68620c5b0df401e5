-- A machine's tree gives the machine back; and a state is found by its name among the trees as it is among the states.
use Rattle.std.proofs.Common.{◌≡◌, ℕ, List, [], ◌∷◌, Option, Some, Bool, true, false, cond, Ordering, Less, Equal, Greater, option_map, is_eq, refl, ap, ◌∙◌}
use Rattle.std.specs.BTreeMap.{insert_entry, is_at}
use Rattle.std.specs.Cmp.Lexicographic.{slice_cmp}
use Rattle.std.specs.Map.{lookup}
use Rattle.std.specs.Ordering.{nat_cmp, match_ordering}
use Rattle.asl_tree.specs.Complete.{state_of}
use Rattle.asl_tree.specs.Definition.{StateTree, Definition, definitions_in, machine_trees}
use Rattle.asl_tree.specs.Same.{definition_in-machine_tree}
use Rattle.asl_tree.specs.TreeView.{tree_of, state_in, states_of}
use Rattle.asl_tree.specs.declared.state.State.{State}
use Rattle.asl_tree.specs.declared.state.State.TheVariants.{Pass, Task, Choice, Wait, Succeed, Fail, Parallel, Map}

definitions_in-machine_trees : (ds : List Definition) → definitions_in (machine_trees ds) ≡ ds
definitions_in-machine_trees [] = refl
definitions_in-machine_trees (d ∷ ds) = rw (definition_in-machine_tree d, definitions_in-machine_trees ds)

pub state_in-tree_of : (s : State) → state_in (tree_of s) ≡ s
state_in-tree_of (Pass s) = refl
state_in-tree_of (Task s) = refl
state_in-tree_of (Choice s) = refl
state_in-tree_of (Wait s) = refl
state_in-tree_of (Succeed s) = refl
state_in-tree_of (Fail s) = refl
state_in-tree_of (Parallel s) = ap (λ (bs : List Definition). Parallel (record s { branches = bs })) (definitions_in-machine_trees s.branches)
state_in-tree_of (Map s) = ap (λ (d : Definition). Map (record s { processor = d })) (definition_in-machine_tree s.processor)

states_of-match_ordering : (o : Ordering) (a b c : List (List ℕ × State)) → states_of (match_ordering o a b c) ≡ match_ordering o (states_of a) (states_of b) (states_of c)
states_of-match_ordering Less a b c = refl
states_of-match_ordering Equal a b c = refl
states_of-match_ordering Greater a b c = refl

pub states_of-insert_entry : (ss : List (List ℕ × State)) (name : List ℕ) (s : State)
    → states_of (insert_entry (slice_cmp nat_cmp) ss name s) ≡ insert_entry (slice_cmp nat_cmp) (states_of ss) name (tree_of s)
states_of-insert_entry [] name s = refl
states_of-insert_entry (e ∷ ss) name s = states_of-match_ordering (slice_cmp nat_cmp name e.0) _ _ _ ∙ rw (states_of-insert_entry ss name s)

found-cond : (b : Bool) (s : State) (rest : Option State) (found : Option StateTree) → option_map state_in found ≡ rest → option_map state_in (cond b (Some (tree_of s)) found) ≡ cond b (Some s) rest
found-cond true s rest found h = ap Some (state_in-tree_of s)
found-cond false s rest found h = h

pub state_of-states_of : (name : List ℕ) (ss : List (List ℕ × State)) → state_of name (states_of ss) ≡ lookup (is_at (slice_cmp nat_cmp name)) ss
state_of-states_of name [] = refl
state_of-states_of name (e ∷ ss) = found-cond (is_eq (slice_cmp nat_cmp name e.0)) e.1 _ _ (state_of-states_of name ss)
