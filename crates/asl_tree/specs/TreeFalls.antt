-- What a machine holds nests less deep than it does.
use denote.Param.Weighed.{most}
use Rattle.std.specs.Prelude.{ℕ, ◌+◌, ◌≤◌, max, List, [], ◌∷◌, map}
use Rattle.std.proofs.Common.{arith}
use Rattle.asl_tree.specs.Definition.{Definition, state_depth, states_depth, definition_depth, branches_depth}
use Rattle.asl_tree.specs.TreeView.{tree_of, states_of}
use Rattle.asl_tree.specs.declared.state.State.{State}
use Rattle.asl_tree.specs.declared.state.State.TheVariants.{Pass, Task, Choice, Wait, Succeed, Fail, Parallel, Map}
use Rattle.asl_tree.specs.declared.state.Branches.TheDeep.{deep-State}

deep_le : (s : State) → deep-State s ≤ state_depth (tree_of s)
deep_le (Pass s) = omega arith
deep_le (Task s) = omega arith
deep_le (Choice s) = omega arith
deep_le (Wait s) = omega arith
deep_le (Succeed s) = omega arith
deep_le (Fail s) = omega arith
deep_le (Parallel s) = omega arith
deep_le (Map s) = omega arith

pub states_fall : (ss : List (List ℕ × State)) → max (most (λ s. deep-State s) (map (λ m. m.1) ss)) 0 ≤ states_depth (states_of ss)
states_fall [] = omega arith
states_fall (s ∷ ss) = omega (arith, deep_le s.1, states_fall ss)

pub branches_fall : (ds : List Definition) → max (most (λ d. definition_depth d + 1) ds) 0 ≤ branches_depth ds
branches_fall [] = omega arith
branches_fall (d ∷ ds) = omega (arith, branches_fall ds)
