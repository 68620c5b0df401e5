-- What tests hold nests less deep than they do.
use denote.Param.Weighed.{most}
use Rattle.std.specs.Prelude.{◌≤◌, max, List, [], ◌∷◌}
use Rattle.std.proofs.Common.{arith}
use Rattle.asl_states.specs.TestTree.{test_depth, tests_depth}
use Rattle.asl_states.specs.TestView.{test_of, tests_of}
use Rattle.asl_states.specs.declared.choice.Test.{Test}
use Rattle.asl_states.specs.declared.choice.Test.TheVariants.{And, Or, Not, Compare}
use Rattle.asl_states.specs.declared.choice.InnerTest.TheDeep.{deep-Test}

deep_le : (t : Test) → deep-Test t ≤ test_depth (test_of t)
deep_le (And ts) = omega arith
deep_le (Or ts) = omega arith
deep_le (Not t) = omega arith
deep_le (Compare path comparison) = omega arith

pub tests_fall : (ts : List Test) → max (most (λ t. deep-Test t) ts) 0 ≤ tests_depth (tests_of ts)
tests_fall [] = omega arith
tests_fall (t ∷ ts) = omega (arith, deep_le t, tests_fall ts)

pub inner_falls : (t : Test) → max (deep-Test t) 0 ≤ test_depth (test_of t)
inner_falls t = omega (arith, deep_le t)
