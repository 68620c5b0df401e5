-- Chains of direct dependences, from one step to one of its consequences.
use Rattle.std.specs.Prelude.{◌≡◌, ℕ, Bool, ◌&&◌, nat_lt, List, [], ◌∷◌, IsTrue, is_some}
use Rattle.saved_steps.specs.declared.record.StepRecord.{StepRecord}
use Rattle.step_graph.specs.Edges.{reason_at}

-- the step at the later place depends directly on the one at the earlier place
abbrev pub is_link : List StepRecord → ℕ → ℕ → Bool
is_link rs a b = nat_lt a b && is_some (reason_at rs a b)

-- each place depends directly on the one before it
abbrev pub AreChained : List StepRecord → ℕ → List ℕ → Type 0
AreChained rs a [] = Unit {0}
AreChained rs a (b ∷ rest) = IsTrue (is_link rs a b) × AreChained rs b rest

abbrev pub end_of : ℕ → List ℕ → ℕ
end_of a [] = a
end_of a (b ∷ rest) = end_of b rest

-- The places begin and end with these two, and each depends directly on the one before it.
pub record IsChain (rs : List StepRecord) (from to : ℕ) (chain : List ℕ) : Type 0 where
  pub rest : List ℕ
  pub begins : chain ≡ from ∷ rest
  pub linked : AreChained rs from rest
  pub ends : end_of from rest ≡ to
