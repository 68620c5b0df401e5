-- Chains grow at their beginning.
use Rattle.std.proofs.Common.{ℕ, List, [], ◌∷◌, IsTrue, refl, ap}
use Rattle.saved_steps.specs.declared.record.StepRecord.{StepRecord}
use Rattle.step_graph.specs.Chains.{IsChain, is_link}

pub alone : (rs : List StepRecord) (to : ℕ) → IsChain rs to to (to ∷ [])
alone rs to = record { rest = []; begins = refl; linked = tt; ends = refl }

pub longer : (rs : List StepRecord) (a b to : ℕ) (chain : List ℕ) → IsChain rs b to chain → IsTrue (is_link rs a b) → IsChain rs a to (a ∷ chain)
longer rs a b to chain h link = record { rest = b ∷ h.rest; begins = ap (λ (xs : List ℕ). a ∷ xs) h.begins; linked = (link, h.linked); ends = h.ends }
