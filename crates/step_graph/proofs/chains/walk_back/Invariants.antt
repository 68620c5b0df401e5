use Rattle.std.proofs.Common.{◌<◌, length}
use Rattle.step_graph.specs.Chains.{IsChain}
use Rattle.step_graph.proofs.chains.walk_back.Given as goal

-- the chain so far goes from here on
abbrev pub invariant-loop-number : goal.invariant-loop-number
invariant-loop-number l = (l.number < length l.reached) × IsChain l.records.items l.here l.to l.chain.items

abbrev pub decreases-loop-number : goal.decreases-loop-number
decreases-loop-number l = l.number
