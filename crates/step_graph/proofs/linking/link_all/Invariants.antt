use Rattle.std.proofs.Common.{All}
use Rattle.step_graph.specs.Edges.{IsEdge}
use Rattle.step_graph.proofs.linking.link_all.Given as goal

-- what was added so far are dependences
abbrev pub invariant-loop-place : goal.invariant-loop-place
invariant-loop-place l = All (IsEdge l.records.items) l.fn.edges.items → All (IsEdge l.records.items) l.edges.items
