use Rattle.std.proofs.Common.{All}
use Rattle.step_graph.specs.Edges.{IsEdge}
use Rattle.step_graph.proofs.linking.edges.Given as goal

-- what was told so far are dependences
abbrev pub invariant-loop-at : goal.invariant-loop-at
invariant-loop-at l = All (IsEdge l.records.items) l.edges.items
