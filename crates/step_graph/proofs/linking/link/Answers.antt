use Rattle.std.proofs.Common.{◌∙◌, sym}
use Rattle.step_graph.specs.Edges.{IsEdge}
use Rattle.step_graph.specs.declared.linking.Edge.{Edge}
use Rattle.step_graph.proofs.Linked.{one_more}
use Rattle.step_graph.proofs.linking.link.Goals as goal

pub returns : goal.returns
returns c =
    let e : Edge = record { earlier = c.args.earlier; later = c.args.later; reason = c.in-Some.reason } in
    let is : IsEdge c.args.records.now.items e = record { in_order = c.if-earlier-later.false; within = c.requires; because = sym c.reason_at.ensures ∙ c.in-Some.is } in
    one_more c.args.records.now.items c.args.edges.now.items c.push.new.self.items e is c.in_ok-push.ensures.items
