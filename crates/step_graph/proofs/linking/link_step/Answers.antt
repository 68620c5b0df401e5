use Rattle.step_graph.proofs.linking.link_step.Goals as goal

pub returns : goal.returns
returns c = λ before. c.in_ok-link_awaited.ensures (c.in_ok-link_all.ensures before)
