use Rattle.graph_run.proofs.running.answer_from.Goals as goal

pub returns : goal.returns
returns g c = (c.ask-answered.result, c.tell.ensures)
