use Rattle.saved_steps.proofs.executions.Executions.first_ready.Goals as goal

pub returns : goal.returns
returns c = rw (← c.self.view_is) c.first_among.ensures
