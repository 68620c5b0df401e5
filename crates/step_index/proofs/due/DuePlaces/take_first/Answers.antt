use Rattle.step_index.specs.declared.due.DuePlaces.{DuePlaces}
use Rattle.step_index.proofs.Opened.{taken}
use Rattle.step_index.proofs.due.DuePlaces.take_first.Goals as goal

pub returns : goal.returns
returns c rs from due =
    let new : DuePlaces = record c.args.self.now { places = c.pop.new.self } in
    taken rs from c.args.self.now new c.pop.result due (record { threads = λ k h. h; execs = λ k h. h; gates = λ k h. h; keys = λ k h. h; writes = λ k h. h }) (record { threads = λ k h. h; execs = λ k h. h; gates = λ k h. h; keys = λ k h. h; writes = λ k h. h }) c.pop.ensures
