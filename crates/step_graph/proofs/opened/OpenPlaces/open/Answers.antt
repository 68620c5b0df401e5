use Rattle.std.proofs.Common.{ℕ, Bool}
use Rattle.step_graph.specs.Opened.{AreOpen, OpensKey, and_one}
use Rattle.step_graph.proofs.Opens.{if_ok, one_opened}
use Rattle.step_graph.proofs.opened.OpenPlaces.open.Goals as goal

pub returns : goal.returns
returns c =
    let rs = c.args.records.now.items in
    if_ok c.open_key.result _ _
    (λ by_key opened was. one_opened rs opened c.args.self.now.execs c.args.self.now.keys c.open_exec.new.execs c.open_key.new.keys was c.args.place c.requires c.in_ok-open_exec.ensures by_key) c.open_key.ensures
