use Rattle.std.proofs.lemmas.Result.{on_ok_weaker}
use Rattle.step_index.specs.Near.{shares_by_access, shares_by_name}
use Rattle.step_index.proofs.Opened.{further_both}
use Rattle.step_index.proofs.due.DuePlaces.open.Goals as goal

pub returns-clause-further : goal.returns-clause-further
returns-clause-further c =
    let f = c.args.fact.now in
    on_ok_weaker c.open_by_access.result (further_both (shares_by_name f) (shares_by_access f.access) c.args.records.now c.args.at c.args.self.now c.open_by_name.new.self c.open_by_access.new.self c.in_ok-open_by_name.ensures.further)
    c.open_by_access.ensures.further
