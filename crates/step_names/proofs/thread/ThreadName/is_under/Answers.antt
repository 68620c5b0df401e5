use Rattle.std.proofs.Common.{rules, ◌≡◌}
use Rattle.step_names.specs.Under.{is_under}
use Rattle.step_names.proofs.UnderLaws.{under_by}
use Rattle.step_names.proofs.thread.ThreadName.is_under.Goals as goal

pub returns-then-eq-clause-under : goal.returns-then-eq-clause-under
returns-then-eq-clause-under c =
    let test : c.goes_on_by.result ≡ is_under c.args.self.now c.args.thread.now c.args.fork = search rules in
    under_by c.goes_on_by.result c.args.self.now c.args.thread.now c.args.fork test
