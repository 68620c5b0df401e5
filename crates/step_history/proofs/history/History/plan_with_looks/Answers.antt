use Rattle.std.proofs.Common.{arith}
use Rattle.step_index.proofs.NearFacts.{near_by_facts}
use Rattle.step_history.proofs.Worked.{ok_map}
use Rattle.step_history.proofs.history.History.plan_with_looks.Goals as goal

pub returns-clause-looks : goal.returns-clause-looks
returns-clause-looks c = let none = c.requires.none in let most = c.plan_with_looks.ensures.looks in omega (arith, none, most)

pub returns-clause-members : goal.returns-clause-members
returns-clause-members c =
    let none = c.requires.none in
    ok_map _ _ c.plan_with_looks.result (λ p h. omega (arith, none, h)) c.plan_with_looks.ensures.members

pub returns-clause-near : goal.returns-clause-near
returns-clause-near c =
    let none = c.requires.none in
    let rs = c.args.self.now.records.items in
    ok_map _ _ c.plan_with_looks.result (λ p h. let same = near_by_facts rs p c.args.at in omega (arith, none, h, same)) c.plan_with_looks.ensures.near
