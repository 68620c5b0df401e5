use Rattle.std.proofs.Common.{rules, ◌≡◌, ◌==◌, List, [], false, length, codes, sym}
use Rattle.serde_json.specs.Find.{get}
use Rattle.serde_json.specs.View.{view}
use Rattle.asl_states.proofs.TestReadings.{items_read}
use Rattle.asl_states.specs.TestFields.{RulesAre}
use Rattle.asl_states.proofs.rule_readers.read_rules.Goals as goal

pub returns-clause-ok : goal.returns-clause-ok
returns-clause-ok c =
    let vs = c.in-Some.items.now.items in
    let some : (length vs == 0) ≡ false = search rules in
    items_read (λ ds rs. RulesAre ds [] rs) (get (codes "Choices") (view c.args.object.now)) (view c.in_ok-value.value.now) vs c.read_each_rule.result (sym c.in_ok-value.ensures.ok) c.in-Some.ensures some c.read_each_rule.ensures.ok
