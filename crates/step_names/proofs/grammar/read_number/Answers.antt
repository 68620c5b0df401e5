use Rattle.std.proofs.Common.{rules, ◌≢◌, get_or, ◌∙◌}
use Rattle.step_names.proofs.Numbers.{number_parsed}
use Rattle.step_names.proofs.grammar.read_number.Goals as goal

pub returns : goal.returns
returns c =
    let plus : get_or c.args.text.now 0 0 ≢ 43 = search rules in
    let not_zero : get_or c.args.text.now 0 0 ≢ 48 = search rules in
    c.ok.ensures.value ∙ number_parsed c.args.text.now c.parse.result c.parse.ensures.value.0 plus not_zero
