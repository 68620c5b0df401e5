use Rattle.std.proofs.Common.{rules, ◌≡◌, ◌≤◌, length, get_or}
use Rattle.std.specs.Int.{IsInRange}
use Rattle.json_tree.proofs.Commonest.{parsed_is_spelled}
use Rattle.json_tree.proofs.common.whole_number.Goals as goal

pub returns : goal.returns
returns c =
    let same : c.in-Ok.text.now ≡ c.args.bytes.now = search rules in
    let digit : IsInRange 48 57 (get_or c.args.bytes.now 0 0) = search rules in
    let alone : get_or c.args.bytes.now 0 0 ≡ 48 → length c.args.bytes.now ≤ 1 = λ e. search (rules, e) in
    rw (c.ok.ensures.value) (parsed_is_spelled c.args.bytes.now c.in-Ok.text.now c.parse.result same c.parse.ensures.value.0 digit alone)
