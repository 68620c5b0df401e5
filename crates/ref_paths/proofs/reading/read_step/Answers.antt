use Rattle.std.proofs.Common.{ap, ◌∙◌, get_or, length, arith, lit<}
use Rattle.ref_paths.proofs.Scans.{begin_stops, after_first}
use Rattle.ref_paths.proofs.reading.read_step.Goals as goal

pub range_from-requires : goal.range_from-requires
range_from-requires c =
    let yes = c.begins_with.ensures.yes c.if-begins_with.true in
    λ _. after_first c.args.text.now c.as_bytes.result.now 46 c.as_bytes.ensures.value c.utf8.text yes.0 yes.1 (lit< tt)

pub returns-then-not-begins_with-clause-err : goal.returns-then-not-begins_with-clause-err
returns-then-not-begins_with-clause-err c =
    let same = c.as_bytes.ensures.value in
    let same-2 = c.as_bytes-2.ensures.value in
    begin_stops c.args.text.now c.requires
    (λ is. c.begins_with.ensures.no c.if-begins_with.false (omega (arith, ap length same)) (ap (λ x. get_or x 0 0) same ∙ is))
    (λ is. c.begins_with-2.ensures.no c.if-not-begins_with.true (omega (arith, ap length same-2)) (ap (λ x. get_or x 0 0) same-2 ∙ is))

pub range_from-inside-requires : goal.range_from-inside-requires
range_from-inside-requires c =
    let yes = c.begins_with-2.ensures.yes c.if-not-begins_with.false in
    λ _. after_first c.args.text.now c.as_bytes-2.result.now 91 c.as_bytes-2.ensures.value c.utf8.text yes.0 yes.1 (lit< tt)

pub range_from-requires-then-begins_with-2 : goal.range_from-requires-then-begins_with-2
range_from-requires-then-begins_with-2 c =
    let yes = c.begins_with-3.ensures.yes c.if-begins_with-2.true in
    λ _. after_first c.range_from-inside.result.now c.as_bytes-3.result.now 39 c.as_bytes-3.ensures.value c.range_from-inside.utf8 yes.0 yes.1 (lit< tt)
