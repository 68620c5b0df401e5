use Rattle.std.proofs.Common.{◌≡◌, ◌++◌, ◌∷◌, sym, ap, ◌∙◌, drop, get_or, length, arith, subst, lit<}
use Rattle.std.specs.Str.{IsUtf8}
use Rattle.ref_paths.proofs.Scans.{quoted_reads, quoted_stops, quote_end_stops, first_of, reads_as, after_first}
use Rattle.ref_paths.proofs.reading.read_quoted_name.Goals as goal

pub returns-in_default-clause-err : goal.returns-in_default-clause-err
returns-in_default-clause-err c = quoted_stops c.args.text.now c.in_default.ensures

pub returns-then-not-begins_with-clause-err : goal.returns-then-not-begins_with-clause-err
returns-then-not-begins_with-clause-err c =
    let same = c.as_bytes.ensures.value in
    quote_end_stops c.args.text.now c.in-Some.name.now c.in-Some.rest.now c.in-Some.ensures.0 c.in-Some.ensures.1
    (λ some is. c.begins_with.ensures.no c.if-not-begins_with.true (omega (arith, ap length same)) (ap (λ x. get_or x 0 0) same ∙ is))

pub range_from-requires : goal.range_from-requires
range_from-requires c =
    let same = c.as_bytes.ensures.value in
    let yes = c.begins_with.ensures.yes c.if-not-begins_with.false in
    λ _. after_first c.in-Some.rest.now c.as_bytes.result.now 93 same (subst IsUtf8 same c.as_bytes.ensures.utf8) yes.0 yes.1 (lit< tt)

pub returns-clause-ok : goal.returns-clause-ok
returns-clause-ok c =
    let same = c.as_bytes.ensures.value in
    let yes = c.begins_with.ensures.yes c.if-not-begins_with.false in
    let rest = c.in-Some.rest.now in
    let first : rest ≡ 93 ∷ drop 1 rest = first_of rest 93 (omega (arith, ap length same)) (ap (λ x. get_or x 0 0) (sym same) ∙ yes.1) in
    reads_as _ _ _ _ _ c.in_ok-name.ensures c.range_from.ensures.value (quoted_reads c.args.text.now c.in-Some.name.now (drop 1 rest) (c.in-Some.ensures.0 ∙ ap (λ x. c.in-Some.name.now ++ 39 ∷ x) first) c.in-Some.ensures.1)
