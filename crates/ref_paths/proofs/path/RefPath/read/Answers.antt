use Rattle.std.proofs.Common.{◌≡◌, ◌∷◌, sym, ap, ◌∙◌, get_or, length, arith, lit<, refl}
use Rattle.ref_paths.proofs.Scans.{first_of, none_fails, after_first}
use Rattle.ref_paths.proofs.path.RefPath.read.Goals as goal

pub returns-then-not-begins_with-clause-err : goal.returns-then-not-begins_with-clause-err
returns-then-not-begins_with-clause-err c =
    let same = c.as_bytes.ensures.value in
    none_fails c.args.text.now (λ some is. c.begins_with.ensures.no c.if-not-begins_with.true (omega (arith, ap length same)) (ap (λ x. get_or x 0 0) same ∙ is))

pub range_from-requires : goal.range_from-requires
range_from-requires c =
    let yes = c.begins_with.ensures.yes c.if-not-begins_with.false in
    λ _. after_first c.args.text.now c.as_bytes.result.now 36 c.as_bytes.ensures.value c.utf8.text yes.0 yes.1 (lit< tt)

pub returns : goal.returns
returns c =
    let same = c.as_bytes.ensures.value in
    let yes = c.begins_with.ensures.yes c.if-not-begins_with.false in
    let text : c.args.text.now ≡ 36 ∷ c.range_from.result.now =
    first_of c.args.text.now 36 (omega (arith, ap length same, yes.0)) (ap (λ x. get_or x 0 0) (sym same) ∙ yes.1) ∙ ap (λ x. 36 ∷ x) (sym c.range_from.ensures.value) in
    rw text (record { ok = c.read_steps.ensures.ok; err = c.read_steps.ensures.err; memory = λ e. (omega arith, refl) })
