use Rattle.std.proofs.Common.{◌≡◌, ◌≢◌, ◌<◌, ℕ, List, Option, Some, true, is_some, length, get_or, take, arith, sym, ap, ◌∙◌, subst}
use Rattle.std.proofs.lemmas.Str.{IsCharBoundary-after_ascii}
use Rattle.ref_paths.specs.Scanner.{IsIndexSoFar, extended}
use Rattle.ref_paths.proofs.Scans.{index_reads, index_reads_as, index_stops, no_some}
use Rattle.ref_paths.proofs.reading.read_index.Goals as goal
use Rattle.ref_paths.proofs.reading.read_index.Goals.{in_default-via-in-Some+then-end-bytes+else-bytes-end-eq93, in_default-via-in-Some+else-end-bytes, in_default-via-in_default}

pub range_from-requires : goal.range_from-requires
range_from-requires c =
    let same = c.as_bytes-bytes.ensures.value in
    let e = c.read_digits-index.result.1 in
    let at : get_or c.args.text.now e 0 ≡ 93 = ap (λ t. get_or t e 0) (sym same) ∙ c.if-bytes-end-eq93.true in
    λ _. IsCharBoundary-after_ascii c.args.text.now e c.utf8.text (omega (arith, ap length same)) (omega arith)

pub returns-in-Some-clause-ok : goal.returns-in-Some-clause-ok
returns-in-Some-clause-ok c =
    let same = c.as_bytes-bytes.ensures.value in
    let t = c.args.text.now in
    let e = c.read_digits-index.result.1 in
    let at : get_or t e 0 ≡ 93 = ap (λ t. get_or t e 0) (sym same) ∙ c.if-bytes-end-eq93.true in
    let so_far : IsIndexSoFar (Some c.in-Some.index) (take e t) = subst (λ (x : List ℕ). IsIndexSoFar (Some c.in-Some.index) (take e x)) same (subst (λ (o : Option ℕ). IsIndexSoFar o (take e c.as_bytes-bytes.result.now)) c.in-Some.is c.read_digits-index.ensures.numeral) in
    index_reads_as _ c.in-Some.index _ _ c.range_from.ensures.value (index_reads t c.in-Some.index e (omega (arith, ap length same)) so_far at)

pub returns-in_default-clause-err : goal.returns-in_default-clause-err
returns-in_default-clause-err c =
    let same = c.as_bytes-bytes.ensures.value in
    let t = c.args.text.now in
    let o = c.read_digits-index.result.0 in
    let e = c.read_digits-index.result.1 in
    let so_far : IsIndexSoFar o (take e t) = subst (λ (x : List ℕ). IsIndexSoFar o (take e x)) same c.read_digits-index.ensures.numeral in
    let ends : e < length t → is_some o ≡ true → get_or t e 0 ≢ 93 =
    λ high some is. elim c.in_default.branch [
      | in_default-via-in-Some+then-end-bytes+else-bytes-end-eq93 w ↦ w.if-bytes-end-eq93.false (ap (λ x. get_or x e 0) same ∙ is)
      | in_default-via-in-Some+else-end-bytes w ↦ absurd (omega (arith, ap length same))
      | in_default-via-in_default w ↦ no_some o some w.in_default.not-Some
    ] in
    index_stops t o e (omega (arith, ap length same)) so_far (λ h. ap (λ x. extended o (get_or x e 0)) (sym same) ∙ c.read_digits-index.ensures.stops (omega (arith, ap length same))) c.requires ends
