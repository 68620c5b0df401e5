use Rattle.std.proofs.Common.{List, ℕ, take, get_or, Some, sym, ◌∙◌, subst}
use Rattle.std.proofs.lemmas.List.{take_more}
use Rattle.ref_paths.specs.Scanner.{IsIndexSoFar}
use Rattle.ref_paths.proofs.Scans.{digit_more}
use Rattle.ref_paths.proofs.reading.read_digits.Goals as goal

pub loop-end-preserved : goal.loop-end-preserved
loop-end-preserved c =
    let bytes = c.args.bytes.now in
    let i = c.loop-end.end in
    let byte = get_or bytes i 0 in
    subst (λ (x : List ℕ). IsIndexSoFar (Some c.in-Some.longer) x) (sym (take_more bytes i 0 c.loop-end-test.true))
    (digit_more c.loop-end.index (take i bytes) byte c.in-Some.longer c.loop-end.invariant (sym (sym c.in-Some.is ∙ c.with_digit.ensures)))
