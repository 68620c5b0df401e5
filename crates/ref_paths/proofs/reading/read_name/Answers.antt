use Rattle.std.proofs.Common.{◌≡◌, ◌-◌, length, get_or, arith, sym, ap, ◌∙◌, take}
use Rattle.std.specs.List.{list_all}
use Rattle.ref_paths.specs.Grammar.{is_path_name_byte}
use Rattle.ref_paths.proofs.Scans.{name_reads, name_stops, reads_as}
use Rattle.ref_paths.proofs.reading.read_name.Goals as goal

pub returns-then-end-eq0-clause-err : goal.returns-then-end-eq0-clause-err
returns-then-end-eq0-clause-err c =
    let same = c.as_bytes.ensures.value in
    let zero_end = c.if-end-eq0.true in
    name_stops c.args.text.now
    (λ h.
    ap (λ t. is_path_name_byte (get_or t 0 0)) (sym same) ∙ ap (λ e. is_path_name_byte (get_or c.as_bytes.result.now e 0)) (sym zero_end) ∙ c.name_len-end.ensures.stops (omega (arith, ap length same)))

pub returns-clause-ok : goal.returns-clause-ok
returns-clause-ok c =
    let same = c.as_bytes.ensures.value in
    let t = c.args.text.now in
    let e = c.name_len-end.result in
    let from_start : e - 0 ≡ e = omega arith in
    reads_as _ _ _ _ _ (c.in_ok-name.ensures ∙ c.range.ensures.value ∙ ap (λ k. take k t) from_start) c.range_from.ensures.value
    (name_reads t e (omega arith) (omega (arith, ap length same)) (ap (λ x. list_all is_path_name_byte (take e x)) (sym same) ∙ c.name_len-end.ensures.names)
    (λ h. ap (λ x. is_path_name_byte (get_or x e 0)) (sym same) ∙ c.name_len-end.ensures.stops (omega (arith, ap length same))))
