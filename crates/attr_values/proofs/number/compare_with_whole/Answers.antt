use Rattle.std.proofs.Common.{◌∙◌, ap, ap₂, ◌^◌, ℕ}
use Rattle.std.specs.Ordering.{nat_cmp, ordering_then}
use Rattle.attr_values.proofs.NumberLemmas.{ten_above_zero, nat_cmp-quotient}
use Rattle.attr_values.proofs.number.compare_with_whole.Goals as goal

pub returns : goal.returns
returns c =
    c.then.ensures
    ∙ ap₂ ordering_then (c.cmp.ensures ∙ ap (λ (r : ℕ × ℕ). nat_cmp r.0 c.args.whole) c.split-quotient.ensures)
    (c.cmp-2.ensures ∙ ap (λ (r : ℕ × ℕ). nat_cmp r.1 0) c.split-quotient.ensures)
    ∙ nat_cmp-quotient c.args.n c.args.whole (10 ^ c.args.places) (ten_above_zero c.args.places)
