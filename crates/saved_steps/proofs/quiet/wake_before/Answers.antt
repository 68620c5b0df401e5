use Rattle.std.proofs.Common.{◌≡◌, ℕ, List, Equal, Greater, Less, is_eq, ap, sym, subst, ◌∙◌}
use Rattle.std.specs.Cmp.Lexicographic.{slice_cmp}
use Rattle.std.specs.Ordering.{nat_cmp}
use Rattle.std.specs.String.{string_bytes}
use Rattle.saved_steps.proofs.Earliest.{lowered, not_after, same_exec, woken}
use Rattle.saved_steps.proofs.quiet.wake_before.Goals as goal

pub returns-in-Equal : goal.returns-in-Equal
returns-in-Equal c =
    let exec = c.args.exec.now in
    let mid = string_bytes c.write_once.new.text in
    let equal : slice_cmp nat_cmp exec mid ≡ Equal = subst (λ (x : List ℕ). slice_cmp nat_cmp exec x ≡ Equal) c.as_str.ensures.value (sym c.cmp.ensures ∙ c.in-Equal.is) in
    woken (string_bytes c.args.name.now) (string_bytes c.args.awake.now) mid exec c.write_once.ensures (same_exec exec mid (ap is_eq equal))

pub returns-in-Less : goal.returns-in-Less
returns-in-Less c =
    let exec = c.args.exec.now in
    lowered (string_bytes c.args.name.now) (string_bytes c.args.awake.now) (string_bytes c.write_once.new.text) exec exec (string_bytes c.rewrite.new.text)
    c.write_once.ensures c.requires c.rewrite.ensures (λ e less. less)

pub returns-in-Greater : goal.returns-in-Greater
returns-in-Greater c =
    let exec = c.args.exec.now in
    let mid = string_bytes c.write_once.new.text in
    let after : slice_cmp nat_cmp exec mid ≡ Greater = subst (λ (x : List ℕ). slice_cmp nat_cmp exec x ≡ Greater) c.as_str.ensures.value (sym c.cmp.ensures ∙ c.in-Greater.is) in
    lowered (string_bytes c.args.name.now) (string_bytes c.args.awake.now) mid exec c.as_str-in-Greater.result.now (string_bytes c.rewrite-in-Greater.new.text)
    c.write_once.ensures c.requires c.rewrite-in-Greater.ensures
    (λ e less. not_after exec mid e after (subst (λ (x : List ℕ). slice_cmp nat_cmp e x ≡ Less) c.as_str-in-Greater.ensures.value less))
