use Rattle.std.proofs.Common.{◌≤◌, ◌-◌, arith, length, option_copied, ap, sym, ◌∙◌}
use Rattle.std.specs.Prelude.{slice_get}
use Rattle.depends.proofs.Sought.{awaited_before, awaits_never, awaits_no_branch}
use Rattle.depends.proofs.under.UnderMarks.has_awaited.Goals as goal

pub returns-then-later-eq0 : goal.returns-then-later-eq0
returns-then-later-eq0 c facts are = awaits_never facts c.args.later.now c.if-later-eq0.true

pub returns-in_default : goal.returns-in_default
returns-in_default c facts are = awaits_no_branch facts c.args.later.now (ap (λ l. slice_get l (length l - 1)) (sym c.requires) ∙ sym c.last.ensures.value ∙ ap option_copied c.in_default.is)

pub returns : goal.returns
returns c facts are =
    let some : 1 ≤ c.args.later.now.bound = (let x = c.if-later-eq0.false in omega (arith, x)) in
    c.has_before.ensures
    ∙ awaited_before facts c.args.self.now c.args.later.now c.in-Some.own.now some (ap (λ l. slice_get l (length l - 1)) (sym c.requires) ∙ sym c.last.ensures.value ∙ ap option_copied c.in-Some.is) are
