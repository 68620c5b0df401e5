use Rattle.std.proofs.Common.{sym, ◌∙◌}
use Rattle.step_names.proofs.Paths.{branch_cut, both_none, both_some}
use Rattle.step_names.proofs.grammar.read_branch.Goals as goal

pub returns-in_err-branch : goal.returns-in_err-branch
returns-in_err-branch c =
    let fork = c.in_ok-fork.fork.now in
    let branch = c.in_ok-fork.branch.now in
    c.from_residual-in_err-branch.ensures
    ∙ sym (branch_cut c.args.text.now fork branch c.in_ok-fork.ensures.parts
    ∙ both_none fork branch (sym c.read_number-2.ensures ∙ c.in_err-branch.was))

pub returns : goal.returns
returns c =
    let fork = c.in_ok-fork.fork.now in
    let branch = c.in_ok-fork.branch.now in
    sym (branch_cut c.args.text.now fork branch c.in_ok-fork.ensures.parts
    ∙ both_some fork branch c.in_ok-fork-2.fork c.in_ok-branch.branch (sym c.read_number.ensures ∙ c.in_ok-fork-2.was) (sym c.read_number-2.ensures ∙ c.in_ok-branch.was) c.if-fork-eq0.false)
