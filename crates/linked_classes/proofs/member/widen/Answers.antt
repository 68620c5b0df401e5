use Rattle.std.proofs.Common.{ℕ, List, Option, None, ◌-◌, ◌++◌, ◌∙◌, arith, ap}
use Rattle.std.specs.Prelude.{replicate}
use Rattle.std.specs.Vec.{vec_len}
use Rattle.std.proofs.lemmas.List.{take_all}
use Rattle.linked_classes.specs.Cells.{cell_at}
use Rattle.linked_classes.proofs.Members.{more_runs}
use Rattle.linked_classes.proofs.member.widen.Goals as goal

pub returns-in_ok-resize-clause-ends : goal.returns-in_ok-resize-clause-ends
returns-in_ok-resize-clause-ends c =
    let ends = c.args.ends.now.items in
    let low = c.if-len-width.true in
    let len = c.len.ensures in
    let all = take_all c.args.width ends (omega (arith, low, len)) in
    ap cell_at (c.in_ok-resize.ensures.items ∙ ap (λ (l : List (Option ℕ)). l ++ replicate (c.args.width - vec_len c.args.ends.now) None) all) ∙ more_runs (c.args.width - vec_len c.args.ends.now) ends
