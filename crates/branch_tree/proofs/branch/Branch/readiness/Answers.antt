use Rattle.std.proofs.Common.{◌≡◌, ◌==◌, not, true, ◌∙◌, ap, ap₂}
use Rattle.branch_tree.specs.Ready.{progress}
use Rattle.branch_tree.proofs.Counted.{fail_any}
use Rattle.branch_tree.proofs.Progress.{parked, failed_one, all_done}
use Rattle.branch_tree.proofs.Window.{lead_all}
use Rattle.branch_tree.proofs.branch.Branch.readiness.Goals as goal

pub returns-in-Parked : goal.returns-in-Parked
returns-in-Parked c =
    let kids = c.self.inside.kids.items in
    let failed : not (c.self.inside.counts.failed == 0) ≡ failed_one kids = ap (λ n. not (n == 0)) c.self.invariant.counts.failed ∙ fail_any kids in
    let done : (c.self.inside.counts.leading == c.len.result) ≡ all_done kids = ap₂ (λ k n. k == n) c.self.invariant.counts.leading (c.len.ensures ∙ c.self.inside.kids.ok.0) ∙ lead_all kids in
    c.progress.ensures ∙ ap₂ progress failed done
    ∙ parked true c.self.inside.frame kids c.args.self.now c.in-Parked.field-0 c.in-Parked.field-1 c.self.view_is c.self.invariant.node c.in-Parked.is
