use Rattle.std.proofs.Common.{◌≡◌, subst}
use Rattle.std.specs.Prelude.{IfSome}
use Rattle.branch_tree.specs.Ready.{readiness_at}
use Rattle.saved_steps.specs.Places.{Trees, frames_in, paths_of}
use Rattle.saved_steps.proofs.world.World.look_up.Goals as goal

pub returns-clause-ready : goal.returns-clause-ready
returns-clause-ready c =
    let t = c.args.thread.now in
    subst (λ (m : Trees). IfSome c.look_up.result (λ p. p.1 ≡ readiness_at (paths_of (frames_in m) t.exec) t.path)) c.trees.ensures c.look_up.ensures.ready
