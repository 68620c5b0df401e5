use Rattle.std.proofs.Common.{refl}
use Rattle.saved_steps.specs.declared.made.Change.TheVariants as change
use Rattle.saved_steps.specs.declared.world.World.{World}
use Rattle.saved_steps.proofs.Applied.{fork}
use Rattle.saved_steps.proofs.world.World.apply_fork.Goals as goal

pub returns : goal.returns
returns c =
    let w = c.args.self.now in
    let v : World = record { alloc = w.alloc; executions = c.give-before.new.self; items = w.items } in
    let s = c.requires in
    fork w v (record { name = c.args.name; bound = c.args.bound; change = change.Fork c.args.frame c.args.kids }) c.record.result c.args.name c.args.bound c.args.frame c.give-before.result c.args.kids.items s.4.0 refl
    s.0 s.1 s.2 s.3 s.4.1 c.give-before.ensures.was c.give-before.ensures.tree c.give-before.ensures.frames refl (λ d x. x.change) (refl, s.4.1) c.record.ensures
