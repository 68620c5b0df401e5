use Rattle.std.proofs.Common.{refl}
use Rattle.saved_steps.specs.declared.world.World.{World}
use Rattle.saved_steps.proofs.TakenBack.{close}
use Rattle.saved_steps.proofs.world.World.undo_close.Goals as goal

pub returns : goal.returns
returns c =
    let w = c.args.self.now in
    let v : World = record { alloc = w.alloc; executions = c.give.new.self; items = w.items } in
    close w v c.args.fact.now c.args.frame c.give.result c.args.kids refl c.requires c.give.ensures.was c.give.ensures.tree c.give.ensures.frames
