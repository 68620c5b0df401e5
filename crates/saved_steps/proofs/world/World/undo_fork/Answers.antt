use Rattle.std.proofs.Common.{refl}
use Rattle.saved_steps.specs.declared.world.World.{World}
use Rattle.saved_steps.proofs.TakenBack.{fork}
use Rattle.saved_steps.proofs.world.World.undo_fork.Goals as goal

pub returns : goal.returns
returns c =
    let w = c.args.self.now in
    let v : World = record { alloc = w.alloc; executions = c.take.new.self; items = w.items } in
    let t = c.take.result in
    fork w v c.args.fact.now c.args.frame t.0 t.1.items refl c.requires c.take.ensures.was c.take.ensures.tree c.take.ensures.frames
