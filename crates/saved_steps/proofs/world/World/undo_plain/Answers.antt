use Rattle.std.proofs.Common.{refl}
use Rattle.saved_steps.specs.declared.world.World.{World}
use Rattle.saved_steps.proofs.TakenBack.{plain}
use Rattle.saved_steps.proofs.world.World.undo_plain.Goals as goal

pub returns : goal.returns
returns c =
    let w = c.args.self.now in
    let v : World = record { alloc = w.alloc; executions = c.replace-left.new.self; items = w.items } in
    plain w v c.args.fact.now c.args.frame refl c.requires c.replace-left.ensures.frames
