use Rattle.saved_steps.specs.declared.world.World.{World}
use Rattle.saved_steps.proofs.TakenBack.{call}
use Rattle.saved_steps.proofs.world.World.undo_call.Goals as goal

pub returns : goal.returns
returns c =
    let w = c.args.self.now in
    let v : World = record { alloc = w.alloc; executions = c.replace.new.self; items = c.give_item_back.new.items } in
    call w v c.args.fact.now c.args.frame c.args.slot c.args.old c.requires c.replace.ensures.frames c.give_item_back.ensures.items c.give_item_back.ensures.store
