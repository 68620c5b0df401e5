use Rattle.saved_steps.specs.declared.world.World.{World}
use Rattle.saved_steps.proofs.Applied.{call}
use Rattle.saved_steps.proofs.world.World.apply_call.Goals as goal

pub returns : goal.returns
returns c =
    let w = c.args.self.now in
    let v : World = record { alloc = w.alloc; executions = c.replace-before.new.self; items = c.put_item-old.new.items } in
    let p = c.put_item-old.ensures in
    call w v c.args.name c.args.bound c.args.frame c.replace-before.result c.args.access c.args.slot c.args.new c.put_item-old.result c.requires c.replace-before.ensures.was c.replace-before.ensures.frames p.was p.items p.store
