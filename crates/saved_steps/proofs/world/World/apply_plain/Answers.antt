use Rattle.std.proofs.Common.{refl, sym, subst}
use Rattle.saved_steps.specs.Undoing.{IsApplied}
use Rattle.saved_steps.specs.declared.made.Change.TheVariants as change
use Rattle.saved_steps.specs.declared.record.StepRecord.{StepRecord}
use Rattle.saved_steps.specs.declared.world.World.{World}
use Rattle.saved_steps.proofs.Applied.{plain}
use Rattle.saved_steps.proofs.world.World.apply_plain.Goals as goal

pub returns : goal.returns
returns c =
    let w = c.args.self.now in
    let v : World = record { alloc = w.alloc; executions = c.replace-before.new.self; items = w.items } in
    subst (λ (r : StepRecord). IsApplied w (record { name = c.args.name; bound = c.args.bound; change = change.Plain c.args.frame }) v r) (sym c.record.ensures)
    (plain w v c.args.name c.args.bound c.args.frame c.replace-before.result refl c.requires c.replace-before.ensures.was c.replace-before.ensures.frames)
