use Rattle.std.proofs.Common.{refl}
use Rattle.saved_steps.specs.declared.fact.Kind.TheVariants as kind
use Rattle.saved_steps.specs.declared.made.Change.TheVariants as change
use Rattle.saved_steps.specs.declared.world.World.{World}
use Rattle.saved_steps.proofs.Applied.{close}
use Rattle.saved_steps.proofs.world.World.apply_join.Goals as goal

pub returns : goal.returns
returns c =
    let w = c.args.self.now in
    let v : World = record { alloc = w.alloc; executions = c.take-before.new.self; items = w.items } in
    let t = c.take-before.result in
    let e = c.take-before.ensures in
    close w v (record { name = c.args.name; bound = c.args.bound; change = change.Join c.args.frame }) c.record.result c.args.name c.args.bound kind.Join c.args.frame t.0 t.1 refl
    refl refl c.requires.0 c.requires.1 e.was e.node e.tree e.frames refl (λ d x. x.change) refl c.record.ensures
