use Rattle.std.proofs.Common.{sym, subst}
use Rattle.saved_steps.specs.Made.{IsMadeOf}
use Rattle.saved_steps.specs.declared.made.Change.TheVariants as change
use Rattle.saved_steps.specs.declared.places.Places.{Places}
use Rattle.saved_steps.proofs.Ready.{join, terminate}
use Rattle.saved_steps.proofs.world.World.make.Goals as goal

pub returns-in-Join-clause-made : goal.returns-in-Join-clause-made
returns-in-Join-clause-made c =
    let w = c.args.self.now in
    subst (λ (e : Places). IsMadeOf w (record { alloc = w.alloc; executions = e; items = w.items }) c.args.name.now c.args.next (record { name = c.in-Ok.name; bound = 0; change = change.Join c.in-Join.frame }))
    (sym c.go_by.ensures) (join w c.args.name.now c.in-Ok.name c.args.next c.in-Join.frame c.in-Ok.ensures c.in-Join.is c.requires)

pub returns-in-Terminate-clause-made : goal.returns-in-Terminate-clause-made
returns-in-Terminate-clause-made c =
    let w = c.args.self.now in
    subst (λ (e : Places). IsMadeOf w (record { alloc = w.alloc; executions = e; items = w.items }) c.args.name.now c.args.next (record { name = c.in-Ok.name; bound = 0; change = change.Terminate c.in-Terminate.frame }))
    (sym c.go_by.ensures) (terminate w c.args.name.now c.in-Ok.name c.args.next c.in-Terminate.frame c.in-Ok.ensures c.in-Terminate.is c.requires)
