use Rattle.linked_classes.specs.Places.{IsNumber}
use Rattle.linked_classes.proofs.Placed.{lt_placed}
use Rattle.linked_classes.proofs.classed.ClassedVec.is_behind.Goals as goal

pub returns : goal.returns
returns g c =
    let ns = c.self.inside.listed.numbers in
    let one : IsNumber ns c.args.number = rw (← c.self.view_is) at c.requires.number in
    let other : IsNumber ns c.args.other = rw (← c.self.view_is) at c.requires.other in
    rw (← c.self.view_is) (lt_placed ns c.self.invariant.rising c.args.other c.args.number other one)
