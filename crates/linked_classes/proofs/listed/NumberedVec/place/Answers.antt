use Rattle.std.proofs.Common.{sym}
use Rattle.linked_classes.specs.Places.{IsNumber, place_in}
use Rattle.linked_classes.proofs.Placed.{placed}
use Rattle.linked_classes.proofs.listed.NumberedVec.place.Goals as goal

pub place-requires : goal.place-requires
place-requires g c =
    let ns = c.self.inside.numbers.items in
    let there : IsNumber ns c.args.number = rw (← c.self.view_is) at c.requires in
    (place_in ns c.args.number, there)

pub returns : goal.returns
returns g c = rw (← c.self.view_is) (sym (placed c.self.inside.numbers.items c.self.invariant.rising c.place.result c.args.number c.place.ensures))
