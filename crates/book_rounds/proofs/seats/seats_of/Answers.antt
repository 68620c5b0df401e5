use Rattle.std.proofs.Common.{refl}
use Rattle.book_rounds.proofs.Seatings.{can_seat, seat_more, seats_begin}
use Rattle.book_rounds.proofs.seats.seats_of.Goals as goal

pub loop-left-init : goal.loop-left-init
loop-left-init g c = (
  seats_begin c.args.count _ c.args.first c.args.passes.items c.requires.room.0 refl c.requires.few.0 c.requires.few.1 c.requires.whole.0 c.requires.whole.1,
  c.requires.room.1,
)

pub unreachable-requires : goal.unreachable-requires
unreachable-requires g c =
    let two = can_seat c.args.count c.loop-left.left c.loop-left.first c.loop-left.passes.items c.loop-left.invariant.0 in
    let wrong = c.in_default.ensures.can.1 two in cc

pub loop-left-preserved : goal.loop-left-preserved
loop-left-preserved g c = (
  seat_more c.args.count c.loop-left.left c.loop-left.first c.seat.new.self c.in-Some.pass c.loop-left.passes.items c.push_reserved.new.self.items c.loop-left-test.true c.loop-left.invariant.0
      c.in-Some.ensures.seated.0 c.in-Some.ensures.seated.1 c.push_reserved.ensures.items,
  rw c.push_reserved.ensures.capacity c.loop-left.invariant.1,
)
