use Rattle.std.proofs.Common.{rules, Some}
use Rattle.rollback_book.proofs.Places.{filled}
use Rattle.rollback_book.proofs.machines.fill_place.Goals as goal

pub returns : goal.returns
returns c =
    filled c.args.machines.now (c.get_mut.follows.lender (Some c.args.machine)) c.args.name.now c.args.machine ((c.get_mut.follows.holds (Some c.args.machine)).3 (search rules))
