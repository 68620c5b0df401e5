use Rattle.depends.proofs.Sought.{accesses_none}
use Rattle.depends.proofs.keys.KeyMarks.has.Goals as goal

pub returns-in_default : goal.returns-in_default
returns-in_default c facts are = accesses_none facts c.args.self.now c.args.later.now c.in_default.is
