use Rattle.shared_book.proofs.Passing.{passed_one}
use Rattle.shared_book.proofs.claims.Claims.pass_by.Goals as goal

pub returns-clause-passed : goal.returns-clause-passed
returns-clause-passed c = λ s h. rw (← c.self.view_is) (passed_one c.self.inside.claimed.keys c.remove.new.self.keys c.self.inside.outside.keys s c.args.thread.now (c.remove.ensures.updates.0 s) h)
