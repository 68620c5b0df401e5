use Rattle.std.proofs.lemmas.Result.{IfOk-weaker}
use Rattle.step_index.specs.Finding.{records_at}
use Rattle.step_index.proofs.Finding.{decided}
use Rattle.step_index.proofs.Following.{facts}
use Rattle.step_index.proofs.found.FoundSteps.is_needed.Goals as goal

pub returns : goal.returns
returns c =
    IfOk-weaker c.marks.result _ _ (λ b told rs from found. decided rs c.args.self.now.places.items c.args.later.now b found.within (told (facts (records_at rs c.args.self.now.places.items)) found.marked)) c.marks.ensures
