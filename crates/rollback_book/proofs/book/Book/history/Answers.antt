use Rattle.std.proofs.Common.{◌≡◌, ◌∙◌, ap, subst, map}
use Rattle.saved_steps.specs.Steps.{name_of}
use Rattle.saved_steps.specs.declared.record.StepRecord.{StepRecord}
use Rattle.book_log.specs.Log.{remaining}
use Rattle.rollback_book.specs.Book.{BookView}
use Rattle.rollback_book.proofs.Tied.{names_are}
use Rattle.rollback_book.proofs.book.Book.history.Goals as goal

pub returns-clause-names : goal.returns-clause-names
returns-clause-names c =
    subst (λ (b : BookView). map (λ (r : StepRecord). r.fact.name) c.records.result.now.items ≡ map name_of (remaining b.log)) c.self.view_is
    (ap (map (λ (r : StepRecord). r.fact.name)) c.records.ensures ∙ names_are _ c.self.invariant)
