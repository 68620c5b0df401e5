use Rattle.std.proofs.Common.{subst, sym, [], ◌∷◌, ◌++◌}
use Rattle.saved_steps.specs.declared.fact.Fact.{Fact}
use Rattle.depends.specs.Marks.{AreMarksOf}
use Rattle.step_index.specs.Due.{IsFurther, HasOpenClasses}
use Rattle.step_index.specs.Finding.{records_at}
use Rattle.step_index.specs.Near.{shares}
use Rattle.step_index.proofs.Finding.{more_found}
use Rattle.step_index.proofs.Following.{facts}
use Rattle.step_index.proofs.found.FoundSteps.add.Goals as goal

pub returns-clause-found : goal.returns-clause-found
returns-clause-found c r at same =
    let rs = c.args.records.now in
    let fs = records_at rs c.args.self.now.places.items in
    more_found rs c.args.self.now _ c.args.place r at c.in_ok-push.ensures.items (λ m. subst (λ f. AreMarksOf (facts fs ++ f ∷ []) c.add.new.self) (sym same) (c.in_ok-add.ensures (facts fs) m))
    (subst (λ (f : Fact). HasOpenClasses c.open.new.self f) (sym same) c.in_ok-open.ensures.opened)
    (subst (λ (f : Fact). IsFurther (shares f) rs c.args.place c.args.self.now.due c.open.new.self) (sym same) c.in_ok-open.ensures.further)
