use Rattle.std.proofs.Common.{◌∙◌, ap, inr, sym, Err}
use Rattle.step_names.specs.declared.step.StepName.{StepName}
use Rattle.book_log.specs.declared.refusal.Refusal.TheVariants.{HasDependents}
use Rattle.rollback_book.specs.Settling.{absent_in}
use Rattle.rollback_book.proofs.Looking.{dependent_there, free_answered, needing_answer, none_there, taken_out, there}
use Rattle.rollback_book.proofs.ordering.take_out.Goals as goal

pub returns-in_default : goal.returns-in_default
returns-in_default c =
    inr (none_there (absent_in c.args.settled.now.items c.args.name.now) c.args.name.now c.args.left.now.items (sym c.in_default.ensures) ∙ ap Err (sym c.absent_in.ensures))

pub first_dependent-requires : goal.first_dependent-requires
first_dependent-requires c = there (absent_in c.args.settled.now.items c.args.name.now) c.args.name.now c.args.left.now.items c.in-Some.at (sym c.in-Some.ensures)

pub get-requires : goal.get-requires
get-requires c =
    dependent_there (absent_in c.args.settled.now.items c.args.name.now) c.args.name.now c.args.left.now.items c.in-Some.at (sym c.in-Some.ensures)
    c.in-Some-first_dependent.dependent (sym c.in-Some-first_dependent.ensures)

pub returns-in-Some-first_dependent : goal.returns-in-Some-first_dependent
returns-in-Some-first_dependent c =
    inr (needing_answer (absent_in c.args.settled.now.items c.args.name.now) c.args.name.now c.args.left.now.items c.in-Some.at (sym c.in-Some.ensures)
    c.in-Some-first_dependent.dependent c.get.result.now (sym c.in-Some-first_dependent.ensures) c.get.ensures
    ∙ ap (λ (n : StepName). Err (HasDependents n)) (sym c.in_ok-copy.ensures))

pub remove-requires : goal.remove-requires
remove-requires c = there (absent_in c.args.settled.now.items c.args.name.now) c.args.name.now c.args.left.now.items c.in-Some.at (sym c.in-Some.ensures)

pub returns : goal.returns
returns c =
    let gone = absent_in c.args.settled.now.items c.args.name.now in (
      free_answered gone c.args.name.now c.args.left.now.items c.in-Some.at (sym c.in-Some.ensures) (sym c.in_default-first_dependent.ensures),
      taken_out c.args.name.now c.args.left.now.items c.remove.new.self.items c.in-Some.at (sym c.in-Some.ensures) c.remove.ensures.items,
    )
