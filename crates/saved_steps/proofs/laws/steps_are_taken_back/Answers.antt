use Rattle.saved_steps.proofs.Moves.{undone_at_once, undone_later, taken_again}
use Rattle.saved_steps.proofs.laws.steps_are_taken_back.Goals as goal

pub returns : goal.returns
returns c = record { at_once = undone_at_once; later = undone_later; again = taken_again }
