use Rattle.std.proofs.Common.{◌∙◌, ap, List}
use Rattle.std.specs.Prelude.{ℕ}
use Rattle.rollback_book.specs.Book.{machine_place, placed_machine}
use Rattle.rollback_book.proofs.Places.{emptied}
use Rattle.rollback_book.proofs.machines.make_place.Goals as goal

pub returns-clause-kept : goal.returns-clause-kept
returns-clause-kept c =
    emptied c.args.machines.now c.insert.new.self c.in_ok-name.name (ap (λ (k : List ℕ). placed_machine (machine_place c.args.machines.now.entries k)) c.in_ok-name.ensures ∙ c.requires) c.in_ok-insert.ensures.updates
