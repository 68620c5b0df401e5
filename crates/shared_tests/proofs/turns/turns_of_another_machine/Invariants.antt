use Rattle.shared_tests.proofs.turns.turns_of_another_machine.Given as goal

abbrev pub ghosts-refuses_the_machine-L-Ledger : goal.ghosts-refuses_the_machine-L-Ledger
ghosts-refuses_the_machine-L-Ledger g a = record { name = a.blank.name; parts = a.blank.parts }

abbrev pub ghosts-refuses_the_machine-L-Sharing : goal.ghosts-refuses_the_machine-L-Sharing
ghosts-refuses_the_machine-L-Sharing g a = record { begun = a.book.log }
