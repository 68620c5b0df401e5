use Rattle.shared_tests.proofs.turns.is_so.Given as goal

abbrev pub ghosts-case_in-L-Ledger : goal.ghosts-case_in-L-Ledger
ghosts-case_in-L-Ledger g a = record { name = a.blank.name; parts = a.blank.parts }

abbrev pub ghosts-case_in-L-Sharing : goal.ghosts-case_in-L-Sharing
ghosts-case_in-L-Sharing g a = record { begun = a.book.log }
