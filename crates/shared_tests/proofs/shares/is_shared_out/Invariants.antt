use Rattle.shared_tests.proofs.shares.is_shared_out.Given as goal

abbrev pub ghosts-run-L-Ledger : goal.ghosts-run-L-Ledger
ghosts-run-L-Ledger g a = record { name = a.blank.name; parts = a.blank.parts }

abbrev pub ghosts-run-L-Sharing : goal.ghosts-run-L-Sharing
ghosts-run-L-Sharing g a = record { begun = a.book.log }
