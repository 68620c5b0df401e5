use Rattle.shared_tests.proofs.passes.calls_of_two_passes.Given as goal

abbrev pub ghosts-all_rows-L-Ledger : goal.ghosts-all_rows-L-Ledger
ghosts-all_rows-L-Ledger g a = record { name = a.blank.name; parts = a.blank.parts }

abbrev pub ghosts-all_rows-L-Sharing : goal.ghosts-all_rows-L-Sharing
ghosts-all_rows-L-Sharing g a = record { begun = a.book.log }
