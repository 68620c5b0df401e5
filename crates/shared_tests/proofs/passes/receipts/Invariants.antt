use Rattle.shared_tests.proofs.passes.receipts.Given as goal

abbrev pub ghosts-one_of_each-L-Ledger : goal.ghosts-one_of_each-L-Ledger
ghosts-one_of_each-L-Ledger g a = record { name = a.blank.name; parts = a.blank.parts }

abbrev pub ghosts-one_of_each-L-Sharing : goal.ghosts-one_of_each-L-Sharing
ghosts-one_of_each-L-Sharing g a = record { begun = a.book.log }
