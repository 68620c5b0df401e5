use Rattle.book_rounds.proofs.rounds.run_round.Given as goal

abbrev pub ghosts-share_and_work-L-Ledger : goal.ghosts-share_and_work-L-Ledger
ghosts-share_and_work-L-Ledger g a = record { name = a.blank.name; parts = a.blank.parts }

abbrev pub ghosts-share_and_work-L-Sharing : goal.ghosts-share_and_work-L-Sharing
ghosts-share_and_work-L-Sharing g a = record { begun = g.B.Events.log a.book }
