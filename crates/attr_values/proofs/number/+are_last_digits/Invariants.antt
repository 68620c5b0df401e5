use Rattle.attr_values.proofs.number.+are_last_digits.Given as goal

abbrev pub decreases-are_last_digits : goal.decreases-are_last_digits
decreases-are_last_digits l = l.count
