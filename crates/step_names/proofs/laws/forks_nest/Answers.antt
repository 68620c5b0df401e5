use Rattle.step_names.proofs.UnderFacts.{child_under, under_transitive, under_one, under_below, under_one_way, above_in_line}
use Rattle.step_names.proofs.laws.forks_nest.Goals as goal

pub returns : goal.returns
returns c = record { child = child_under; transitive = under_transitive; one_fork = under_one; below = under_below; one_way = under_one_way; in_line = above_in_line }
