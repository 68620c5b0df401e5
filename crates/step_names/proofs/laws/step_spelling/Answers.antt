use Rattle.step_names.proofs.Spelling.{step_reads, step_writes, step_text_is_one}
use Rattle.step_names.proofs.Longest.{step_text_bound, longest_step}
use Rattle.step_names.proofs.laws.step_spelling.Goals as goal

pub returns : goal.returns
returns c = record { reads_back = step_reads; writes_back = step_writes; one = step_text_is_one; bounded = step_text_bound; longest = longest_step }
