use Rattle.step_names.proofs.Spelling.{thread_reads, thread_writes, thread_text_is_one}
use Rattle.step_names.proofs.Longest.{thread_text_bound, longest_thread}
use Rattle.step_names.proofs.laws.thread_spelling.Goals as goal

pub returns : goal.returns
returns c = record { reads_back = thread_reads; writes_back = thread_writes; one = thread_text_is_one; bounded = thread_text_bound; longest = longest_thread }
