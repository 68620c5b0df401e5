-- Worked rows of lines and replies, by computation.
use Rattle.std.specs.Prelude.{◌≡◌, ℕ, [], ◌∷◌, Some, refl, codes}
use Rattle.std.specs.Fmt.{digits}
use Rattle.step_names.specs.Thread.{execution}
use Rattle.step_names.specs.declared.step.StepName.{StepName}
use Rattle.book_log.specs.declared.refusal.Refusal.TheVariants.{NoThread, NotReady, HasDependents, Full}
use Rattle.journaled_book.specs.Kind.TheVariants.{Plain}
use Rattle.journaled_book.specs.Readiness.TheVariants.{Done}
use Rattle.asl_fields.specs.declared.fault.MachineFault.TheVariants.{Missing}
use Rattle.book_log.specs.declared.refusal.Refusal.TheVariants.{BadMachine}
use Rattle.reply_lines.specs.Replies.{step_reply, moved_reply, list_reply, refused, refused_by, refusal_reply}
use Rattle.operator_line.specs.Answers.{journal_reply}
use Rattle.operator_line.specs.Texts.{lines_of}

-- the n-th step of the execution `a`
step_a : ℕ → StepName
step_a n = record { thread = execution (codes "a"); no = n }

-- ---- lines

ends_drop : lines_of (codes "ab\r\n\ncd") ≡ Some (codes "ab") ∷ Some [] ∷ Some (codes "cd") ∷ []
ends_drop = refl

last_return_stays : lines_of (codes "a\nb\r") ≡ Some (codes "a") ∷ Some (codes "b\r") ∷ []
last_return_stays = refl

one_return_drops : lines_of (codes "a\r\r\n") ≡ Some (codes "a\r") ∷ []
one_return_drops = refl

nothing_has_no_line : lines_of [] ≡ []
nothing_has_no_line = refl

-- ---- replies

starts : step_reply (step_a 0) ≡ codes "ok a#0\n"
unfolding step_a digits
starts = refl

moves : moved_reply (record { name = step_a 1; kind = Plain }) ≡ codes "ok a#1 plain\n"
unfolding step_a digits
moves = refl

lists : list_reply (codes "a#0" ∷ codes "a#1" ∷ []) ≡ codes "ok 2\na#0\na#1\n"
unfolding digits
lists = refl

no_command : refused 20 ≡ codes "no 20\n"
unfolding digits
no_command = refl

not_whole : refused_by 25 2 ≡ codes "no 25 2\n"
unfolding digits
not_whole = refl

no_journal : journal_reply ≡ codes "no 24\n"
unfolding digits
no_journal = refl

no_thread : refusal_reply NoThread ≡ codes "no 5\n"
unfolding digits
no_thread = refl

is_done : refusal_reply (NotReady Done) ≡ codes "no 6 done\n"
is_done = refl

depends : refusal_reply (HasDependents (step_a 1)) ≡ codes "no 8 a#1\n"
unfolding step_a digits
depends = refl

is_full : refusal_reply Full ≡ codes "no 10\n"
unfolding digits
is_full = refl

missing : refusal_reply (BadMachine (Missing (codes "StartAt"))) ≡ codes "no 3 1 \"StartAt\"\n"
unfolding digits
missing = refl
