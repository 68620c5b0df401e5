-- The order of names: the execution's name by bytes, then branch by branch with the shorter path first, then
-- the step's number.
use Rattle.std.specs.Prelude.{ℕ}
use Rattle.std.specs.declared.cmp.Ordering.{Ordering}
use Rattle.std.specs.Ordering.{nat_cmp, on, then_cmp}
use Rattle.std.specs.Cmp.{IsTotalOrder, then_total, on_total, nat_cmp_total}
use Rattle.std.specs.Cmp.Lexicographic.{slice_cmp, lists_total}
use Rattle.step_names.specs.Thread.{Thread}
use Rattle.step_names.specs.declared.step.StepName.{StepName}

abbrev pub branch_cmp : ℕ × ℕ → ℕ × ℕ → Ordering
branch_cmp = then_cmp (on (λ b. b.0) nat_cmp) (on (λ b. b.1) nat_cmp)

abbrev pub thread_cmp : Thread → Thread → Ordering
thread_cmp = then_cmp (on (λ t. t.exec) (slice_cmp nat_cmp)) (on (λ t. t.path) (slice_cmp branch_cmp))

pub branch_cmp_total : IsTotalOrder branch_cmp
branch_cmp_total = then_total (on_total (λ b. b.0) nat_cmp_total) (on_total (λ b. b.1) nat_cmp_total)

pub thread_cmp_total : IsTotalOrder thread_cmp
thread_cmp_total = then_total (on_total (λ t. t.exec) (lists_total nat_cmp_total)) (on_total (λ t. t.path) (lists_total branch_cmp_total))

abbrev pub step_cmp : StepName → StepName → Ordering
step_cmp = then_cmp (on (λ s. s.thread) thread_cmp) (on (λ s. s.no) nat_cmp)

pub step_cmp_total : IsTotalOrder step_cmp
step_cmp_total = then_total (on_total (λ s. s.thread) thread_cmp_total) (on_total (λ s. s.no) nat_cmp_total)
