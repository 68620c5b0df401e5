use Rattle.std.proofs.Common.{◌≡◌, ◌≤◌, ℕ, List, [], length, arith, subst}
use Rattle.operator_line.specs.Sessions.{session_log}
use Rattle.operator_line.proofs.Sessions.{bytes_answered}
use Rattle.operator_line.proofs.session.Session.answer.Goals as goal

some_bytes : (xs : List ℕ) → 1 ≤ length xs → xs ≡ [] → ⊥
some_bytes xs long e = let none : 1 ≤ length {A = ℕ} [] = subst (λ (ys : List ℕ). 1 ≤ length ys) e long in omega (arith, none)

pub returns-in-Whole-clause-ok : goal.returns-in-Whole-clause-ok
returns-in-Whole-clause-ok g c =
    rw c.in-Whole.is
    (bytes_answered c.answer_bytes.result c.in-Whole.bytes.now _ (session_log g.B.Events.log c.args.self.now) _ (some_bytes c.in-Whole.bytes.now (rw c.in-Whole.bytes-is at c.in-Whole.len_at_least))
    (rw c.in-Whole.bytes-is at c.answer_bytes.ensures.ok))
