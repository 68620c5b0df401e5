use Rattle.std.proofs.Common.{ℕ, List, Option, inr, ap, subst, ◌∙◌}
use Rattle.sqlite.specs.Held.{state}
use Rattle.operator_line.specs.Lines.{ended_line}
use Rattle.operator_line.specs.Sessions.{KeepsOne}
use Rattle.operator_line.proofs.Sessions.{on_err-from}
use Rattle.operator_line.proofs.serving.serve_line.Goals as goal

pub returns-clause-handed : goal.returns-clause-handed
returns-clause-handed g c =
    subst (λ (l : Option (List ℕ)). KeepsOne (λ held. state g.S.Store held) l c.args.session.now.journal c.write_answer.new.session.journal) (c.ended.ensures ∙ ap ended_line c.in_ok-add.ensures.ok) c.in_ok-write_answer.ensures.handed

pub returns-in_err-write_answer-clause-perhaps : goal.returns-in_err-write_answer-clause-perhaps
returns-in_err-write_answer-clause-perhaps g c =
    on_err-from c.from_residual-in_err-write_answer.result _
    (inr (subst (λ (l : Option (List ℕ)). KeepsOne (λ held. state g.S.Store held) l c.args.session.now.journal c.write_answer.new.session.journal) (c.ended.ensures ∙ ap ended_line c.in_ok-add.ensures.ok) c.in_err-write_answer.ensures.handed))
