use Rattle.std.proofs.Common.{refl}
use Rattle.sqlite.specs.Held.{state}
use Rattle.operator_line.specs.Sessions.{KeepsOne}
use Rattle.operator_line.proofs.Handed.{some-none}
use Rattle.operator_line.proofs.Served.{if_some}
use Rattle.operator_line.proofs.serving.serve_at_most.Goals as goal

pub returns-then-is_failed-clause-handed : goal.returns-then-is_failed-clause-handed
returns-then-is_failed-clause-handed g c = if_some _ (λ input e. some-none (KeepsOne (λ held. state g.S.Store held)) _ _ _ refl)
