-- what of the input was answered so far
use Rattle.std.proofs.Common.{◌≡◌, ℕ, ◌<◌, List, length, false, Some}
use Rattle.sqlite.specs.Held.{state}
use Rattle.operator_line.specs.Sessions.{KeepsOne, session_log}
use Rattle.operator_line.proofs.Served.{IsReading}
use Rattle.operator_line.proofs.Handed.{HandsReading}
use Rattle.operator_line.proofs.serving.serve_all.Given as goal

abbrev pub invariant-loop : goal.invariant-loop
invariant-loop g l = (0 < length l.piece.items) × ((input : List ℕ) → g.R.Read.remaining l.initial.reader ≡ Some input
    → IsReading input (g.R.Read.remaining l.reader) l.buffers.line (session_log g.B.Events.log l.initial.session) (session_log g.B.Events.log l.session) (g.W.Write.contents l.initial.writer) (g.W.Write.contents l.writer)) × (l.session.is_failed ≡ false)
    × ((input : List ℕ) → g.R.Read.remaining l.initial.reader ≡ Some input → HandsReading (KeepsOne (λ held. state g.S.Store held)) input (g.R.Read.remaining l.reader) l.buffers.line l.initial.session.journal l.session.journal)
