-- how the lines of the piece that came so far were answered
use Rattle.std.proofs.Common.{◌≡◌, ℕ, List, length, false}
use Rattle.operator_line.specs.Lines.{kept_front}
use Rattle.sqlite.specs.Held.{state}
use Rattle.operator_line.specs.Sessions.{KeepsOne, session_log}
use Rattle.operator_line.proofs.Served.{IsSoFar}
use Rattle.operator_line.proofs.Handed.{HandsSoFar}
use Rattle.operator_line.proofs.serving.serve_piece.Given as goal

abbrev pub invariant-loop-front : goal.invariant-loop-front
invariant-loop-front g l = ((front : List ℕ) → l.initial.buffers.line ≡ kept_front front
    → IsSoFar front l.piece l.rest l.has_line l.buffers.line (session_log g.B.Events.log l.initial.session) (session_log g.B.Events.log l.session) (g.W.Write.contents l.initial.writer) (g.W.Write.contents l.writer)) × (l.session.is_failed ≡ false)
    × ((front : List ℕ) → l.initial.buffers.line ≡ kept_front front → HandsSoFar (KeepsOne (λ held. state g.S.Store held)) front l.piece l.rest l.buffers.line l.initial.session.journal l.session.journal)

abbrev pub decreases-loop-front : goal.decreases-loop-front
decreases-loop-front g l = length l.rest
