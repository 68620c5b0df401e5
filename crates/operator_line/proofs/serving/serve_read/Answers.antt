use Rattle.std.proofs.Common.{ℕ, List, refl, subst, sym}
use Rattle.std.proofs.KnownBytes.{Keeps-refl}
use Rattle.sqlite.specs.Held.{state}
use Rattle.operator_line.specs.Handing.{RunsUntil}
use Rattle.operator_line.specs.Serving.{AnswersUntil}
use Rattle.operator_line.specs.Sessions.{KeepsOne, session_log}
use Rattle.operator_line.specs.Texts.{lines_after}
use Rattle.operator_line.proofs.Served.{consumed, still}
use Rattle.operator_line.proofs.Handed.{some-none}
use Rattle.operator_line.proofs.serving.serve_read.Goals as goal

pub returns-in_ok-serve_piece-in-Ok-clause-read : goal.returns-in_ok-serve_piece-in-Ok-clause-read
returns-in_ok-serve_piece-in-Ok-clause-read g c front text begun left =
    let (rest, left_is, split) = consumed text (g.R.Read.remaining c.read.new.self) _ (rw left at c.in-Ok.ensures.bytes.0) in
    let (tail, line_is, until) = c.in_ok-serve_piece-in-Ok.ensures.piece front begun in
    (tail, rest, left_is, line_is, subst (λ (l : List ℕ). AnswersUntil (lines_after front l) (lines_after tail rest) (session_log g.B.Events.log c.args.session.now) (session_log g.B.Events.log c.serve_piece.new.session) (g.W.Write.contents c.args.writer.now) (g.W.Write.contents c.serve_piece.new.writer)) (sym split) (until rest))

pub returns-in_ok-serve_piece-in-Ok-clause-handed : goal.returns-in_ok-serve_piece-in-Ok-clause-handed
returns-in_ok-serve_piece-in-Ok-clause-handed g c front text begun left =
    let (rest, left_is, split) = consumed text (g.R.Read.remaining c.read.new.self) _ (rw left at c.in-Ok.ensures.bytes.0) in
    let (tail, line_is, until) = c.in_ok-serve_piece-in-Ok.ensures.handed front begun in
    (tail, rest, left_is, line_is, subst (λ (l : List ℕ). RunsUntil (KeepsOne (λ held. state g.S.Store held)) (lines_after front l) (lines_after tail rest) c.args.session.now.journal c.serve_piece.new.session.journal) (sym split) (until rest))

pub returns-else-eq-clause-read : goal.returns-else-eq-clause-read
returns-else-eq-clause-read g c front text begun left = (still text (g.R.Read.remaining c.read.new.self) (rw left at c.in-Err.ensures.bytes), refl, Keeps-refl _)

pub returns-else-eq-clause-handed : goal.returns-else-eq-clause-handed
returns-else-eq-clause-handed g c front text begun left = some-none (KeepsOne (λ held. state g.S.Store held)) _ _ _ refl
