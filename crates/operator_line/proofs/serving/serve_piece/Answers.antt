use Rattle.std.proofs.Common.{ℕ, List, Option, true, sym, subst}
use Rattle.std.proofs.lemmas.Result.{err_from_is_err_and}
use Rattle.std.proofs.KnownBytes.{Keeps-refl}
use Rattle.sqlite.specs.Held.{state}
use Rattle.operator_line.specs.Sessions.{KeepsOne, session_log}
use Rattle.operator_line.proofs.Served.{IsSoFar, so_far-goes_on, so_far-fails, so_far-ends, so_far-flushes}
use Rattle.operator_line.proofs.Handed.{HandsSoFar, hands-ends, hands-fails, hands-flushes, hands-goes_on}
use Rattle.operator_line.proofs.serving.serve_piece.Goals as goal

pub returns-in_err-serve_line-clause-piece : goal.returns-in_err-serve_line-clause-piece
returns-in_err-serve_line-clause-piece g c front begun =
    let p = err_from_is_err_and c.from_residual.result c.from_residual.ensures.1 in
    rw (p.1, p.2) (so_far-fails front c.args.piece.now c.loop-front.rest.now c.in-Some.front.now c.in-Some.after.now c.loop-front.has_line c.loop-front.buffers.line (session_log g.B.Events.log c.args.session.now) (session_log g.B.Events.log c.loop-front.session) (session_log g.B.Events.log c.serve_line.new.session)
    (g.W.Write.contents c.args.writer.now) (g.W.Write.contents c.loop-front.writer) (g.W.Write.contents c.serve_line.new.writer) c.in-Some.ensures.0 c.in-Some.ensures.1 (c.loop-front.invariant.0 front begun) _ c.serve_line.new.buffers.line c.in_err-serve_line.ensures.answers)

pub loop-front-preserved : goal.loop-front-preserved
loop-front-preserved g c = (
  λ front begun.
      let (reply, answered, appended) = c.in_ok-serve_line.ensures.answers in
      let o = g.W.Write.contents c.args.writer.now in
      let n = g.W.Write.contents c.serve_line.new.writer in
      subst (λ (l : Option (List ℕ)). IsSoFar front c.args.piece.now c.in-Some.after.now true l (session_log g.B.Events.log c.args.session.now) (session_log g.B.Events.log c.serve_line.new.session) o n) (sym c.in_ok-serve_line.ensures.begun)
      (so_far-goes_on front c.args.piece.now c.loop-front.rest.now c.in-Some.front.now c.in-Some.after.now c.loop-front.has_line c.loop-front.buffers.line (session_log g.B.Events.log c.args.session.now) (session_log g.B.Events.log c.loop-front.session) (session_log g.B.Events.log c.serve_line.new.session)
      o (g.W.Write.contents c.loop-front.writer) n c.in-Some.ensures.0 c.in-Some.ensures.1 (c.loop-front.invariant.0 front begun) reply answered appended),
  c.in_ok-serve_line.ensures.failed,
  λ front begun.
      subst (λ (l : Option (List ℕ)). HandsSoFar (KeepsOne (λ held. state g.S.Store held)) front c.args.piece.now c.in-Some.after.now l c.args.session.now.journal c.serve_line.new.session.journal) (sym c.in_ok-serve_line.ensures.begun)
      (hands-goes_on (KeepsOne (λ held. state g.S.Store held)) front c.args.piece.now c.loop-front.rest.now c.in-Some.front.now c.in-Some.after.now c.loop-front.buffers.line c.args.session.now.journal c.loop-front.session.journal c.serve_line.new.session.journal
      c.in-Some.ensures.0 c.in-Some.ensures.1 (c.loop-front.invariant.2 front begun) c.in_ok-serve_line.ensures.handed),
)

pub returns-then-has_line-clause-piece : goal.returns-then-has_line-clause-piece
returns-then-has_line-clause-piece g c front begun =
    so_far-flushes front c.args.piece.now c.loop-front.rest.now c.loop-front.has_line c.loop-front.buffers.line c.add.new.line (session_log g.B.Events.log c.args.session.now) (session_log g.B.Events.log c.loop-front.session)
    (g.W.Write.contents c.args.writer.now) (g.W.Write.contents c.loop-front.writer) (g.W.Write.contents c.flush.new.writer) (c.loop-front.invariant.0 front begun)
    c.flush.result c.flush.ensures.err c.in_default.ensures c.in_ok-add.ensures.ok c.if-has_line.true c.flush.ensures.kept

pub returns-else-has_line-clause-piece : goal.returns-else-has_line-clause-piece
returns-else-has_line-clause-piece g c front begun =
    so_far-ends front c.args.piece.now c.loop-front.rest.now c.loop-front.has_line c.loop-front.buffers.line c.add.new.line (session_log g.B.Events.log c.args.session.now) (session_log g.B.Events.log c.loop-front.session)
    (g.W.Write.contents c.args.writer.now) (g.W.Write.contents c.loop-front.writer) (g.W.Write.contents c.loop-front.writer) (c.loop-front.invariant.0 front begun)
    c.in_default.ensures c.in_ok-add.ensures.ok (Keeps-refl (g.W.Write.contents c.loop-front.writer))

pub returns-in_err-serve_line-clause-handed : goal.returns-in_err-serve_line-clause-handed
returns-in_err-serve_line-clause-handed g c front begun =
    let p = err_from_is_err_and c.from_residual.result c.from_residual.ensures.1 in
    rw p.1 (hands-fails (KeepsOne (λ held. state g.S.Store held)) front c.args.piece.now c.loop-front.rest.now c.in-Some.front.now c.in-Some.after.now c.loop-front.buffers.line c.args.session.now.journal c.loop-front.session.journal c.serve_line.new.session.journal
    c.in-Some.ensures.0 c.in-Some.ensures.1 (c.loop-front.invariant.2 front begun) p.0 c.serve_line.new.buffers.line c.in_err-serve_line.ensures.perhaps)

pub returns-then-has_line-clause-handed : goal.returns-then-has_line-clause-handed
returns-then-has_line-clause-handed g c front begun =
    hands-flushes (KeepsOne (λ held. state g.S.Store held)) front c.args.piece.now c.loop-front.rest.now c.loop-front.buffers.line c.add.new.line c.args.session.now.journal c.loop-front.session.journal (c.loop-front.invariant.2 front begun)
    c.flush.result c.in_default.ensures c.in_ok-add.ensures.ok

pub returns-else-has_line-clause-handed : goal.returns-else-has_line-clause-handed
returns-else-has_line-clause-handed g c front begun =
    hands-ends (KeepsOne (λ held. state g.S.Store held)) front c.args.piece.now c.loop-front.rest.now c.loop-front.buffers.line c.add.new.line c.args.session.now.journal c.loop-front.session.journal (c.loop-front.invariant.2 front begun)
    c.in_default.ensures c.in_ok-add.ensures.ok
