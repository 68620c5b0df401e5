use Rattle.std.proofs.Common.{◌≡◌, [], ◌++◌, Bool, true, false, Some, Ok, Err, ap, ◌∙◌, length, drop, length-append, arith, refl, subst}
use lib.ListN.{length-take, length-drop}
use Rattle.std.proofs.lemmas.Result.{err_from_is_err_and}
use Rattle.std.proofs.KnownBytes.{Keeps-refl}
use Rattle.operator_line.proofs.Served.{Asks, none-before, if_some, reading-begins, reading-goes_on, reading-fails, reading-ends, reading-stops, on_ok-from, failed-answers, failed-read, failed-whole, last-reads_not, reading-failed, reading-read}
use Rattle.operator_line.specs.declared.serving.ServeFault.{ServeFault}
use Rattle.sqlite.specs.Held.{state}
use Rattle.operator_line.proofs.Handed.{HandsAsked, handing-begins, handing-ends, handing-fails, handing-goes_on, handing-stops, some-none}
use Rattle.operator_line.specs.Sessions.{KeepsOne, session_log}
use Rattle.operator_line.proofs.serving.serve_all.Goals as goal

pub returns-in_default-clause-answers : goal.returns-in_default-clause-answers
returns-in_default-clause-answers g c = if_some _ (λ input e. none-before _ _ _ _ _ refl (Keeps-refl _))

pub returns-in_default-clause-whole : goal.returns-in_default-clause-whole
returns-in_default-clause-whole g c = if_some _ (λ _ _. tt)

pub returns-in_default-clause-read : goal.returns-in_default-clause-read
returns-in_default-clause-read g c = λ e. cc

pub loop-init : goal.loop-init
loop-init g c = (omega (arith, c.in-Ok.ensures.len, c.in-Ok.piece.ok.0), λ input e. reading-begins input _ _ _ _ e c.new.ensures, c.requires.here, λ input e. handing-begins (KeepsOne (λ held. state g.S.Store held)) input _ _ _ e c.new.ensures)

pub serve_read-requires-clause-some : goal.serve_read-requires-clause-some
serve_read-requires-clause-some g c = λ κs inside. rw c.deref_mut.ensures.value c.loop.invariant.0

pub returns-in_err-serve_read-clause-answers : goal.returns-in_err-serve_read-clause-answers
returns-in_err-serve_read-clause-answers g c =
    let p = err_from_is_err_and c.from_residual.result c.from_residual.ensures.1 in
    failed-answers c.from_residual.result _ (p.1 ∙ ap (λ x. Err x) p.2) _ _ _ _ _ (λ input e. reading-fails input (g.R.Read.remaining c.loop.reader) (g.R.Read.remaining c.serve_read.new.reader) c.loop.buffers.line c.serve_read.new.buffers.line
    (session_log g.B.Events.log c.args.session.now) (session_log g.B.Events.log c.loop.session) (session_log g.B.Events.log c.serve_read.new.session) (g.W.Write.contents c.args.writer.now) (g.W.Write.contents c.loop.writer) (g.W.Write.contents c.serve_read.new.writer)
    (c.loop.invariant.1 input e) _ c.in_err-serve_read.ensures.read)

pub returns-in_err-serve_read-clause-whole : goal.returns-in_err-serve_read-clause-whole
returns-in_err-serve_read-clause-whole g c =
    let p = err_from_is_err_and c.from_residual.result c.from_residual.ensures.1 in
    failed-whole c.from_residual.result _ (p.1 ∙ ap (λ x. Err x) p.2) _ _

pub returns-in_err-serve_read-clause-read : goal.returns-in_err-serve_read-clause-read
returns-in_err-serve_read-clause-read g c =
    let p = err_from_is_err_and c.from_residual.result c.from_residual.ensures.1 in
    let left = g.R.Read.remaining c.loop.reader in
    let left' = g.R.Read.remaining c.serve_read.new.reader in
    let w = g.W.Write.contents c.loop.writer in
    let n = g.W.Write.contents c.serve_read.new.writer in
    failed-read c.from_residual.result _ (p.1 ∙ ap (λ x. Err x) p.2) _
    (λ input f same. reading-failed input left left' c.loop.buffers.line c.serve_read.new.buffers.line (session_log g.B.Events.log c.args.session.now) (session_log g.B.Events.log c.loop.session) (session_log g.B.Events.log c.serve_read.new.session)
    (g.W.Write.contents c.args.writer.now) w n (c.loop.invariant.1 input f)
    (subst (λ (x : ServeFault). Asks (Err x) left left' c.loop.buffers.line c.serve_read.new.buffers.line (session_log g.B.Events.log c.loop.session) (session_log g.B.Events.log c.serve_read.new.session) w n) same c.in_err-serve_read.ensures.read))

pub returns-then-not-branch-clause-read : goal.returns-then-not-branch-clause-read
returns-then-not-branch-clause-read g c = λ e. absurd (last-reads_not c.serve_last.result _ _ _ _ _ c.serve_last.ensures.last e)

pub returns-clause-read : goal.returns-clause-read
returns-clause-read g c = λ e. if_some _ (λ input f. reading-read input _ _ _ _ _ _ (c.loop.invariant.1 input f))

pub returns-then-not-branch-clause-answers : goal.returns-then-not-branch-clause-answers
returns-then-not-branch-clause-answers g c =
    let over : c.in_ok-serve_read.field-0 ≡ false = c.if-not-branch.true in
    let left = g.R.Read.remaining c.loop.reader in
    let left' = g.R.Read.remaining c.serve_read.new.reader in
    let p = g.W.Write.contents c.loop.writer in
    let n = g.W.Write.contents c.serve_read.new.writer in
    let asks : Asks (Ok false) left left' c.loop.buffers.line c.serve_read.new.buffers.line (session_log g.B.Events.log c.loop.session) (session_log g.B.Events.log c.serve_read.new.session) p n =
    subst (λ (b : Bool). Asks (Ok b) left left' c.loop.buffers.line c.serve_read.new.buffers.line (session_log g.B.Events.log c.loop.session) (session_log g.B.Events.log c.serve_read.new.session) p n) over c.in_ok-serve_read.ensures.read
    in
    if_some _ (λ input e. (reading-ends input left left' c.loop.buffers.line c.serve_read.new.buffers.line (session_log g.B.Events.log c.args.session.now) (session_log g.B.Events.log c.loop.session) (session_log g.B.Events.log c.serve_read.new.session)
    (g.W.Write.contents c.args.writer.now) p n (c.loop.invariant.1 input e) (session_log g.B.Events.log c.serve_last.new.session) (g.W.Write.contents c.serve_last.new.writer) c.serve_last.result asks c.serve_last.ensures.last).0)

pub returns-then-not-branch-clause-whole : goal.returns-then-not-branch-clause-whole
returns-then-not-branch-clause-whole g c =
    let over : c.in_ok-serve_read.field-0 ≡ false = c.if-not-branch.true in
    let left = g.R.Read.remaining c.loop.reader in
    let left' = g.R.Read.remaining c.serve_read.new.reader in
    let p = g.W.Write.contents c.loop.writer in
    let n = g.W.Write.contents c.serve_read.new.writer in
    let asks : Asks (Ok false) left left' c.loop.buffers.line c.serve_read.new.buffers.line (session_log g.B.Events.log c.loop.session) (session_log g.B.Events.log c.serve_read.new.session) p n =
    subst (λ (b : Bool). Asks (Ok b) left left' c.loop.buffers.line c.serve_read.new.buffers.line (session_log g.B.Events.log c.loop.session) (session_log g.B.Events.log c.serve_read.new.session) p n) over c.in_ok-serve_read.ensures.read
    in
    if_some _ (λ input e. on_ok-from c.serve_last.result (left' ≡ Some []) (reading-ends input left left' c.loop.buffers.line c.serve_read.new.buffers.line (session_log g.B.Events.log c.args.session.now) (session_log g.B.Events.log c.loop.session) (session_log g.B.Events.log c.serve_read.new.session)
    (g.W.Write.contents c.args.writer.now) p n (c.loop.invariant.1 input e) (session_log g.B.Events.log c.serve_last.new.session) (g.W.Write.contents c.serve_last.new.writer) c.serve_last.result asks c.serve_last.ensures.last).1)

pub loop-preserved : goal.loop-preserved
loop-preserved g c =
    let goes : c.in_ok-serve_read.field-0 ≡ true = c.if-not-branch.false in
    let left = g.R.Read.remaining c.loop.reader in
    let left' = g.R.Read.remaining c.serve_read.new.reader in
    let p = g.W.Write.contents c.loop.writer in
    let n = g.W.Write.contents c.serve_read.new.writer in
    let asks : Asks (Ok true) left left' c.loop.buffers.line c.serve_read.new.buffers.line (session_log g.B.Events.log c.loop.session) (session_log g.B.Events.log c.serve_read.new.session) p n =
    subst (λ (b : Bool). Asks (Ok b) left left' c.loop.buffers.line c.serve_read.new.buffers.line (session_log g.B.Events.log c.loop.session) (session_log g.B.Events.log c.serve_read.new.session) p n) goes c.in_ok-serve_read.ensures.read
    in
    let hands : HandsAsked (KeepsOne (λ held. state g.S.Store held)) (Ok true) left left' c.loop.buffers.line c.serve_read.new.buffers.line c.loop.session.journal c.serve_read.new.session.journal =
    subst (λ (b : Bool). HandsAsked (KeepsOne (λ held. state g.S.Store held)) (Ok b) left left' c.loop.buffers.line c.serve_read.new.buffers.line c.loop.session.journal c.serve_read.new.session.journal) goes c.in_ok-serve_read.ensures.handed
    in
    let new = c.serve_read.new.piece in
    let rest = drop (length new) c.loop.piece.items in (
      omega (arith, c.loop.invariant.0, c.loop.piece.ok.0, length-take c.loop.piece.len (new ++ rest), length-append new rest, length-drop (length new) c.loop.piece.items),
      λ input e. reading-goes_on input left left' c.loop.buffers.line c.serve_read.new.buffers.line (session_log g.B.Events.log c.args.session.now) (session_log g.B.Events.log c.loop.session) (session_log g.B.Events.log c.serve_read.new.session)
          (g.W.Write.contents c.args.writer.now) p n (c.loop.invariant.1 input e) asks,
      c.in_ok-serve_read.ensures.failed,
      λ input e. handing-goes_on (KeepsOne (λ held. state g.S.Store held)) input left left' c.loop.buffers.line c.serve_read.new.buffers.line c.args.session.now.journal c.loop.session.journal c.serve_read.new.session.journal
          (c.loop.invariant.3 input e) hands,
    )

pub returns-clause-answers : goal.returns-clause-answers
returns-clause-answers g c = if_some _ (λ input e. reading-stops input _ _ _ _ _ _ (c.loop.invariant.1 input e))

pub returns-clause-whole : goal.returns-clause-whole
returns-clause-whole g c = if_some _ (λ _ _. tt)

pub returns-in_default-clause-handed : goal.returns-in_default-clause-handed
returns-in_default-clause-handed g c = if_some _ (λ input e. some-none (KeepsOne (λ held. state g.S.Store held)) _ _ _ refl)

pub returns-in_err-serve_read-clause-handed : goal.returns-in_err-serve_read-clause-handed
returns-in_err-serve_read-clause-handed g c =
    let p = err_from_is_err_and c.from_residual.result c.from_residual.ensures.1 in
    rw p.1 (if_some _ (λ input e. handing-fails (KeepsOne (λ held. state g.S.Store held)) input (g.R.Read.remaining c.loop.reader) (g.R.Read.remaining c.serve_read.new.reader) c.loop.buffers.line c.serve_read.new.buffers.line
    c.args.session.now.journal c.loop.session.journal c.serve_read.new.session.journal (c.loop.invariant.3 input e) p.0 c.in_err-serve_read.ensures.handed))

pub returns-then-not-branch-clause-handed : goal.returns-then-not-branch-clause-handed
returns-then-not-branch-clause-handed g c =
    let over : c.in_ok-serve_read.field-0 ≡ false = c.if-not-branch.true in
    let left = g.R.Read.remaining c.loop.reader in
    let left' = g.R.Read.remaining c.serve_read.new.reader in
    let hands : HandsAsked (KeepsOne (λ held. state g.S.Store held)) (Ok false) left left' c.loop.buffers.line c.serve_read.new.buffers.line c.loop.session.journal c.serve_read.new.session.journal =
    subst (λ (b : Bool). HandsAsked (KeepsOne (λ held. state g.S.Store held)) (Ok b) left left' c.loop.buffers.line c.serve_read.new.buffers.line c.loop.session.journal c.serve_read.new.session.journal) over c.in_ok-serve_read.ensures.handed
    in
    if_some _ (λ input e. handing-ends (KeepsOne (λ held. state g.S.Store held)) input left left' c.loop.buffers.line c.serve_read.new.buffers.line c.args.session.now.journal c.loop.session.journal c.serve_read.new.session.journal
    (c.loop.invariant.3 input e) c.serve_last.new.session.journal c.serve_last.result hands c.serve_last.ensures.handed)

pub returns-clause-handed : goal.returns-clause-handed
returns-clause-handed g c = if_some _ (λ input e. handing-stops (KeepsOne (λ held. state g.S.Store held)) input _ _ _ _ (c.loop.invariant.3 input e))
