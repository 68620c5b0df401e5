use Rattle.std.proofs.Common.{◌≡◌, [], sym, take, get_or, length, ℕ, List, Bor, ◌<◌, rules, arith, w64, to_z, of_z}
use Rattle.std.proofs.lemmas.List.{take_more, length-map, get_or-map}
use Rattle.sqlite.specs.Held.{state}
use Rattle.sqlite.proofs.InsideLemmas.{keeps_then}
use Rattle.sqlite.proofs.StateLemmas.{survives_then}
use Rattle.book_journal.specs.Entries.{texts, number_after, last_after}
use Rattle.book_journal.proofs.Changes.{inserts_then}
use Rattle.book_journal.proofs.Numbers.{numbered_more, last_after_more}
use Rattle.book_journal.proofs.insert.insert_all.Goals as goal

pub loop-line-preserved : goal.loop-line-preserved
loop-line-preserved g c =
    let first = state g.S.Store c.args.tx.now.conn.now in
    let old = state g.S.Store c.loop-line.tx.conn.now in
    let new = state g.S.Store c.insert.new.tx.conn.now in
    let at = c.loop-line.line-index in
    let lines = texts c.args.lines.now in
    let done = take at lines in
    let line = get_or lines at [] in
    let inside : at < length c.args.lines.now = search rules in
    let low : at < length lines = rw length-map inside in
    let more = take_more lines at [] low in
    let same : to_z w64 (of_z w64 c.in_ok-no.no) ≡ c.in_ok-no.no = search rules in
    let number : c.in_ok-no.no ≡ number_after (last_after c.args.last done) = search rules in
    let spelled = λ (d : Bor (List ℕ)). let e : (get_or c.args.lines.now at d).now ≡ line = sym (get_or-map (λ (l : Bor (List ℕ)). l.now) c.args.lines.now at d [] inside) in e in
    let before = c.loop-line.invariant.1 in
    let step = c.insert.ensures.survives in (
      search rules,
      λ clean ready.
          let was = before (omega (arith, step.clean)) ready in
          let ok = (rw same at c.in_ok-insert.ensures.ok) clean was.0.ready in (
            rw (more, numbered_more c.args.last done line) (inserts_then first old new _ _ was.0 (rw (number, spelled _) at ok)),
            keeps_then first old new was.1 (c.insert.ensures.kept clean was.0.ready),
          ),
      rw (same, number, more) (sym (last_after_more c.args.last done line)),
      survives_then first old new _ _ _ (λ _ db none. none) (λ _ db none. none) c.loop-line.invariant.3 step,
    )
