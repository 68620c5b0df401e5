use Rattle.std.proofs.Common.{◌≡◌, ◌≢◌, ◌∙◌, pos, ◌<◌, ℕ, [], ◌∷◌, map, length, Err, ap, refl, sym, inr, string_bytes, rules}
use Rattle.std.proofs.lemmas.List.{map-append, length-map}
use Rattle.book_journal.specs.declared.fault.JournalFault.TheVariants.{Gap, Memory, Store}
use Rattle.sqlite.specs.declared.error.ErrorCode.TheVariants.{OutOfMemory}
use Rattle.sqlite.specs.declared.error.Error.TheVariants.{SqliteFailure}
use Rattle.sqlite.specs.declared.types.Value.TheVariants.{Int}
use Rattle.book_journal.specs.Entries.{row_number}
use Rattle.book_journal.proofs.Numbers.{one_more, gap_at}
use Rattle.book_journal.proofs.Refusals.{unreadable_at}
use Rattle.book_journal.proofs.read.lines_of.Goals as goal

pub returns-in_err-line_at-clause-gap : goal.returns-in_err-line_at-clause-gap
returns-in_err-line_at-clause-gap c n is =
    let rows = c.args.rows.now in
    let at = c.loop-row.row-index in
    let low : at < length rows = search rules in
    let failed : c.line_at.result ≡ Err (Gap n) = search rules in
    let said = c.line_at.ensures.gap n failed in
    let lines = map string_bytes c.loop-row.lines.items in
    let count : length lines ≡ at = length-map c.loop-row.lines.items string_bytes ∙ c.loop-row.invariant.0 in
    let position : n ≡ at = search rules in
    let item = sym c.row-item.is in
    let differs : row_number c.row-item.result ≢ Int (pos at) = (λ e. said.1 (e ∙ ap (λ (m : ℕ). Int (pos m)) (sym position ∙ said.0))) in
    rw position (gap_at at rows lines c.row-item.result c.row-item.result low count c.loop-row.invariant.1 item differs)

pub loop-row-preserved : goal.loop-row-preserved
loop-row-preserved c =
    let rows = c.args.rows.now in
    let at = c.loop-row.row-index in
    let low : at < length rows = search rules in
    let lines = map string_bytes c.loop-row.lines.items in
    let count : length lines ≡ at = length-map c.loop-row.lines.items string_bytes ∙ c.loop-row.invariant.0 in
    let item = sym c.row-item.is in
    let len : c.len.result ≡ at = search rules in
    let line = rw len at c.in_ok-line_at.ensures.ok in
    let items = c.in_ok-push.ensures.items in (
      search rules,
      rw (items, map-append string_bytes c.loop-row.lines.items (c.in_ok-line_at.field-0 ∷ [])) (one_more at rows lines c.row-item.result c.row-item.result (string_bytes c.in_ok-line_at.field-0) low count c.loop-row.invariant.1 item line),
    )

pub returns-in_err-push-clause-named : goal.returns-in_err-push-clause-named
returns-in_err-push-clause-named c =
    let refused : c.from_residual-in_err-push.result ≡ Err Memory = search rules in
    rw refused (inr (SqliteFailure OutOfMemory, refl))

pub returns-in_err-line_at-clause-unreadable : goal.returns-in_err-line_at-clause-unreadable
returns-in_err-line_at-clause-unreadable c cause is =
    let low : c.loop-row.row-index < length c.args.rows.now = search rules in
    let failed : c.line_at.result ≡ Err (Store cause) = search rules in
    unreadable_at c.loop-row.row-index c.args.rows.now c.row-item.result low (sym c.row-item.is) (c.line_at.ensures.unreadable cause failed)
