use Rattle.std.proofs.Common.{◌≡◌, ap, Some, None, Err, slice_get, inl, to_z, of_z, w64, rules, subst, sym}
use Rattle.sqlite.specs.Held.{state}
use Rattle.sqlite.specs.declared.error.Error.{Error}
use Rattle.book_journal.specs.Entries.{entries}
use Rattle.sqlite.specs.Schema.{Schema}
use Rattle.sqlite.specs.Given.{IsPlain}
use Rattle.sqlite.specs.Listing.{understood}
use Rattle.book_journal.proofs.Queries.{shows_last, last_plain, last_text}
use Rattle.book_journal.proofs.Refusals.{last_cause, no_integer, no_last}
use Rattle.book_journal.proofs.read.last_number.Goals as goal

pub select-requires : goal.select-requires
select-requires g c = subst (λ (s : Schema). IsPlain (understood s last_text)) (sym c.requires) last_plain

pub returns-in-None-clause-last : goal.returns-in-None-clause-last
returns-in-None-clause-last g c clean =
    let last = shows_last (state g.S.Store c.args.conn.now) (state g.S.Store c.select.new.conn) c.in_ok-rows.rows.items c.requires (c.in_ok-rows.ensures.shown clean) in
    let empty : slice_get c.in_ok-rows.rows.items 0 ≡ None = search rules in
    last.none empty

pub returns-clause-last : goal.returns-clause-last
returns-clause-last g c clean =
    let last = shows_last (state g.S.Store c.args.conn.now) (state g.S.Store c.select.new.conn) c.in_ok-rows.rows.items c.requires (c.in_ok-rows.ensures.shown clean) in
    let first : slice_get c.in_ok-rows.rows.items 0 ≡ Some c.in-Some.row.now = search rules in
    let same : to_z w64 (of_z w64 c.in_ok-get-in-Some.field-0) ≡ c.in_ok-get-in-Some.field-0 = search rules in
    rw same (last.some c.in-Some.row.now c.in_ok-get-in-Some.field-0 first c.in_ok-get-in-Some.ensures.ok.1)

pub returns-in_err-rows-clause-cause : goal.returns-in_err-rows-clause-cause
returns-in_err-rows-clause-cause g c clean =
    let failed : c.from_residual.result ≡ Err c.in_err-rows.field-0.0 = search rules in
    rw failed (inl (last_cause (state g.S.Store c.args.conn.now) (state g.S.Store c.select.new.conn) c.in_err-rows.field-0.0 c.requires (c.in_err-rows.ensures.cause clean)))

pub returns-in_err-get-in-Some-clause-cause : goal.returns-in_err-get-in-Some-clause-cause
returns-in_err-get-in-Some-clause-cause g c clean =
    let e : Error = c.in_err-get-in-Some.field-0.0 in
    let row = c.in-Some.row.now in
    let failed : c.from_residual-in_err-get-in-Some.result ≡ Err e = search rules in
    let last = shows_last (state g.S.Store c.args.conn.now) (state g.S.Store c.select.new.conn) c.in_ok-rows.rows.items c.requires (c.in_ok-rows.ensures.shown clean) in
    let first : slice_get c.in_ok-rows.rows.items 0 ≡ Some row = search rules in
    let why = no_integer row e (λ h. c.in_err-get-in-Some.ensures.index.0 (ap Err h)) c.in_err-get-in-Some.ensures.kind c.in_err-get-in-Some.ensures.named in
    rw failed (no_last (state g.S.Store c.args.conn.now) (state g.S.Store c.select.new.conn) (entries (state g.S.Store c.args.conn.now).now.trees) row e (last.held row first) why)
