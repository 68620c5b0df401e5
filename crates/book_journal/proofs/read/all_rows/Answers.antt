use Rattle.std.proofs.Common.{subst, sym}
use Rattle.std.proofs.lemmas.Result.{IfErr-weaker, IfOk-weaker}
use Rattle.sqlite.specs.Held.{state}
use Rattle.sqlite.specs.Schema.{Schema}
use Rattle.sqlite.specs.Given.{IsPlain}
use Rattle.sqlite.specs.Listing.{understood}
use Rattle.book_journal.proofs.Queries.{shows_all, all_plain, all_text}
use Rattle.book_journal.proofs.Refusals.{all_cause}
use Rattle.book_journal.proofs.read.all_rows.Goals as goal

pub select-requires : goal.select-requires
select-requires g c = subst (λ (s : Schema). IsPlain (understood s all_text)) (sym c.requires) all_plain

pub returns-clause-ok : goal.returns-clause-ok
returns-clause-ok g c clean =
    IfOk-weaker c.select.result _ _ (λ rows h. shows_all (state g.S.Store c.args.conn.now) (state g.S.Store c.select.new.conn) rows.items c.requires h) (c.select.ensures.shown clean)

pub returns-clause-cause : goal.returns-clause-cause
returns-clause-cause g c clean =
    IfErr-weaker c.select.result _ _ (λ e h. all_cause (state g.S.Store c.args.conn.now) (state g.S.Store c.select.new.conn) e c.requires h) (c.select.ensures.cause clean)
