use Rattle.std.proofs.Common.{rules, ◌≡◌, ◌++◌, Some, OnOk, map, string_bytes, refl, ap, ◌∙◌}
use Rattle.std.proofs.lemmas.Result.{on_ok_weaker}
use Rattle.item_store.specs.Listing.{items_left}
use Rattle.journaled_book.specs.Journaled.{log_of}
use Rattle.operator_line.specs.Answers.{AnswersListing, item_text}
use Rattle.operator_line.specs.Sessions.{log_in}
use Rattle.reply_lines.specs.Replies.{list_reply}
use Rattle.operator_line.proofs.open_session.OpenSession.items.Goals as goal

pub returns-in-Some : goal.returns-in-Some
returns-in-Some g c =
    let log = g.B.Events.log c.in-Some.book.now in
    let held : c.args.self.now.book ≡ Some c.in-Some.book.now = search rules in
    let opened : log_in g.B.Events.log c.args.self.now ≡ Some log = ap (log_of g.B.Events.log) held in
    let listed = items_left c.items.result in
    let said : OnOk c.accept_items.result (AnswersListing log (string_bytes c.accept_items.new.self.text) (Some log)) =
    on_ok_weaker c.accept_items.result
    (λ e. record { listed = listed; listing = c.items.ensures.items; told = (e ∙ ap (λ l. l ++ list_reply (map item_text listed)) c.requires, refl) })
    c.accept_items.ensures.ok
    in
    record { ok = rw opened said }
