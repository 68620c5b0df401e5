use Rattle.std.proofs.Common.{rules, ◌≡◌, false, Some, None, OnOk, string_bytes, sym, ap, ◌∙◌}
use Rattle.std.specs.Prelude.{is_some}
use Rattle.std.proofs.lemmas.Result.{on_ok_weaker}
use Rattle.json_tree.specs.Data.{list, items_of}
use Rattle.json_tree.specs.Reading.{read_json}
use Rattle.json_tree.specs.View.{data_of}
use Rattle.json_tree.specs.declared.tree.Json.{Json}
use Rattle.command_lines.specs.Grammar as grammar
use Rattle.operator_line.specs.Answers.{AnswersTable, AnswersItems, AnswersUnchanged}
use Rattle.operator_line.specs.Sessions.{log_in}
use Rattle.operator_line.proofs.Json.{json-read, items-begin}
use Rattle.operator_line.proofs.Sessions.{answers_begun}
use Rattle.operator_line.proofs.open_session.OpenSession.table.Goals as goal

pub returns-in-Ok-List-clause-ok : goal.returns-in-Ok-List-clause-ok
returns-in-Ok-List-clause-ok g c =
    let book = c.self.inside.book.book in
    let closed : is_some book ≡ false = search rules in
    let name = c.args.table in
    let schema = c.args.schema in
    let json = c.args.items.now in
    let ds = c.in-Ok-List.items in
    let text = string_bytes c.begin.new.reply.text in
    let after = log_in g.B.Events.log c.begin.new.self in
    let is_read : read_json json ≡ Some (list (items_of ds)) = ap read_json (sym c.as_bytes.ensures.value) ∙ c.in-Ok-List.ensures.ok ∙ ap (λ (j : Json). Some (data_of j)) c.in-Ok-List.field-0-is in
    let said : OnOk c.begin.result (AnswersTable name schema json text after) =
    on_ok_weaker c.begin.result (λ t. json-read json (list (items_of ds)) (λ told'. AnswersUnchanged told' None text after) (λ d. AnswersItems name schema d text after) is_read (items-begin name schema ds text after t)) c.begin.ensures.ok
    in
    rw (← c.self.view_is) (answers_begun g.B.Events.log book (grammar.table name schema json) c.begin.result text after closed said)
