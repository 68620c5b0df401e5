use Rattle.std.proofs.Common.{ap, sym, ◌∙◌}
use Rattle.std.specs.Prelude.{◌&&◌}
use Rattle.std.specs.Cmp.Lexicographic.{texts_ties}
use Rattle.json_tree.specs.Fields.{text_cmp}
use Rattle.item_store.specs.Condition.{is_text}
use Rattle.depends.specs.Kinds.{starts}
use Rattle.depends.proofs.Anyone.{not_more}
use Rattle.depends.proofs.Noted.{put_named}
use Rattle.depends.proofs.starts.StartMarks.add.Goals as goal

pub returns-then-not-is_start : goal.returns-then-not-is_start
returns-then-not-is_start c facts are exec = not_more (starts exec) facts c.args.fact.now _ (ap (λ b. b && is_text c.args.fact.now.name.thread.exec exec) (sym c.is_start.ensures ∙ c.if-not-is_start.true)) (are exec)

pub returns : goal.returns
returns c facts are exec =
    put_named text_cmp starts facts c.args.fact.now _ c.args.fact.now.name.thread.exec exec _ _ (c.in_ok-insert.ensures.updates.0 exec) c.in_ok-exec_text.ensures
    (ap (λ b. b && is_text c.args.fact.now.name.thread.exec exec) (sym c.is_start.ensures ∙ c.if-not-is_start.false) ∙ texts_ties c.args.fact.now.name.thread.exec exec) (are exec)
