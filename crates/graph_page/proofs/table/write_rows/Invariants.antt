use Rattle.graph_page.specs.Markup.{ExtendsText}
use Rattle.graph_page.proofs.table.write_rows.Given as goal

-- what was there is there before the rows so far
abbrev pub invariant-loop-row : goal.invariant-loop-row
invariant-loop-row l = ExtendsText l.initial.html.bytes.items l.html.bytes.items
