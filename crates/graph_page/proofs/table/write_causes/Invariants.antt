use Rattle.graph_page.specs.Markup.{ExtendsText}
use Rattle.graph_page.proofs.table.write_causes.Given as goal

-- what was there is there before the causes so far
abbrev pub invariant-loop-place : goal.invariant-loop-place
invariant-loop-place l = ExtendsText l.initial.html.bytes.items l.html.bytes.items
