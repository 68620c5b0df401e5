use Rattle.graph_page.specs.Markup.{ExtendsText}
use Rattle.graph_page.proofs.markup.Markup.all_tags.Given as goal

-- what was there is there before the parts so far
abbrev pub invariant-loop-part : goal.invariant-loop-part
invariant-loop-part l = ExtendsText l.initial.self.bytes.items l.self.bytes.items
