use Rattle.std.proofs.Common.{◌≡◌, drop}
use Rattle.step_graph.specs.Opened.{marked}
use Rattle.step_graph.proofs.marks.Marks.mark_all.Given as goal

abbrev pub invariant-loop-place : goal.invariant-loop-place
invariant-loop-place l = marked l.self (drop l.place-index l.places) ≡ marked l.fn.self l.places
