use Rattle.std.proofs.Common.{List, ◌++◌, ◌∷◌, [], ap, append_assoc, rules, sym, ◌∙◌}
use Rattle.depends.specs.Above.{goes_by}
use Rattle.depends.specs.declared.above.Above.{Above}
use Rattle.depends.proofs.Anyone.{or_false, or_more}
use Rattle.depends.proofs.under.UnderMarks.put_all.Goals as goal

pub loop-above-init : goal.loop-above-init
loop-above-init c = record { all = search rules; kept = λ s test down. sym (or_false _) }

pub loop-above-preserved : goal.loop-above-preserved
loop-above-preserved c = record {
  all = append_assoc c.loop-above.yielded (c.in-Some.above ∷ []) _ ∙ ap (λ (l : List Above). c.loop-above.yielded ++ l) (sym c.in-Some.ensures.steps.0) ∙ c.loop-above.invariant.all;
  kept = λ s test down. or_more (goes_by s test) c.loop-above.yielded c.in-Some.above _ _ _ (c.in_ok-put.ensures s test down) (c.loop-above.invariant.kept s test down);
}
