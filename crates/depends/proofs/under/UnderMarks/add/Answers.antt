use Rattle.std.proofs.Common.{ap₂, sym, ◌∙◌}
use Rattle.std.specs.Prelude.{◌||◌}
use Rattle.std.specs.List.{list_any}
use Rattle.std.proofs.lemmas.Result.{on_ok_weaker}
use Rattle.depends.specs.Above.{goes_by}
use Rattle.depends.specs.Kinds.{lies_by}
use Rattle.depends.proofs.Anyone.{any_more}
use Rattle.depends.proofs.under.UnderMarks.add.Goals as goal

pub returns : goal.returns
returns c =
    on_ok_weaker c.put_all.result
    (λ put facts are s test down.
    put s test down
    ∙ ap₂ (λ a l. a || list_any (goes_by s test) l) (are s test down) c.in_ok-forks.ensures
    ∙ sym (any_more (lies_by s test) facts c.args.fact.now))
    c.put_all.ensures
