use Rattle.std.proofs.Common.{◌+◌, ◌∷◌, [], ◌++◌, ap, refl, ◌∙◌}
use Rattle.step_index.proofs.plans.begin.Goals as goal

pub returns-clause-places : goal.returns-clause-places
returns-clause-places c = c.in_ok-add.ensures.places ∙ ap (λ xs. xs ++ c.args.at ∷ []) c.new-found.ensures.places

pub returns-clause-found : goal.returns-clause-found
returns-clause-found c = c.in_ok-add.ensures.found c.look.result.now c.look.ensures.record refl (c.new-found.ensures.found c.args.records.now (c.args.at + 1))
