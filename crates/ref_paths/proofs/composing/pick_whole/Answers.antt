use Rattle.std.proofs.Common.{sym, ◌∙◌, subst, ◌<◌}
use Rattle.json_tree.specs.View.{data_of}
use Rattle.ref_paths.specs.Composition.{data_or_made}
use Rattle.ref_paths.proofs.Inside.{placed_deep}
use Rattle.ref_paths.proofs.composing.pick_whole.Goals as goal

pub returns-then-placed_depth-levels-clause-deep : goal.returns-then-placed_depth-levels-clause-deep
returns-then-placed_depth-levels-clause-deep c = λ e.
    placed_deep c.args.to_place.now (data_of c.args.value.now) (data_or_made c.args.root) c.args.levels (sym (c.can_place.ensures (data_of c.args.value.now)) ∙ c.if-not-can_place.false)
    (subst (λ n. c.args.levels < n) c.placed_depth.ensures c.if-placed_depth-levels.true)
