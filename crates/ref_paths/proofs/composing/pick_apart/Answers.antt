use Rattle.std.proofs.Common.{Some, sym, ap, ◌∙◌}
use Rattle.std.proofs.lemmas.Result.{IfOk-weaker}
use Rattle.ref_paths.specs.Composition.{data_or_made}
use Rattle.ref_paths.specs.Picking.{pick_at}
use Rattle.ref_paths.proofs.Composed.{picks_apart, picks_no_made}
use Rattle.ref_paths.proofs.Inside.{deeper_so}
use Rattle.ref_paths.proofs.composing.pick_apart.Goals as goal

pub returns-in-Some-clause-ok : goal.returns-in-Some-clause-ok
returns-in-Some-clause-ok c =
    let placing = c.args.to_place.now in
    let picking = c.args.to_pick.now in
    λ value.
    let picked = picks_apart placing picking value (data_or_made c.args.root) c.requires (sym (c.can_place.ensures value) ∙ c.if-not-can_place.false) in
    IfOk-weaker c.copy_picked.result _ _ (λ r h. picked ∙ ap (λ o. Some (pick_at picking (data_or_made o))) c.in-Some.is ∙ ap Some (sym (h ∙ c.pick_steps.ensures))) c.copy_picked.ensures.ok

pub returns-in-None-clause-ok : goal.returns-in-None-clause-ok
returns-in-None-clause-ok c =
    let placing = c.args.to_place.now in
    let picking = c.args.to_pick.now in
    λ value.
    picks_apart placing picking value (data_or_made c.args.root) c.requires (sym (c.can_place.ensures value) ∙ c.if-not-can_place.false)
    ∙ ap (λ o. Some (pick_at picking (data_or_made o))) c.in-None.is ∙ ap Some (picks_no_made placing picking c.requires)

pub returns-in-Some-clause-deep : goal.returns-in-Some-clause-deep
returns-in-Some-clause-deep c =
    let placing = c.args.to_place.now in
    let picking = c.args.to_pick.now in
    λ value e.
    let picked = picks_apart placing picking value (data_or_made c.args.root) c.requires (sym (c.can_place.ensures value) ∙ c.if-not-can_place.false) in
    deeper_so c.args.levels _ _ (sym (picked ∙ ap (λ o. Some (pick_at picking (data_or_made o))) c.in-Some.is ∙ ap Some (sym c.pick_steps.ensures))) (c.copy_picked.ensures.deep e)
