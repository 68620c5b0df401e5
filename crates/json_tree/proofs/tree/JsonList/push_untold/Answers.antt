use Rattle.std.proofs.Common.{◌≡◌, ap, ◌∙◌, ◌++◌, ◌∷◌, [], is_ok}
use Rattle.std.proofs.lemmas.List.{map-append}
use Rattle.json_tree.specs.View.{data_of, list_of, held}
use Rattle.json_tree.proofs.Nodes.{same_items, grown, not_grown}
use Rattle.json_tree.proofs.tree.JsonList.push_untold.Goals as goal

pub returns-clause-ok : goal.returns-clause-ok
returns-clause-ok c =
    let items = c.in-Ok.items.now.items in
    let before : list_of items ≡ c.args.self.now = ap list_of (same_items _ _ c.in-Ok.ensures.value) ∙ ap (λ n. list_of (held n)) c.in-Some.ensures.value ∙ c.self.view_is in
    let after = ap (λ v. list_of v.items) (c.make_mut.follows.holds c.push.new.self (ap is_ok c.in-Ok.is)) in
    grown c.push.result _ _ _ c.push.ensures.items (λ e. after ∙ ap list_of e ∙ map-append data_of items _ ∙ ap (λ ds. ds ++ data_of c.args.value ∷ []) before)

pub returns-clause-err : goal.returns-clause-err
returns-clause-err c =
    let items = c.in-Ok.items.now.items in
    let before : list_of items ≡ c.args.self.now = ap list_of (same_items _ _ c.in-Ok.ensures.value) ∙ ap (λ n. list_of (held n)) c.in-Some.ensures.value ∙ c.self.view_is in
    let after = ap (λ v. list_of v.items) (c.make_mut.follows.holds c.push.new.self (ap is_ok c.in-Ok.is)) in
    not_grown c.push.result _ _ _ c.push.ensures.items (λ e. after ∙ ap list_of e ∙ before)
