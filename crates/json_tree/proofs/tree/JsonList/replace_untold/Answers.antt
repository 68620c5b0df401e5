use Rattle.std.proofs.Common.{◌≡◌, sym, ap, ◌∙◌, slice_set, slice_get, is_ok, arith, Some, option_map, length}
use Rattle.std.proofs.lemmas.List.{map-set, length-map}
use Rattle.std.proofs.lemmas.Option.{slice_get-map}
use Rattle.json_tree.specs.View.{data_of, list_of, held}
use Rattle.json_tree.proofs.Nodes.{same_items, get_within}
use Rattle.json_tree.proofs.tree.JsonList.replace_untold.Goals as goal

pub returns-clause-ok : goal.returns-clause-ok
returns-clause-ok c =
    let items = c.in-Ok.items.now.items in
    let index = c.args.index in
    let is : list_of items ≡ c.args.self.now = ap list_of (same_items _ _ c.in-Ok.ensures.value) ∙ ap (λ n. list_of (held n)) c.in-Some.ensures.value ∙ c.self.view_is in
    ap (λ v. list_of v.items) (c.make_mut.follows.holds _ (ap is_ok c.in-Ok.is)) ∙ map-set data_of items index _ ∙ ap (λ ds. slice_set ds index (data_of c.replace.new.dest)) is ∙ ap (λ j. slice_set c.args.self.now index (data_of j)) c.replace.ensures.after

pub returns-clause-replaced : goal.returns-clause-replaced
returns-clause-replaced c =
    let items = c.in-Ok.items.now.items in
    let index = c.args.index in
    let is : list_of items ≡ c.args.self.now = ap list_of (same_items _ _ c.in-Ok.ensures.value) ∙ ap (λ n. list_of (held n)) c.in-Some.ensures.value ∙ c.self.view_is in
    ap (λ ds. slice_get ds index) (sym is) ∙ slice_get-map data_of items index ∙ ap (option_map data_of) (get_within items index _ (omega (arith, ap length is, length-map items data_of))) ∙ ap (λ j. Some (data_of j)) (sym c.index_mut.ensures.value) ∙ ap (λ j. Some (data_of j)) (sym c.replace.ensures.value)
