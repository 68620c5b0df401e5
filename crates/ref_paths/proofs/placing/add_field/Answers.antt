use Rattle.std.proofs.Common.{◌≡◌, ℕ, List, Some, sym, ap, ◌∙◌, option_map}
use Rattle.std.proofs.lemmas.Result.{on_ok_weaker}
use Rattle.json_tree.specs.Data.{Data, fields, members_of}
use Rattle.json_tree.specs.Fields.{with_field}
use Rattle.json_tree.specs.View.{data_of}
use Rattle.ref_paths.proofs.Places.{place_absent, names_place, placed_names}
use Rattle.ref_paths.proofs.placing.add_field.Goals as goal

pub insert_nested-requires : goal.insert_nested-requires
insert_nested-requires c = placed_names c.args.name.now c.args.rest.now (data_of c.args.value) c.args.members.now c.requires.absent c.requires.placed

pub returns-clause-ok : goal.returns-clause-ok
returns-clause-ok c =
    let ms = c.args.members.now in
    let v = data_of c.args.value in
    let rest = c.args.rest.now in
    let names = placed_names c.args.name.now rest v ms c.requires.absent c.requires.placed in
    let put = place_absent c.args.name.now rest v ms c.requires.absent ∙ ap (option_map (λ new. fields (members_of (with_field c.args.name.now new ms)))) (names_place rest v names) in
    on_ok_weaker c.insert_nested.result (λ e. put ∙ ap (λ (new : List (List ℕ × Data)). Some (fields (members_of new))) (sym e)) c.insert_nested.ensures.ok
