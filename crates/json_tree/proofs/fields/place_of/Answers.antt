use Rattle.std.proofs.Common.{rules}
use Rattle.std.proofs.lemmas.Fn.{always_returns_same}
use Rattle.json_tree.specs.Fields.{text_cmp}
use Rattle.json_tree.proofs.Views.{searched, found_some, gap_none, gap_stays}
use Rattle.json_tree.proofs.fields.place_of.Goals as goal

pub returns : goal.returns
returns c =
    let name = c.args.name.now in
    let fields = c.args.fields.now in
    let facts = c.binary_search_by.ensures in
    let place = searched name fields c.binary_search_by.result c.requires facts.bound (facts.position (λ f. text_cmp f.name name) (always_returns_same _ _ _ (λ a r g called. search rules))) in
    record {
      found = place.0;
      absent = place.1;
      some = found_some name fields c.binary_search_by.result place.0;
      none = gap_none name fields c.binary_search_by.result c.requires place.1;
      stays = gap_stays name fields c.binary_search_by.result c.requires place.1;
    }
