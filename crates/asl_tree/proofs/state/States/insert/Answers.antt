use Rattle.std.proofs.Common.{◌≡◌, ℕ, List, rules, ap, ◌∙◌}
use Rattle.std.specs.BTreeMap.{insert_entry}
use Rattle.std.specs.Cmp.Lexicographic.{slice_cmp}
use Rattle.std.specs.Ordering.{nat_cmp}
use Rattle.asl_tree.specs.Definition.{StateTree}
use Rattle.asl_tree.specs.TreeView.{tree_of, states_of}
use Rattle.asl_tree.proofs.Trees.{states_of-insert_entry}
use Rattle.asl_tree.proofs.state.States.insert.Goals as goal

pub returns-clause-ok : goal.returns-clause-ok
returns-clause-ok c =
    let ss = c.self.inside.inner.entries in
    let put = λ (us : List (List ℕ × StateTree)). insert_entry (slice_cmp nat_cmp) us c.args.name (tree_of c.args.state) in
    let e : c.insert.new.self.entries ≡ insert_entry (slice_cmp nat_cmp) ss c.args.name c.args.state = search rules in
    ap states_of e ∙ states_of-insert_entry ss c.args.name c.args.state ∙ ap put c.self.view_is
