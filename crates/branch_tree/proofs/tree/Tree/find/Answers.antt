use Rattle.std.proofs.Common.{◌≡◌, [], ◌++◌, None, ap, sym, ◌∙◌}
use Rattle.std.specs.Option.{option_copied}
use Rattle.std.proofs.lemmas.List.{append-nil}
use Rattle.branch_tree.specs.Tree.{Rows, frame_at}
use Rattle.branch_tree.proofs.tree.Tree.find.Goals as goal

pub returns-in_err-branch-clause-value : goal.returns-in_err-branch-clause-value
returns-in_err-branch-clause-value c =
    let nothing : frame_at c.self.inside.root (c.args.path.now ++ []) ≡ None = c.in_err-branch.ensures [] in
    ap option_copied c.from_residual.ensures ∙ sym nothing ∙ ap (frame_at c.self.inside.root) (append-nil c.args.path.now) ∙ ap (λ (v : Rows). frame_at v c.args.path.now) c.self.view_is
