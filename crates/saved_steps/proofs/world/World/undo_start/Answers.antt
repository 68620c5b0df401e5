use Rattle.std.proofs.Common.{◌≡◌, ℕ, List, refl, sym, subst, cond, None}
use Rattle.std.specs.Str.{bytes_eq}
use Rattle.branch_tree.specs.FlatMap.{IsTree}
use Rattle.saved_steps.specs.Held.{tree_in, frames_of, paths_of}
use Rattle.saved_steps.specs.declared.world.World.{World}
use Rattle.saved_steps.proofs.TakenBack.{if_there, start}
use Rattle.saved_steps.proofs.world.World.undo_start.Goals as goal

pub returns : goal.returns
returns c =
    let w = c.args.self.now in
    let v : World = record { alloc = w.alloc; executions = c.remove_tree.new.self; items = w.items } in
    let trees : (e : List ℕ) → tree_in v.executions.trees e ≡ cond (bytes_eq c.args.fact.now.name.thread.exec e) None (tree_in w.executions.trees e) =
    subst (λ (x : List ℕ). (e : List ℕ) → tree_in v.executions.trees e ≡ cond (bytes_eq x e) None (tree_in w.executions.trees e)) c.exec.ensures.exec c.remove_tree.ensures in
    start w v c.args.fact.now refl c.requires (if_there c.frame.result (IsTree (paths_of (frames_of w) c.args.fact.now.name.thread.exec)) (sym c.if-prove.ensures) c.frame.ensures.tree) trees
