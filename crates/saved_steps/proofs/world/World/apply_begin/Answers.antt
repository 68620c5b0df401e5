use Rattle.std.proofs.Common.{◌≡◌, ℕ, List, refl, sym, subst, Some, cond}
use Rattle.std.specs.Str.{bytes_eq}
use Rattle.saved_steps.specs.Held.{tree_in}
use Rattle.saved_steps.specs.Undoing.{IsApplied}
use Rattle.saved_steps.specs.declared.made.Change.TheVariants as change
use Rattle.saved_steps.specs.declared.record.StepRecord.{StepRecord}
use Rattle.saved_steps.specs.declared.world.World.{World}
use Rattle.saved_steps.proofs.Applied.{begin}
use Rattle.saved_steps.proofs.world.World.apply_begin.Goals as goal

pub returns : goal.returns
returns c =
    let w = c.args.self.now in
    let v : World = record { alloc = w.alloc; executions = c.put_tree.new.self; items = w.items } in
    let rows = c.new-tree.result in
    let trees : (e : List ℕ) → tree_in c.put_tree.new.self.trees e ≡ cond (bytes_eq c.args.name.thread.exec e) (Some rows) (tree_in w.executions.trees e) =
    subst (λ (x : List ℕ). (e : List ℕ) → tree_in c.put_tree.new.self.trees e ≡ cond (bytes_eq x e) (Some rows) (tree_in w.executions.trees e)) c.exec.ensures.exec c.put_tree.ensures in
    subst (λ (r : StepRecord). IsApplied w (record { name = c.args.name; bound = c.args.bound; change = change.Begin c.args.frame }) v r) (sym c.record.ensures)
    (begin w v c.args.name c.args.bound c.args.frame rows refl c.requires trees c.new-tree.ensures.frames)
