use Rattle.std.proofs.Common.{◌≡◌, ◌<◌, None, arith, length, ap, sym, refl, ◌∙◌}
use Rattle.std.proofs.lemmas.List.{length-map}
use Rattle.linked_classes.specs.Cells.{cell_at, key_at}
use Rattle.linked_classes.specs.Keys.{value_of, cells_of}
use Rattle.linked_classes.proofs.Counts.{put_whole}
use Rattle.linked_classes.proofs.Keys.{cell_is, empty, put_cells, same_view}
use Rattle.linked_classes.proofs.sparse.SparseVec.put.Goals as goal

pub invariant_of-self : goal.invariant_of-self
invariant_of-self g c =
    let values = c.self.inside.values.items in
    let keys = c.self.inside.keys.items in
    let key : c.len-key.result ≡ length values = omega (arith, c.len-key.ensures, c.self.inside.values.ok.0) in
    let end : c.args.number < length (cells_of values keys) = rw (← c.self.view_is) at c.requires.end in
    let none : cell_at (cells_of values keys) c.args.number ≡ None = rw (← c.self.view_is) at c.requires.hole in
    let hole = empty values (key_at keys) c.self.invariant.keyed c.args.number (sym (cell_is values keys c.self.invariant.keyed.few c.args.number) ∙ none) in
    let spare = rw (← c.self.view_is) at c.requires.spare in
    rw (c.push_reserved.ensures.items, key)
    (put_whole values keys c.self.invariant c.args.number c.args.value (omega (arith, end, length-map keys (value_of values))) hole (omega (arith, spare)))

pub returns : goal.returns
returns g c =
    let values = c.self.inside.values.items in
    let keys = c.self.inside.keys.items in
    let key : c.len-key.result ≡ length values = omega (arith, c.len-key.ensures, c.self.inside.values.ok.0) in
    let end : c.args.number < length (cells_of values keys) = rw (← c.self.view_is) at c.requires.end in
    let none : cell_at (cells_of values keys) c.args.number ≡ None = rw (← c.self.view_is) at c.requires.hole in
    let hole = empty values (key_at keys) c.self.invariant.keyed c.args.number (sym (cell_is values keys c.self.invariant.keyed.few c.args.number) ∙ none) in
    let spare = rw (← c.self.view_is) at c.requires.spare in
    rw (← c.self.view_is)
    (same_view
    (rw (c.push_reserved.ensures.items, key) (put_cells values keys c.self.invariant.keyed c.args.number c.args.value (omega (arith, end, length-map keys (value_of values))) hole (omega (arith, spare))))
    refl
    (omega (arith, c.push_reserved.ensures.capacity, ap length c.push_reserved.ensures.items)))
