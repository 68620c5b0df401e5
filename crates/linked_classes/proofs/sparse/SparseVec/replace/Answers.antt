use Rattle.std.proofs.Common.{Some, arith, ap, sym, refl, ◌∙◌}
use Rattle.std.proofs.lemmas.List.{length-set}
use Rattle.linked_classes.specs.Cells.{key_at}
use Rattle.linked_classes.proofs.Counts.{replaced_whole}
use Rattle.linked_classes.proofs.Keys.{key_read, key_within, leads, full_key, entry_is, replaced_cells, same_view}
use Rattle.linked_classes.proofs.sparse.SparseVec.replace.Goals as goal

pub index_mut-requires : goal.index_mut-requires
index_mut-requires g c =
    let values = c.self.inside.values.items in
    let keys = c.self.inside.keys.items in
    let full = full_key values keys c.self.invariant.keyed c.args.number (rw (← c.self.view_is) at c.requires) in
    let key = key_read keys c.args.number c.index.result.now _ (key_within keys c.args.number full) c.index.ensures in
    let low = (leads values (key_at keys) c.self.invariant.keyed c.args.number full).within in
    omega (arith, key, low, c.self.inside.values.ok.0)

pub invariant_of-self : goal.invariant_of-self
invariant_of-self g c =
    let values = c.self.inside.values.items in
    let keys = c.self.inside.keys.items in
    let full = full_key values keys c.self.invariant.keyed c.args.number (rw (← c.self.view_is) at c.requires) in
    let key = key_read keys c.args.number c.index.result.now _ (key_within keys c.args.number full) c.index.ensures in
    let entry = entry_is values keys c.self.invariant.keyed c.args.number full c.index.result.now c.index_mut.result.now key c.index_mut.ensures.value in
    rw (entry.0, c.replace.ensures.after, sym key) (replaced_whole values keys c.self.invariant c.args.number c.args.value full)

pub returns-clause-value : goal.returns-clause-value
returns-clause-value g c =
    let values = c.self.inside.values.items in
    let keys = c.self.inside.keys.items in
    let full = full_key values keys c.self.invariant.keyed c.args.number (rw (← c.self.view_is) at c.requires) in
    let key = key_read keys c.args.number c.index.result.now _ (key_within keys c.args.number full) c.index.ensures in
    let entry = entry_is values keys c.self.invariant.keyed c.args.number full c.index.result.now c.index_mut.result.now key c.index_mut.ensures.value in
    rw (← c.self.view_is) (entry.1 ∙ ap Some (sym c.replace.ensures.value))

pub returns-clause-left : goal.returns-clause-left
returns-clause-left g c =
    let values = c.self.inside.values.items in
    let keys = c.self.inside.keys.items in
    let full = full_key values keys c.self.invariant.keyed c.args.number (rw (← c.self.view_is) at c.requires) in
    let key = key_read keys c.args.number c.index.result.now _ (key_within keys c.args.number full) c.index.ensures in
    let entry = entry_is values keys c.self.invariant.keyed c.args.number full c.index.result.now c.index_mut.result.now key c.index_mut.ensures.value in
    rw (← c.self.view_is)
    (same_view
    (rw (entry.0, c.replace.ensures.after, sym key) (replaced_cells values keys c.self.invariant.keyed c.args.number c.args.value full))
    refl
    (omega (arith, length-set values c.index.result.now (record { number = c.index_mut.result.now.number; value = c.replace.new.dest }))))
