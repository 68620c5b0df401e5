use Rattle.std.proofs.Common.{◌≡◌, ◌<◌, arith, length, sym, refl}
use Rattle.linked_classes.specs.Cells.{key_at}
use Rattle.linked_classes.proofs.Counts.{taken_whole}
use Rattle.linked_classes.proofs.Keys.{key_read, key_within, entry_is, low_key, last_is, last_full, taken_cells, left_length, no_value, same_view}
use Rattle.linked_classes.proofs.sparse.SparseVec.take.Goals as goal

pub returns-then-key-count-clause-left : goal.returns-then-key-count-clause-left
returns-then-key-count-clause-left g c =
    let values = c.self.inside.values.items in
    let keys = c.self.inside.keys.items in
    let key = key_read keys c.args.number c.index-key.result.now _ (omega (arith, c.if-number-len.false, c.len.ensures, c.self.inside.keys.ok.0)) c.index-key.ensures in
    rw (← c.self.view_is) (same_view (no_value values keys c.self.invariant.keyed c.args.number (omega (arith, key, c.if-key-count.true, c.len-count.ensures, c.self.inside.values.ok.0))) refl (omega arith))

pub index_mut-requires : goal.index_mut-requires
index_mut-requires g c =
    let values = c.self.inside.values.items in
    let keys = c.self.inside.keys.items in
    let key = key_read keys c.args.number c.index-key.result.now _ (omega (arith, c.if-number-len.false, c.len.ensures, c.self.inside.keys.ok.0)) c.index-key.ensures in
    let count : c.len-count.result ≡ length values = omega (arith, c.len-count.ensures, c.self.inside.values.ok.0) in
    let low : key_at keys c.args.number < length values = omega (arith, key, count, c.if-key-count.false) in
    let full = low_key values (key_at keys) c.self.invariant.keyed c.args.number low in
    let last = last_is values c.len-count.result c.index.result.now count (omega (arith, low)) c.index.ensures in
    let within = key_within keys c.index.result.now.number (last_full values keys c.self.invariant.keyed c.args.number full c.index.result.now c.index.result.now last) in
    omega (arith, within, c.self.inside.keys.ok.0)

pub invariant_of-self : goal.invariant_of-self
invariant_of-self g c =
    let values = c.self.inside.values.items in
    let keys = c.self.inside.keys.items in
    let key = key_read keys c.args.number c.index-key.result.now _ (omega (arith, c.if-number-len.false, c.len.ensures, c.self.inside.keys.ok.0)) c.index-key.ensures in
    let count : c.len-count.result ≡ length values = omega (arith, c.len-count.ensures, c.self.inside.values.ok.0) in
    let low : key_at keys c.args.number < length values = omega (arith, key, count, c.if-key-count.false) in
    let full = low_key values (key_at keys) c.self.invariant.keyed c.args.number low in
    let last = last_is values c.len-count.result c.index.result.now count (omega (arith, low)) c.index.ensures in
    rw (c.swap_remove-taken.ensures.items, sym key) (taken_whole values keys c.self.invariant c.args.number full c.index.result.now c.swap_remove-taken.result last)

pub returns-clause-value : goal.returns-clause-value
returns-clause-value g c =
    let values = c.self.inside.values.items in
    let keys = c.self.inside.keys.items in
    let key = key_read keys c.args.number c.index-key.result.now _ (omega (arith, c.if-number-len.false, c.len.ensures, c.self.inside.keys.ok.0)) c.index-key.ensures in
    let count : c.len-count.result ≡ length values = omega (arith, c.len-count.ensures, c.self.inside.values.ok.0) in
    let low : key_at keys c.args.number < length values = omega (arith, key, count, c.if-key-count.false) in
    let full = low_key values (key_at keys) c.self.invariant.keyed c.args.number low in
    let entry = entry_is values keys c.self.invariant.keyed c.args.number full c.index-key.result.now c.swap_remove-taken.result key c.swap_remove-taken.ensures.value in
    rw (← c.self.view_is) (sym entry.1)

pub returns-clause-left : goal.returns-clause-left
returns-clause-left g c =
    let values = c.self.inside.values.items in
    let keys = c.self.inside.keys.items in
    let key = key_read keys c.args.number c.index-key.result.now _ (omega (arith, c.if-number-len.false, c.len.ensures, c.self.inside.keys.ok.0)) c.index-key.ensures in
    let count : c.len-count.result ≡ length values = omega (arith, c.len-count.ensures, c.self.inside.values.ok.0) in
    let low : key_at keys c.args.number < length values = omega (arith, key, count, c.if-key-count.false) in
    let full = low_key values (key_at keys) c.self.invariant.keyed c.args.number low in
    let last = last_is values c.len-count.result c.index.result.now count (omega (arith, low)) c.index.ensures in
    let fewer = left_length values keys c.self.invariant.keyed c.args.number full c.index.result.now c.swap_remove-taken.result last in
    let cells = taken_cells values keys c.self.invariant.keyed c.args.number full c.index.result.now c.swap_remove-taken.result last in
    rw (← c.self.view_is)
    (same_view
    (rw (c.swap_remove-taken.ensures.items, sym key) cells)
    refl
    (omega (arith, c.swap_remove-taken.ensures.capacity, c.swap_remove-taken.ensures.len, c.self.inside.values.ok.0, c.swap_remove-taken.new.self.ok.0)))
