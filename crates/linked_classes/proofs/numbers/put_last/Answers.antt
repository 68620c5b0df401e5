use Rattle.std.proofs.Common.{◌<◌, ◌-◌, arith, length, refl}
use Rattle.std.proofs.lemmas.Option.{slice_get_read}
use Rattle.linked_classes.proofs.Blocks.{more_blocks, more_in_last}
use Rattle.linked_classes.proofs.numbers.put_last.Goals as goal

pub returns-clause-blocks : goal.returns-clause-blocks
returns-clause-blocks c =
    let bs = c.args.blocks.now.items in
    let last = c.len-last.result - 1 in
    let b = c.index_mut.result.now in
    let len = c.len-last.ensures in
    let ok = c.args.blocks.now.ok.0 in
    let room = c.requires.room in
    let w : last < length bs = omega (arith, len, ok, room) in
    let is = slice_get_read bs (length bs) last b refl w c.index_mut.ensures.value in
    more_blocks bs c.args.number c.requires.blocks c.requires.small last b (record { start = b.start; numbers = c.push_reserved.new.self }) is (omega (arith, len, ok, w)) room refl c.push_reserved.ensures.items c.push_reserved.ensures.capacity

pub returns-clause-joined : goal.returns-clause-joined
returns-clause-joined c =
    let bs = c.args.blocks.now.items in
    let last = c.len-last.result - 1 in
    let b = c.index_mut.result.now in
    let len = c.len-last.ensures in
    let ok = c.args.blocks.now.ok.0 in
    let room = c.requires.room in
    let w : last < length bs = omega (arith, len, ok, room) in
    let is = slice_get_read bs (length bs) last b refl w c.index_mut.ensures.value in
    more_in_last 0 bs last c.args.number b (record { start = b.start; numbers = c.push_reserved.new.self }) is (omega (arith, len, ok, w)) c.push_reserved.ensures.items
