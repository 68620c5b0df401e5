use Rattle.std.proofs.Common.{◌≡◌, ◌-◌, arith, get_or, length, refl, ap, sym, ◌∙◌, vec_capacity}
use Rattle.std.specs.List.{remove}
use Rattle.std.proofs.lemmas.Option.{same_Some, slice_get_read}
use Rattle.linked_classes.specs.declared.numbers.Block.{Block}
use Rattle.linked_classes.proofs.numbers.take_from.Goals as goal

pub returns : goal.returns
returns c b is =
    let bs = c.args.blocks.now.items in
    let k = c.args.here in
    let at = c.args.at in
    let told = c.index.result.now in
    let o = c.index_mut.result.now in
    let result = c.remove.result in
    let same : o ≡ b = same_Some o b (sym (slice_get_read bs (length bs) k o refl c.requires.there c.index_mut.ensures.value) ∙ is) in
    let first : told ≡ b = same_Some told b (sym (slice_get_read bs (length bs) k told refl c.requires.there c.index.ensures) ∙ is) in
    let e = ap (λ (d : Block). at - d.start) first in
    let range = c.requires.within b is in
    let low = range.0 in
    let high = range.1 in
    let value = c.remove.ensures.value ∙ ap (λ (d : Block). get_or d.numbers.items (at - told.start) result) same ∙ ap (λ n. get_or b.numbers.items n result) e in
    record {
      left = record { start = o.start; numbers = c.remove.new.self };
      changed = refl;
      start = ap (λ (d : Block). d.start) same;
      items = c.remove.ensures.items ∙ ap (remove o.numbers.items) e ∙ ap (λ (d : Block). remove d.numbers.items (at - b.start)) same;
      capacity = c.remove.ensures.capacity ∙ ap (λ (d : Block). vec_capacity d.numbers) same;
      gives = slice_get_read b.numbers.items (length b.numbers.items) (at - b.start) result refl (omega (arith, low, high)) value;
    }
