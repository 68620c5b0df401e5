use Rattle.std.proofs.Common.{◌≡◌, ◌<◌, arith, length, map, ap, sym, ◌∙◌, List, Bool}
use Rattle.std.specs.List.{remove}
use Rattle.linked_classes.specs.Sets.{set_of}
use Rattle.step_index.specs.Held.{count_left, is_mark}
use Rattle.step_index.proofs.Left.{left_removed, marks_removed}
use Rattle.step_index.proofs.held.HeldSteps.remove.Goals as goal

pub invariant_of-self : goal.invariant_of-self
invariant_of-self c =
    let v = c.self.inside.places in
    let counted : c.count_without-count.result ≡ count_left (remove v.items c.args.at) = rw (← c.self.view_is) at c.count_without-count.ensures in
    record {
      counted = counted ∙ ap count_left (sym c.remove.ensures.items);
      left = ap (map is_mark) (c.remove.ensures.sets 0 (omega arith)) ∙ marks_removed (set_of v 0) c.args.at ∙ ap (λ (l : List Bool). remove l c.args.at) c.self.invariant.left ∙ sym c.remove.ensures.items;
    }

pub returns-clause-left : goal.returns-clause-left
returns-clause-left c =
    let ms = c.self.inside.places.items in
    let marked : c.args.at < length ms = rw (← c.self.view_is) at c.requires in
    rw (← c.self.view_is)
    (λ rs h. left_removed rs c.args.at marked h c.remove.ensures.items (c.remove.ensures.sets 1 (omega arith)) (c.remove.ensures.sets 2 (omega arith)) (c.remove.ensures.sets 4 (omega arith)) (c.remove.ensures.sets 5 (omega arith)))
