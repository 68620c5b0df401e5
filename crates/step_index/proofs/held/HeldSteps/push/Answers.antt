use Rattle.std.proofs.Common.{[], ◌∷◌, ◌++◌, List, Bool, false, None, map, arith, refl, ap, ◌∙◌, sym}
use Rattle.std.proofs.lemmas.List.{map-append}
use Rattle.linked_classes.specs.Sets.{set_of}
use Rattle.step_index.specs.Held.{count_left, is_mark}
use Rattle.step_index.proofs.Left.{count_unmarked, left_pushed}
use Rattle.step_index.proofs.held.HeldSteps.push.Goals as goal

pub invariant_of-self : goal.invariant_of-self
invariant_of-self c =
    let v = c.self.inside.places in
    let items = c.push.ensures.items in
    record {
      counted = c.self.invariant.counted ∙ sym (ap count_left items ∙ count_unmarked v.items);
      left = ap (map is_mark) (c.push.ensures.sets 0 (omega arith)) ∙ map-append is_mark (set_of v 0) (None ∷ []) ∙ ap (λ (l : List Bool). l ++ false ∷ []) c.self.invariant.left ∙ sym items;
    }

pub returns-clause-left : goal.returns-clause-left
returns-clause-left c =
    rw (← c.self.view_is)
    (λ rs r h. left_pushed rs r false None None None None h c.push.ensures.items (c.push.ensures.sets 1 (omega arith)) refl (c.push.ensures.sets 2 (omega arith)) refl (c.push.ensures.sets 4 (omega arith)) refl (c.push.ensures.sets 5 (omega arith)) refl)
