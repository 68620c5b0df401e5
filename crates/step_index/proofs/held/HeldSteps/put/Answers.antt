use Rattle.std.proofs.Common.{◌≡◌, ◌<◌, ◌++◌, arith, length, [], ◌∷◌, List, Bool, Option, ℕ, true, None, Some, map, ap, ap₂, sym, ◌∙◌}
use Rattle.std.proofs.lemmas.List.{map-append}
use Rattle.linked_classes.specs.Cells.{cell_at}
use Rattle.linked_classes.specs.Sets.{set_of}
use Rattle.step_index.specs.Buckets.{by_home, by_exec, by_key, by_write, exec_bucket}
use Rattle.step_index.specs.Held.{count_left, is_mark}
use Rattle.step_index.proofs.Left.{count_pushed, count_within, left_pushed}
use Rattle.step_index.proofs.held.HeldSteps.put.Goals as goal

pub overflow_add-self : goal.overflow_add-self
overflow_add-self c =
    let ms = c.self.inside.places.items in
    let few : length ms < 18446744073709551615 = rw (← c.self.view_is) at c.requires.few in
    let most = count_within ms in
    let counted = c.self.invariant.counted in
    omega (arith, few, most, counted)

pub invariant_of-self : goal.invariant_of-self
invariant_of-self c =
    let v = c.self.inside.places in
    let items = c.push.ensures.items in
    let counted = c.self.invariant.counted in
    let more = ap count_left items ∙ count_pushed v.items in
    record {
      counted = omega (arith, counted, more);
      left = ap (map is_mark) (c.push.ensures.sets 0 (omega arith)) ∙ map-append is_mark (set_of v 0) (cell_at c.left_classes-classes.result 0 ∷ [])
          ∙ ap₂ (λ (l : List Bool) (b : Bool). l ++ b ∷ []) c.self.invariant.left (ap (λ l. is_mark (cell_at l 0)) c.left_classes-classes.ensures.classes) ∙ sym items;
    }

pub returns-clause-left : goal.returns-clause-left
returns-clause-left c =
    let cs = c.left_classes-classes.result in
    let told = c.left_classes-classes.ensures.classes in
    rw (← c.self.view_is)
    (λ rs r e h.
    left_pushed rs r true (cell_at cs 1) (cell_at cs 2) (cell_at cs 4) (cell_at cs 5) h c.push.ensures.items
    (c.push.ensures.sets 1 (omega arith)) (ap (λ l. cell_at l 1) told ∙ ap by_home (sym e))
    (c.push.ensures.sets 2 (omega arith)) (ap (λ l. cell_at l 2) told ∙ ap by_exec (sym e))
    (c.push.ensures.sets 4 (omega arith)) (ap (λ l. cell_at l 4) told ∙ ap by_key (sym e))
    (c.push.ensures.sets 5 (omega arith)) (ap (λ l. cell_at l 5) told ∙ ap by_write (sym e)))
