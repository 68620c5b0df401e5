use Rattle.std.proofs.Common.{◌≡◌, ◌++◌, ◌∷◌, [], ◌+◌, List, arith, append_assoc, length, map, ap, subst, sym, ◌∙◌}
use Rattle.std.proofs.lemmas.List.{append-nil}
use Rattle.saved_steps.specs.declared.record.StepRecord.{StepRecord}
use Rattle.step_history.specs.SettledNames.{HasRoomFor}
use Rattle.step_names.specs.declared.step.StepName.{StepName}
use Rattle.step_history.proofs.Settled.{none_left, room_for_one, some_left}
use Rattle.step_history.proofs.settling.push_names.Goals as goal

pub take_first-requires : goal.take_first-requires
take_first-requires c = some_left c.loop-names.left.items (sym c.is_empty.ensures ∙ c.loop-names-test.true)

pub push-requires : goal.push-requires
push-requires c = room_for_one c.loop-names.names _ (some_left c.loop-names.left.items (sym c.is_empty.ensures ∙ c.loop-names-test.true)) c.loop-names.invariant.1

pub loop-names-preserved : goal.loop-names-preserved
loop-names-preserved c =
    let names = c.loop-names.names in
    let next = c.take_first.result in
    let rest = c.take_first.new.self.items in
    let told : List StepRecord → List StepName = map (λ (r : StepRecord). r.fact.name) in
    let one : c.loop-names.left.items ≡ next ∷ rest = c.take_first.ensures in
    let many = ap length one in
    let count : length c.loop-names.left.items ≡ length rest + 1 = omega (arith, many) in (
      ap (λ (l : List StepName). l ++ told rest) (c.push.ensures.items ∙ ap (λ (n : StepName). names.items ++ n ∷ []) c.name_of.ensures) ∙ append_assoc names.items (next.fact.name ∷ []) (told rest)
          ∙ ap (λ (l : List StepRecord). names.items ++ told l) (sym one) ∙ c.loop-names.invariant.0,
      c.push.ensures.room (length rest) (subst (HasRoomFor names) count c.loop-names.invariant.1),
    )

pub loop-names-smaller : goal.loop-names-smaller
loop-names-smaller c = let many = ap length c.take_first.ensures in omega (arith, many)

pub returns : goal.returns
returns c =
    let names = c.loop-names.names.items in
    let none = none_left c.loop-names.left.items (sym c.is_empty.ensures ∙ c.loop-names-test.false) in
    sym (append-nil names) ∙ ap (λ (l : List StepRecord). names ++ map (λ (r : StepRecord). r.fact.name) l) (sym none) ∙ c.loop-names.invariant.0
