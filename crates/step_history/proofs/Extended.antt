-- A history where more machines are known; and what the laws of taking steps back say of one.
use Rattle.std.proofs.Common.{◌≡◌, List, [], ◌∷◌, ◌++◌, ap, sym, subst, ◌∙◌}
use Rattle.saved_steps.specs.Held.{world_view}
use Rattle.trace_theory.specs.Traces.{IsRun, IsMaximal, without}
use Rattle.trace_theory.proofs.Commuting.{free_steps_undo}
use Rattle.trace_theory.proofs.Least.{without_one}
use Rattle.trace_theory.proofs.Lists.{place}
use Rattle.trace_theory.proofs.Orders.{unneeded_behind, undo_allowed, orders_hold_after}
use Rattle.trace_theory.proofs.Runs.{from_run, to_run}
use Rattle.depends.specs.Instance.{steps}
use Rattle.depends.proofs.Reversible.{steps_are_reversible}
use Rattle.depends.proofs.Named.{steps_have_names}
use Rattle.step_history.specs.History.{TakenStep}
use Rattle.step_history.specs.Laws.{MoreMachinesKeepHistories, BackwardOrdersUndo, MaximalStepsReturn}
use Rattle.depends.proofs.Extended.{runs_more}

pub more_machines : MoreMachinesKeepHistories
more_machines s more base ts h e is = record {
  table = e.table ∙ is.table;
  schema = e.schema ∙ is.schema;
  from = (is.from.0, is.from.1, (is.from.2.0, to_run (steps more) is.from.2.0 is.from.0 base (runs_more s more e is.from.2.0 is.from.0 base (from_run (steps s) is.from.2.0 is.from.0 base is.from.2.1))));
  runs = to_run (steps more) ts base (world_view h.world) (runs_more s more e ts base (world_view h.world) (from_run (steps s) ts base (world_view h.world) is.runs));
  records = is.records;
}

pub orders_undo : BackwardOrdersUndo
orders_undo s base ts xs h is allowed =
    let names = steps_have_names s base is.from in (
      undo_allowed (steps s) base names (steps_are_reversible s base is.from) (world_view h.world) ts xs is.runs allowed,
      λ x y i j. orders_hold_after (steps s) base names (world_view h.world) ts xs x y is.runs allowed i j,
    )

pub free_return : MaximalStepsReturn
free_return s base ts t h is free =
    let names = steps_have_names s base is.from in
    let p = place t ts free.0 in
    let run = subst (λ (l : List TakenStep). IsRun (steps s) base l (world_view h.world)) p.whole is.runs in
    let behind = unneeded_behind (steps s) base names p.front p.back t (subst (λ (l : List TakenStep). IsMaximal (steps s) l t) p.whole free) in
    let u = free_steps_undo (steps s) base (steps_are_reversible s base is.from) (world_view h.world) p.front p.back t run behind in
    let rest : p.front ++ p.back ≡ without (steps s) (t ∷ []) ts =
    sym (without_one (steps s) base names p.front p.back t (λ x y i. names.once (p.front ++ t ∷ p.back) (world_view h.world) x y run i)) ∙ ap (without (steps s) (t ∷ [])) (sym p.whole) in
    (u.1, subst (λ (l : List TakenStep). IsRun (steps s) base (l ++ t ∷ []) (world_view h.world)) rest u.2)
