-- A history whose steps are settled: its world is the base of the steps to come.
use Rattle.std.proofs.Common.{◌≡◌, ◌==◌, ◌<◌, arith, ℕ, true, false, List, [], ◌∷◌, length, ap, refl, sym, subst, ◌∙◌, Some}
use Rattle.std.proofs.lemmas.Bool.{eqb-true}
use Rattle.trace_theory.proofs.Runs.{from_run, reached_by}
use Rattle.saved_steps.specs.Held.{world_view, store_of}
use Rattle.saved_steps.specs.World.{Setting, World}
use Rattle.saved_steps.specs.declared.record.StepRecord.{StepRecord}
use Rattle.saved_steps.specs.declared.world.World.{World as Held}
use Rattle.step_history.specs.SettledNames.{HasRoomFor, SettledNamesView}
use Rattle.depends.specs.Instance.{steps}
use Rattle.step_history.specs.History.{TakenStep, IsHistory, AreRecordsOf}
use Rattle.step_history.specs.declared.history.History.{History}

pub settled_history : (s : Setting) (base : World) (ts : List TakenStep) (h g : History) → IsHistory s base ts h → g.world ≡ h.world → g.records.items ≡ [] → IsHistory s (world_view h.world) [] g
settled_history s base ts h g is world none = record {
  table = is.table ∙ ap (λ (w : Held). w.items.table) (sym world);
  schema = is.schema ∙ ap (λ (w : Held). w.items.schema) (sym world);
  from = (is.from.0, is.from.1, reached_by (steps s) is.from.0 base (world_view h.world) ts is.from.2 (from_run (steps s) ts base (world_view h.world) is.runs));
  runs = ap (λ (w : Held). Some (world_view w, [])) (sym world);
  records = subst (λ (rs : List StepRecord). AreRecordsOf (store_of g.world) rs []) (sym none) tt;
}

pub some_left : (rs : List StepRecord) → (length rs == 0) ≡ false → 0 < length rs
some_left [] e = absurd (cc)
some_left (r ∷ rs) e = omega arith

pub none_left : (rs : List StepRecord) → (length rs == 0) ≡ true → rs ≡ []
none_left [] e = refl
none_left (r ∷ rs) e = let none = eqb-true (length (r ∷ rs)) 0 e in absurd (omega (arith, none))

pub room_for_one : (v : SettledNamesView) (more : ℕ) → 0 < more → HasRoomFor v more → HasRoomFor v 1
room_for_one v more some h =
    let listed = h.listed in
    let numbered = h.numbered in
    let linked = h.linked in
    let few = h.few in
    record {
      listed = omega (arith, listed, some);
      numbered = omega (arith, numbered, some);
      linked = omega (arith, linked, some);
      classed = h.classed;
      few = omega (arith, few, some);
    }
