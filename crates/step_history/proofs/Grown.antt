-- A history with one more step.
use Rattle.std.proofs.Common.{◌≡◌, List, [], ◌∷◌, ◌++◌, refl, ap, ap₂, sym, subst, ◌∙◌, Option, Some, None}
use Rattle.std.specs.Prelude.{option_map}
use Rattle.item_store.specs.Store.{Store, stored_items}
use Rattle.item_store.specs.Table.{Table}
use Rattle.step_names.specs.Thread.{Thread}
use Rattle.saved_steps.specs.Effects.{Effect, effect_of}
use Rattle.saved_steps.specs.Held.{frames_of, world_view, store_of}
use Rattle.saved_steps.specs.declared.world.World.{World}
use Rattle.asl_frames.specs.declared.frame.Frame.{Frame}
use Rattle.std.proofs.Math.Path.{fun_ext}
use Rattle.saved_steps.specs.Saving.{kept}
use Rattle.saved_steps.specs.Made.{IsMadeFor, KeepsStore}
use Rattle.saved_steps.specs.Run.{after_effect, take_step}
use Rattle.saved_steps.specs.Steps.{Step}
use Rattle.saved_steps.specs.Undoing.{IsApplied}
use Rattle.saved_steps.specs.World as model
use Rattle.saved_steps.specs.World.{Setting}
use Rattle.saved_steps.specs.declared.made.Made.{Made}
use Rattle.saved_steps.specs.declared.record.StepRecord.{StepRecord}
use Rattle.trace_theory.specs.Traces.{IsRun}
use Rattle.trace_theory.proofs.Runs.{run_more}
use Rattle.depends.specs.Instance.{steps}
use Rattle.depends.proofs.Reversible.{from_none}
use Rattle.step_history.specs.History.{TakenStep, IsRecordOf, AreRecordsOf, IsHistory, nothing_over, taken_in}
use Rattle.step_history.specs.declared.history.History.{History}
use Rattle.step_history.proofs.Left.{records_kept}

pub same_seen : (w v : World) → ((t : Thread) → frames_of v t ≡ frames_of w t) → stored_items v.items ≡ stored_items w.items → world_view v ≡ world_view w
same_seen w v frames items = ap₂ (λ (a : Thread → Option Frame) (b : Table). let x : model.World = record { frames = a; items = b } in x) (fun_ext frames) items

-- the same world over a store that keeps all slots
pub same_history : (s : Setting) (base : model.World) (ts : List TakenStep) (h g : History) → world_view g.world ≡ world_view h.world → KeepsStore (store_of h.world) (store_of g.world) → g.records.items ≡ h.records.items → IsHistory s base ts h → IsHistory s base ts g
same_history s base ts h g world store records is = record {
  table = is.table ∙ sym store.table;
  schema = is.schema ∙ sym store.schema;
  from = is.from;
  runs = subst (λ (x : model.World). IsRun (steps s) base ts x) (sym world) is.runs;
  records = subst (λ (l : List StepRecord). AreRecordsOf (store_of g.world) l ts) (sym records) (records_kept (store_of h.world) (store_of g.world) h.records.items ts store is.records);
}

one_more : (items : Store) (rs : List StepRecord) (ts : List TakenStep) (r : StepRecord) (t : TakenStep) → AreRecordsOf items rs ts → IsRecordOf items r t → AreRecordsOf items (rs ++ r ∷ []) (ts ++ t ∷ [])
one_more items [] [] r t h is = (is, tt)
one_more items [] (u ∷ ts) r t h is = absurd h
one_more items (q ∷ rs) [] r t h is = absurd h
one_more items (q ∷ rs) (u ∷ ts) r t h is = (h.0, one_more items rs ts r t h.1 is)

pub grown : (s : Setting) (base : model.World) (ts : List TakenStep) (step : Step) (d : Effect) (h g : History) (m : Made) (r : StepRecord) → IsHistory s base ts h → effect_of s (world_view h.world) step ≡ Some d → IsMadeFor m d
    → IsApplied h.world m g.world r → g.records.items ≡ h.records.items ++ r ∷ [] → IsHistory s base (ts ++ taken_in (world_view h.world) step d.fact ∷ []) g
grown s base ts step d h g m r is does made applied records =
    let t = taken_in (world_view h.world) step d.fact in
    let world : after_effect (world_view h.world) d ≡ world_view g.world = sym (applied.world d made) in
    let takes : take_step s (world_view h.world) step ≡ Some (world_view g.world, d.fact) =
    ap (option_map (λ (e : Effect). (after_effect (world_view h.world) e, e.fact))) does ∙ ap (λ (x : model.World). Some (x, d.fact)) world in
    let fact : r.fact ≡ d.fact = applied.fact ∙ made.fact in
    let own : IsRecordOf (store_of g.world) r t = record {
      fact = fact;
      kept = applied.saved ∙ ap (kept (world_view h.world)) fact;
      fits = applied.undoable.record_fits;
      slot = applied.undoable.slot;
    } in
    record {
      table = is.table ∙ sym applied.store.table;
      schema = is.schema ∙ sym applied.store.schema;
      from = is.from;
      runs = run_more (steps s) base (world_view h.world) (world_view g.world) ts t is.runs (takes, refl);
      records = subst (λ (l : List StepRecord). AreRecordsOf (store_of g.world) l (ts ++ t ∷ [])) (sym records)
          (one_more (store_of g.world) h.records.items ts r t (records_kept (store_of h.world) (store_of g.world) h.records.items ts applied.store is.records) own);
    }

-- where no step was taken
pub empty_history : (s : Setting) (items : Store) (h : History) → ((t : Thread) → frames_of h.world t ≡ None) → (store_of h.world) ≡ items → h.records.items ≡ [] → s.table ≡ items.table → s.schema ≡ items.schema → IsHistory s (nothing_over items) [] h
empty_history s items h frames store none table schema = record {
  table = table ∙ ap (λ (x : Store). x.table) (sym store);
  schema = schema ∙ ap (λ (x : Store). x.schema) (sym store);
  from = from_none s (nothing_over items) (λ t. refl);
  runs =
      ap (λ (x : model.World). let y : Option (model.World × List TakenStep) = Some (x, []) in y)
      (ap₂ (λ (a : Thread → Option Frame) (b : Table). let x : model.World = record { frames = a; items = b } in x) (fun_ext (λ t. sym (frames t))) (ap stored_items (sym store)));
  records = subst (λ (l : List StepRecord). AreRecordsOf (store_of h.world) l []) (sym none) tt;
}
