-- Where a step stands as it left its thread, its record can be undone; and what is left then.
use Rattle.std.proofs.Common.{◌≡◌, ◌<◌, arith, ℕ, true, false, List, [], ◌∷◌, ◌++◌, length, zero, suc, refl, ap, ap₂, sym, subst, ◌∙◌, Option, None, Some}
use Rattle.std.specs.Prelude.{IsSomeAnd, slice_get}
use Rattle.std.specs.List.{remove}
use Rattle.std.proofs.lemmas.Option.{same_Some}
use Rattle.asl_frames.specs.declared.frame.Frame.{Frame}
use Rattle.asl_frames.specs.declared.frame.Phase.{Phase}
use Rattle.asl_frames.specs.declared.frame.Phase.TheVariants.{Ready, Parked, Done, Failed}
use Rattle.saved_steps.specs.FlatMap.{is_parked}
use Rattle.item_store.specs.Store.{Store}
use Rattle.step_names.specs.Thread.{Thread}
use Rattle.step_names.proofs.OrderLaws.{thread_itself}
use Rattle.saved_steps.specs.Held.{frames_of, world_view, store_of}
use Rattle.saved_steps.specs.Saving.{SavedState, undo}
use Rattle.saved_steps.specs.Made.{is_unparked, KeepsStore}
use Rattle.saved_steps.specs.Run.{after_effect}
use Rattle.saved_steps.specs.Steps.{is_fork, is_close}
use Rattle.saved_steps.specs.Undoing.{IsSavedOf, HasSlot, StandsAfter, CanUndo, IsUndone}
use Rattle.saved_steps.specs.World as model
use Rattle.saved_steps.specs.World.{Setting}
use Rattle.saved_steps.specs.declared.fact.Fact.{Fact}
use Rattle.saved_steps.specs.declared.fact.Kind.{Kind}
use Rattle.saved_steps.specs.declared.fact.Kind.TheVariants as kind
use Rattle.saved_steps.specs.declared.record.Saved.{Saved}
use Rattle.saved_steps.specs.declared.record.Saved.TheVariants.{Started, Framed, Called, Forked, Closed}
use Rattle.saved_steps.specs.declared.record.StepRecord.{StepRecord}
use Rattle.saved_steps.specs.declared.world.World.{World}
use Rattle.trace_theory.specs.Traces.{IsRun, IsMaximal, Takes, undone, without}
use Rattle.trace_theory.proofs.Commuting.{free_steps_undo}
use Rattle.trace_theory.proofs.Least.{without_one}
use Rattle.trace_theory.proofs.Orders.{unneeded_behind}
use Rattle.depends.specs.Instance.{steps}
use Rattle.depends.specs.Laws.{IsFrom, facts_of}
use Rattle.depends.specs.Plans.{first_dependent}
use Rattle.depends.proofs.Consequences.{free_steps_have_no_dependent}
use Rattle.depends.proofs.Reversible.{steps_are_reversible}
use Rattle.depends.proofs.Named.{steps_have_names}
use Rattle.depends.proofs.Planned.{planned}
use Rattle.depends.proofs.Searching.{facts}
use Rattle.depends.proofs.Turned as turned
use Rattle.depends.proofs.Worlds.{effect_taken, frame_own}
use Rattle.step_history.specs.History.{TakenStep, IsRecordOf, AreRecordsOf, IsHistory}
use Rattle.step_history.specs.declared.history.History.{History}
use Rattle.step_history.proofs.Open.{leaves_open}

-- ---- how a step leaves its thread

parked_alike : (p : Phase) → turned.is_parked p ≡ is_parked p
parked_alike Ready = refl
parked_alike (Parked n bound) = refl
parked_alike (Done output) = refl
parked_alike (Failed fault) = refl

-- the thread of a step has a frame of the step's number, that is parked where the step is a fork, and else isn't
record Left (frames : Thread → Option Frame) (s : Fact) : Type 0 where
  frame : Frame
  stands : frames s.name.thread ≡ Some frame
  count : frame.count ≡ s.name.no
  parks : is_fork s.kind ≡ true → is_parked frame.phase ≡ true
  goes_on : is_fork s.kind ≡ false → is_unparked frame

left_by : (s : Setting) (w v : model.World) (t : TakenStep) → Takes (steps s) w t v → Left v.frames t.fact
left_by s w v t h =
    let k = effect_taken s w v t.step t.fact h.0 in
    let p = (planned s w t.step k.0 k.1).1 in
    let own : (after_effect w k.0).frames k.0.fact.name.thread ≡ Some k.0.frame = frame_own w k.0 k.0.fact.name.thread (thread_itself k.0.fact.name.thread) in
    let here : Left (after_effect w k.0).frames k.0.fact = record {
      frame = k.0.frame;
      stands = own;
      count = p.count;
      parks = λ j. sym (parked_alike k.0.frame.phase) ∙ p.parks j;
      goes_on = leaves_open s w t.step k.0 k.1;
    } in
    subst (λ (x : Fact). Left v.frames x) k.3 (subst (λ (x : model.World). Left x.frames k.0.fact) k.2 here)

close_is_no_fork : (k : Kind) → is_close k ≡ true → is_fork k ≡ false
close_is_no_fork kind.Start h = refl
close_is_no_fork kind.Plain h = refl
close_is_no_fork kind.Call h = refl
close_is_no_fork kind.Fork h = cc
close_is_no_fork kind.Join h = refl
close_is_no_fork kind.Terminate h = refl

stands_open : (w : World) (s : Fact) → Left (frames_of w) s → is_fork s.kind ≡ false → IsSomeAnd (frames_of w s.name.thread) is_unparked
stands_open w s l h = subst (λ (o : Option Frame). IsSomeAnd o is_unparked) (sym l.stands) (l.goes_on h)

stands_after : (w : World) (s : Fact) (x : Saved) → IsSavedOf s x → Left (frames_of w) s → StandsAfter w s x
stands_after w s Started fits l = stands_open w s l (ap is_fork fits.0)
stands_after w s (Framed f) fits l = stands_open w s l (ap is_fork fits.0)
stands_after w s (Called f slot old) fits l = stands_open w s l (ap is_fork fits.0)
stands_after w s (Forked f) fits l = subst (λ (o : Option Frame). IsSomeAnd o (λ g. (is_parked g.phase ≡ true) × (g.count ≡ s.name.no))) (sym l.stands) (l.parks (ap is_fork fits.0), l.count)
stands_after w s (Closed f kids) fits l = stands_open w s l (close_is_no_fork s.kind fits.0)

-- ---- a step that is free

-- a step on which no later one depends was the last to touch its thread
left_free : (s : Setting) (base v : model.World) (front back : List TakenStep) (t : TakenStep) → IsFrom s base → IsRun (steps s) base (front ++ t ∷ back) v → IsMaximal (steps s) (front ++ t ∷ back) t → Left v.frames t.fact
left_free s base v front back t from runs free =
    let behind = unneeded_behind (steps s) base (steps_have_names s base from) front back t free in
    left_by s (undone (steps s) v t) v t (free_steps_undo (steps s) base (steps_are_reversible s base from) v front back t runs behind).1

pub can_undo : (s : Setting) (base : model.World) (front back : List TakenStep) (t : TakenStep) (w : World) (r : StepRecord) → IsFrom s base → IsRun (steps s) base (front ++ t ∷ back) (world_view w) → IsMaximal (steps s) (front ++ t ∷ back) t
    → IsRecordOf w.items r t → CanUndo w r
can_undo s base front back t w r from runs free is = record {
  record_fits = is.fits;
  slot = is.slot;
  thread = stands_after w r.fact r.saved is.fits (subst (λ (x : Fact). Left (frames_of w) x) (sym is.fact) (left_free s base (world_view w) front back t from runs free));
}

-- ---- records

slot_kept : (a b : Store) (s : Fact) (x : Saved) → KeepsStore a b → HasSlot a s x → HasSlot b s x
slot_kept a b s Started k h = tt
slot_kept a b s (Framed f) k h = tt
slot_kept a b s (Called f slot old) k h = (h.0, h.1, k.slots slot h.0.key h.2)
slot_kept a b s (Forked f) k h = tt
slot_kept a b s (Closed f kids) k h = tt

pub records_kept : (a b : Store) (rs : List StepRecord) (ts : List TakenStep) → KeepsStore a b → AreRecordsOf a rs ts → AreRecordsOf b rs ts
records_kept a b [] [] k h = tt
records_kept a b [] (t ∷ ts) k h = absurd h
records_kept a b (r ∷ rs) [] k h = absurd h
records_kept a b (r ∷ rs) (t ∷ ts) k h = (record { fact = h.0.fact; kept = h.0.kept; fits = h.0.fits; slot = slot_kept a b r.fact r.saved k h.0.slot }, records_kept a b rs ts k h.1)

-- a step and its record, at a place
pub record Both (items : Store) (rs : List StepRecord) (ts : List TakenStep) (n : ℕ) (t : TakenStep) : Type 0 where
  pub before : List StepRecord
  pub record_there : StepRecord
  pub behind : List StepRecord
  pub front : List TakenStep
  pub back : List TakenStep
  pub records : before ++ record_there ∷ behind ≡ rs
  pub steps : front ++ t ∷ back ≡ ts
  pub record_place : length before ≡ n
  pub step_place : length front ≡ n
  pub is : IsRecordOf items record_there t
  pub others : AreRecordsOf items (before ++ behind) (front ++ back)

pub both : (items : Store) (rs : List StepRecord) (ts : List TakenStep) (n : ℕ) (t : TakenStep) → AreRecordsOf items rs ts → slice_get ts n ≡ Some t → Both items rs ts n t
both items [] [] n t h k = cc
both items [] (u ∷ ts) n t h k = absurd h
both items (r ∷ rs) [] n t h k = absurd h
both items (r ∷ rs) (u ∷ ts) zero t h k = record {
  before = [];
  record_there = r;
  behind = rs;
  front = [];
  back = ts;
  records = refl;
  steps = ap (λ (x : TakenStep). x ∷ ts) (sym (same_Some u t k));
  record_place = refl;
  step_place = refl;
  is = subst (λ (x : TakenStep). IsRecordOf items r x) (same_Some u t k) h.0;
  others = h.1;
}
both items (r ∷ rs) (u ∷ ts) (suc n) t h k =
    let b = both items rs ts n t h.1 k in
    record {
      before = r ∷ b.before;
      record_there = b.record_there;
      behind = b.behind;
      front = u ∷ b.front;
      back = b.back;
      records = ap (λ (l : List StepRecord). r ∷ l) b.records;
      steps = ap (λ (l : List TakenStep). u ∷ l) b.steps;
      record_place = ap suc b.record_place;
      step_place = ap suc b.step_place;
      is = b.is;
      others = (h.0, b.others);
    }

module _ {A : Type 0} where
  removed : (front back : List A) (x : A) → remove (front ++ x ∷ back) (length front) ≡ front ++ back
  removed [] back x = refl
  removed (y ∷ front) back x = ap (λ (l : List A). y ∷ l) (removed front back x)

  pub there : (front back : List A) (x : A) → slice_get (front ++ x ∷ back) (length front) ≡ Some x
  there [] back x = refl
  there (y ∷ front) back x = there front back x

  pub removed_at : (xs front back : List A) (x : A) (n : ℕ) → front ++ x ∷ back ≡ xs → length front ≡ n → remove xs n ≡ front ++ back
  removed_at xs front back x n e k = subst (λ (l : List A). remove l n ≡ front ++ back) e (subst (λ (m : ℕ). remove (front ++ x ∷ back) m ≡ front ++ back) k (removed front back x))

  pub there_at : (xs front back : List A) (x : A) (n : ℕ) → front ++ x ∷ back ≡ xs → length front ≡ n → slice_get xs n ≡ Some x
  there_at xs front back x n e k = subst (λ (l : List A). slice_get l n ≡ Some x) e (subst (λ (m : ℕ). slice_get (front ++ x ∷ back) m ≡ Some x) k (there front back x))

pub facts_alike : (items : Store) (rs : List StepRecord) (ts : List TakenStep) → AreRecordsOf items rs ts → facts rs ≡ facts_of ts
facts_alike items [] [] h = refl
facts_alike items [] (t ∷ ts) h = absurd h
facts_alike items (r ∷ rs) [] h = absurd h
facts_alike items (r ∷ rs) (t ∷ ts) h = ap₂ (λ (f : Fact) (l : List Fact). f ∷ l) h.0.fact (facts_alike items rs ts h.1)

pub as_many : (items : Store) (rs : List StepRecord) (ts : List TakenStep) → AreRecordsOf items rs ts → length rs ≡ length ts
as_many items [] [] h = refl
as_many items [] (t ∷ ts) h = absurd h
as_many items (r ∷ rs) [] h = absurd h
as_many items (r ∷ rs) (t ∷ ts) h = ap suc (as_many items rs ts h.1)

pub step_there : (ts : List TakenStep) (n : ℕ) → n < length ts → (t : TakenStep) × (slice_get ts n ≡ Some t)
step_there [] n h = absurd (omega (arith, h))
step_there (t ∷ ts) zero h = (t, refl)
step_there (t ∷ ts) (suc n) h = step_there ts n (omega (arith, h))

-- ---- histories

module _ (s : Setting) (base : model.World) (ts : List TakenStep) (n : ℕ) (t : TakenStep) (h : History) (is : IsHistory s base ts h) (here : slice_get ts n ≡ Some t) where
  pub free_by : first_dependent (facts h.records.items) n ≡ None → IsMaximal (steps s) ts t
  free_by k = (free_steps_have_no_dependent s base (world_view h.world) ts n t is.from is.runs here).0 (subst (λ (l : List Fact). first_dependent l n ≡ None) (facts_alike (store_of h.world) h.records.items ts is.records) k)

  pub no_dependent : IsMaximal (steps s) ts t → first_dependent (facts h.records.items) n ≡ None
  no_dependent free = subst (λ (l : List Fact). first_dependent l n ≡ None) (sym (facts_alike (store_of h.world) h.records.items ts is.records)) ((free_steps_have_no_dependent s base (world_view h.world) ts n t is.from is.runs here).1 free)

  -- the record at the step's place can be undone where the step is free
  pub can_undo_at : (r : StepRecord) → slice_get h.records.items n ≡ Some r → IsMaximal (steps s) ts t → CanUndo h.world r
  can_undo_at r at free =
      let b = both (store_of h.world) h.records.items ts n t is.records here in
      let e : b.record_there ≡ r = same_Some b.record_there r (sym (there_at h.records.items b.before b.behind b.record_there n b.records b.record_place) ∙ at) in
      subst (λ (x : StepRecord). CanUndo h.world x) e
      (can_undo s base b.front b.back t h.world b.record_there is.from (subst (λ (l : List TakenStep). IsRun (steps s) base l (world_view h.world)) (sym b.steps) is.runs) (subst (λ (l : List TakenStep). IsMaximal (steps s) l t) (sym b.steps) free) b.is)

  -- and what is left then is the history without the step
  pub undone_history : (g : History) (r : StepRecord) → slice_get h.records.items n ≡ Some r → IsMaximal (steps s) ts t → g.records.items ≡ remove h.records.items n → IsUndone h.world r g.world
      → IsHistory s base (without (steps s) (t ∷ []) ts) g
  undone_history g r at free kept undone_it =
      let b = both (store_of h.world) h.records.items ts n t is.records here in
      let e : b.record_there ≡ r = same_Some b.record_there r (sym (there_at h.records.items b.before b.behind b.record_there n b.records b.record_place) ∙ at) in
      let own : IsRecordOf (store_of h.world) r t = subst (λ (x : StepRecord). IsRecordOf (store_of h.world) x t) e b.is in
      let whole = subst (λ (l : List TakenStep). IsRun (steps s) base l (world_view h.world)) (sym b.steps) is.runs in
      let names = steps_have_names s base is.from in
      let behind = unneeded_behind (steps s) base names b.front b.back t (subst (λ (l : List TakenStep). IsMaximal (steps s) l t) (sym b.steps) free) in
      let run = (free_steps_undo (steps s) base (steps_are_reversible s base is.from) (world_view h.world) b.front b.back t whole behind).0 in
      let world : world_view g.world ≡ undone (steps s) (world_view h.world) t = undone_it.world ∙ ap₂ (λ (f : Fact) (k : SavedState). undo (world_view h.world) f k) own.fact own.kept in
      let rest : b.front ++ b.back ≡ without (steps s) (t ∷ []) ts =
      sym (without_one (steps s) base names b.front b.back t (λ x y i. names.once (b.front ++ t ∷ b.back) (world_view h.world) x y whole i)) ∙ ap (without (steps s) (t ∷ [])) b.steps in
      record {
        table = is.table ∙ sym undone_it.store.table;
        schema = is.schema ∙ sym undone_it.store.schema;
        from = is.from;
        runs = subst (λ (l : List TakenStep). IsRun (steps s) base l (world_view g.world)) rest (subst (λ (x : model.World). IsRun (steps s) base (b.front ++ b.back) x) (sym world) run);
        records = subst (λ (l : List StepRecord). AreRecordsOf (store_of g.world) l (without (steps s) (t ∷ []) ts)) (sym (kept ∙ removed_at h.records.items b.before b.behind b.record_there n b.records b.record_place))
            (subst (λ (l : List TakenStep). AreRecordsOf (store_of g.world) (b.before ++ b.behind) l) rest (records_kept (store_of h.world) (store_of g.world) (b.before ++ b.behind) (b.front ++ b.back) undone_it.store b.others));
      }
