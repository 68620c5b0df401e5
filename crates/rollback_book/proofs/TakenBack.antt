-- A book after an undoing, and after a rollback.
use Rattle.std.proofs.Common.{◌≡◌, ◌≤◌, arith, ℕ, ◌+◌, true, false, List, [], ◌∷◌, length, length-append, refl, ap, sym, subst, ◌∙◌, inl, Option, Some, Ok}
use Rattle.std.specs.Prelude.{slice_get, not, reverse}
use Rattle.step_names.specs.declared.step.StepName.{StepName}
use Rattle.trace_theory.specs.Traces.{In, without, consequences, is_among, undone, undo_each}
use Rattle.trace_theory.proofs.Lists.{any_one}
use Rattle.trace_theory.proofs.Least.{least_of}
use Rattle.saved_steps.specs.Held.{world_view}
use Rattle.saved_steps.specs.Steps.{moved}
use Rattle.saved_steps.specs.World.{Setting, World}
use Rattle.depends.specs.Instance.{steps, is_one_step}
use Rattle.depends.specs.Laws.{facts_of}
use Rattle.depends.specs.Plans.{plan}
use Rattle.depends.proofs.Named.{steps_have_names}
use Rattle.step_history.specs.History.{TakenStep, IsHistory, history_items, history_records, history_world}
use Rattle.step_history.specs.declared.history.History.{History}
use Rattle.step_history.proofs.Left.{as_many, facts_alike}
use Rattle.step_history.proofs.Planned.{Undoes, in_list, plan_undoes}
use Rattle.book_log.specs.Answers.{plan_answer}
use Rattle.book_log.specs.Log.{appended, base_of, steps_but, remainder, remaining, rolled_back, left_of, setting_of, past_of, consequences_of}
use Rattle.book_log.specs.declared.entry.Entry.{Entry}
use Rattle.book_log.specs.declared.entry.Entry.TheVariants.{Undo, Rollback}
use Rattle.book_log.proofs.LegalRuns.{accepted_is_legal}
use Rattle.book_log.proofs.Holding.{left_is_after, without_named}
use Rattle.book_log.proofs.Standing.{after_same, base_kept, consequences_there, past_there, stands_undone, stands_rolled}
use Rattle.rollback_book.specs.Book.{BookView, BookInvariant, IsMaximalPlace}
use Rattle.rollback_book.specs.Holding.{CanTakeOut, TakesOut}
use Rattle.rollback_book.specs.declared.hold.Hold.{Hold}
use Rattle.rollback_book.proofs.Kept.{all_out, can_take_out, held_before, hold_fewer}
use Rattle.rollback_book.proofs.Tied.{stands, same_names, tied_by, one_fewer, facts_are, as_many_records}
use Rattle.rollback_book.proofs.Free.{Stood, stood, freed}

-- the book with one more entry, and this history
abbrev pub with_entry : BookView → Entry → History → ℕ → Option Hold → BookView
with_entry b entry history capacity held = record { log = appended b.log entry; history = history; places = b.places; capacity = capacity; settled = b.settled; held = held }

module _ (b : BookView) (tied : BookInvariant b) (name : StepName) where
  -- a step that may be undone can be taken out of what is left
  pub undone_takes : (at : ℕ) → IsMaximalPlace b name at → CanTakeOut b.held (at ∷ [])
  undone_takes at free =
      let s = setting_of b.log in
      let t = stood b tied name at free.there in
      can_take_out b.log s (world_view (history_world b.history)) (without (steps s) (t.step ∷ []) (past_of b.log)) (at ∷ []) (history_records b.history) b.held (stands b tied) (t.step, t.there, freed b tied name at free, refl) tied.held (as_many_records b tied)

  planned_undoes : (at : ℕ) (places : List ℕ) (t : Stood b name at) → places ≡ plan (facts_of (past_of b.log)) at
      → Undoes (setting_of b.log) (past_of b.log) places (without (steps (setting_of b.log)) (consequences (steps (setting_of b.log)) (past_of b.log) t.step.step) (past_of b.log))
  planned_undoes at places t placed =
      let s = setting_of b.log in
      let ts = past_of b.log in
      subst (λ (l : List ℕ). Undoes s ts l (without (steps s) (consequences (steps s) ts t.step.step) ts)) (sym placed)
      (plan_undoes s (base_of b.log) (world_view (history_world b.history)) ts at t.step tied.history.from tied.history.runs t.there)

  -- so can what was planned
  pub planned_takes : (at : ℕ) (places : List ℕ) → Stood b name at → places ≡ plan (facts_of (past_of b.log)) at → CanTakeOut b.held places
  planned_takes at places t placed =
      let s = setting_of b.log in
      let ts = past_of b.log in
      can_take_out b.log s (world_view (history_world b.history)) (without (steps s) (consequences (steps s) ts t.step.step) ts) places (history_records b.history) b.held (stands b tied) (planned_undoes at places t placed) tied.held (as_many_records b tied)

module _ (b : BookView) (tied : BookInvariant b) (name : StepName) (h : History) (held_now : Option Hold) (capacity : ℕ) (grown : b.capacity ≤ capacity) where
  itself : (t : TakenStep) → is_one_step t.step t.step ≡ true
  itself t = (steps_have_names (setting_of b.log) (base_of b.log) tied.history.from).itself t.step

  among : (xs : List TakenStep) (t : TakenStep) → In t xs → not (is_among (steps (setting_of b.log)) xs t) ≡ false
  among xs t i = ap not (any_one (λ (x : TakenStep). is_one_step x.step t.step) xs t i (itself t))

  -- fewer steps remain once one of them is out
  fewer : (xs : List TakenStep) (t : TakenStep) (items : List TakenStep) → In t xs → In t (past_of b.log) → items ≡ without (steps (setting_of b.log)) xs (past_of b.log) → length items + 1 ≤ length (past_of b.log)
  fewer xs t items i there e =
      let k = one_fewer (λ (x : TakenStep). not (is_among (steps (setting_of b.log)) xs x)) t (past_of b.log) there (among xs t i) in
      let n = ap length e in
      omega (arith, k, n)

  pub tied_undone : (at : ℕ) → IsMaximalPlace b name at → TakesOut b.held (at ∷ []) held_now
      → ((s : Setting) (base : World) (ts : List TakenStep) (t : TakenStep) → IsHistory s base ts b.history → slice_get ts at ≡ Some t → IsHistory s base (without (steps s) (t ∷ []) ts) h)
      → BookInvariant (with_entry b (Undo name) h capacity held_now)
  tied_undone at free takes undone_it =
      let s = setting_of b.log in
      let base = base_of b.log in
      let ts = past_of b.log in
      let t = stood b tied name at free.there in
      let rest = without (steps s) (t.step ∷ []) ts in
      let is = undone_it s base ts t.step tied.history t.there in
      let there : In t.step ts = in_list ts at t.step t.there in
      let less = fewer (t.step ∷ []) t.step rest (inl refl) there refl in
      let now = as_many (history_items h) (history_records h) rest is.records in
      let before = as_many_records b tied in
      let entry : Entry = Undo name in
      let logged = length-append b.log.entries (entry ∷ []) in
      let room = tied.room in
      let few = tied.few in
      let bounded = tied.bounded in
      let next = appended b.log entry in
      let legal = accepted_is_legal b.log entry tied.legal free.answer in
      let there_now = stands_undone b.log s (world_view (history_world b.history)) ts name t.step (stands b tied) (freed b tied name at free) t.named in
      let past = past_there next s (undone (steps s) (world_view (history_world b.history)) t.step) rest there_now in
      let left : left_of next ≡ without (steps s) (t.step ∷ []) (left_of b.log) =
      left_is_after b.log entry tied.legal free.answer ∙ sym (without_named b.log s (world_view (history_world b.history)) ts (stands b tied) t.step name (left_of b.log) t.named) in
      let out = all_out b.log next s (world_view (history_world b.history)) (t.step ∷ []) rest (at ∷ []) (stands b tied) past left (held_before b.log entry (steps_but name (remaining b.log)) refl) (t.step, t.there, freed b tied name at free, refl) in
      let holds = hold_fewer b.log next (at ∷ []) legal out (history_records b.history) (history_records h) b.held held_now (facts_are b tied) (facts_alike (history_items h) (history_records h) rest is.records ∙ ap facts_of (sym past)) takes tied.held in
      tied_by (with_entry b entry h capacity held_now) s base (undone (steps s) (world_view (history_world b.history)) t.step) rest legal
      there_now (base_kept b.log entry refl refl) is tied.machines (same_names b entry tied refl) holds
      (omega (arith, grown, less, now, before, logged, room)) (omega (arith, less, now, before, few)) (omega (arith, less, now, before, logged, bounded))

  pub tied_rolled : (at : ℕ) (undone_names : List StepName) (places : List ℕ) → Stood b name at → plan_answer b.log name ≡ Ok undone_names → places ≡ plan (facts_of (past_of b.log)) at → TakesOut b.held places held_now
      → ((s : Setting) (base : World) (ts : List TakenStep) (at : ℕ) (t : TakenStep) → IsHistory s base ts b.history → slice_get ts at ≡ Some t → places ≡ plan (facts_of ts) at
      → IsHistory s base (without (steps s) (consequences (steps s) ts t.step) ts) h)
      → BookInvariant (with_entry b (Rollback name undone_names) h capacity held_now)
  tied_rolled at undone_names places t planned placed takes rolled =
      let s = setting_of b.log in
      let base = base_of b.log in
      let ts = past_of b.log in
      let all = consequences (steps s) ts t.step.step in
      let rest = without (steps s) all ts in
      let is = rolled s base ts at t.step tied.history t.there placed in
      let there : In t.step ts = in_list ts at t.step t.there in
      let names = steps_have_names s base tied.history.from in
      let own : In t.step all = (least_of (steps s) base names ts t.step (λ x y i. names.once ts (world_view (history_world b.history)) x y tied.history.runs i) there).holds.itself in
      let less = fewer all t.step rest own there refl in
      let now = as_many (history_items h) (history_records h) rest is.records in
      let before = as_many_records b tied in
      let entry : Entry = Rollback name undone_names in
      let logged = length-append b.log.entries (entry ∷ []) in
      let room = tied.room in
      let few = tied.few in
      let bounded = tied.bounded in
      let next = appended b.log entry in
      let legal = accepted_is_legal b.log entry tied.legal planned in
      let there_now = stands_rolled b.log s (world_view (history_world b.history)) ts name undone_names t.step (stands b tied) there t.named in
      let past = past_there next s (undo_each (steps s) (world_view (history_world b.history)) (reverse all)) rest there_now in
      let gone : consequences_of b.log name ≡ all = consequences_there b.log s (world_view (history_world b.history)) ts (stands b tied) name ∙ after_same s (moved name) t.step.step ts (sym t.named) in
      let left : left_of next ≡ without (steps s) all (left_of b.log) = left_is_after b.log entry tied.legal planned ∙ ap (λ (l : List TakenStep). without (steps s) l (left_of b.log)) gone in
      let out = all_out b.log next s (world_view (history_world b.history)) all rest places (stands b tied) past left (held_before b.log entry (rolled_back b.log.begin (remainder b.log) name) refl) (planned_undoes b tied name at places t placed) in
      let holds = hold_fewer b.log next places legal out (history_records b.history) (history_records h) b.held held_now (facts_are b tied) (facts_alike (history_items h) (history_records h) rest is.records ∙ ap facts_of (sym past)) takes tied.held in
      tied_by (with_entry b entry h capacity held_now) s base (undo_each (steps s) (world_view (history_world b.history)) (reverse all)) rest legal
      there_now (base_kept b.log entry refl refl) is tied.machines (same_names b entry tied refl) holds
      (omega (arith, grown, less, now, before, logged, room)) (omega (arith, less, now, before, few)) (omega (arith, less, now, before, logged, bounded))
