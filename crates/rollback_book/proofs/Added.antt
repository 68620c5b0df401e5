-- A book whose places and room are made, and after a command that adds to it.
use Rattle.std.proofs.Common.{◌≡◌, ◌≤◌, arith, ℕ, false, cond, List, [], ◌∷◌, ◌++◌, length, length-append, map, refl, ap, ap₂, sym, subst, ◌∙◌, Option, None, Some, Result, Ok, Err}
use Rattle.std.specs.Prelude.{option_map, is_err, OnOk}
use Rattle.asl_fields.specs.Fields.{is_text}
use Rattle.asl_tree.specs.Definition.{Definition}
use Rattle.asl_tree.specs.Levels.{IsWellFormedThroughout}
use Rattle.saved_steps.specs.Effects as effects
use Rattle.saved_steps.specs.Effects.{Effect}
use Rattle.saved_steps.specs.Held.{world_view}
use Rattle.saved_steps.specs.Made.{IsMadeFor}
use Rattle.saved_steps.specs.Run.{after_effect, take_step}
use Rattle.saved_steps.specs.Steps.{Step, started, moved, name_of, start_name}
use Rattle.saved_steps.specs.World.{Setting, World}
use Rattle.saved_steps.specs.declared.fact.Kind.TheVariants as kind
use Rattle.saved_steps.specs.declared.made.Made.{Made as MadeStep}
use Rattle.step_history.specs.History.{TakenStep, IsHistory, taken_in, history_items, history_records, history_world}
use Rattle.step_history.specs.declared.history.History.{History}
use Rattle.step_history.proofs.Extended.{more_machines}
use Rattle.step_history.proofs.Left.{as_many, facts_alike}
use Rattle.book_log.specs.Answers.{is_full_for_step, is_full_for_define}
use Rattle.book_log.specs.Legal.{IsAccepted}
use Rattle.book_log.specs.Log.{Log, appended, base_of, settled, step_on_hold, left_of, machine_of, past_of, setting_of, world_of}
use Rattle.book_log.specs.declared.entry.Entry.{Entry}
use Rattle.book_log.specs.declared.entry.Entry.TheVariants.{Define, Start, Step as Stepped, Undo, Rollback, Settle, Hold as HoldEntry}
use Rattle.book_log.proofs.Counts.{room_for_step, room_for_define}
use Rattle.book_log.proofs.LegalRuns.{accepted_is_legal}
use Rattle.book_log.proofs.HoldSaid.{held_next, hold_said}
use Rattle.book_log.proofs.Holding.{left_is_after}
use Rattle.book_log.proofs.Standing.{StandsAt, past_there, knowing, extended, base_kept, base_defined, stands_defined, stands_started, stands_moved, stands_held}
use Rattle.rollback_book.specs.Book.{BookView, Places, BookInvariant, machine_place, placed_machine}
use Rattle.rollback_book.specs.Holding.{AddsUnheld, KeepsHold}
use Rattle.rollback_book.specs.Making.{CanEnter, CanEnterChange, HasLogRoom, IsStepFor}
use Rattle.rollback_book.specs.declared.hold.Hold.{Hold}
use Rattle.rollback_book.specs.declared.making.Made.{Made}
use Rattle.rollback_book.specs.declared.making.MadeChange.TheVariants as made
use Rattle.rollback_book.proofs.Refusing.{start_not_full, step_not_full}
use Rattle.rollback_book.proofs.TakenBack.{with_entry}
use Rattle.rollback_book.proofs.Kept.{hold_alike, hold_begun, hold_grown, hold_kept}
use Rattle.rollback_book.proofs.Tied.{stands, same_names, tied_by, facts_are, many, world_is}

pub on_ok : {T E : Type 0} (r : Result T E) (P : Type 0) → is_err r ≡ false → OnOk r P → P
on_ok (Ok x) P h p = p
on_ok (Err e) P h p = cc

pub on_any : {T E : Type 0} (r : Result T E) (P : Type 0) → P → OnOk r P
on_any (Ok x) P p = p
on_any (Err e) P p = tt

-- the same log, with more room
abbrev pub with_room : BookView → History → Places → ℕ → Option Hold → BookView
with_room b h places capacity step_on_hold = record { log = b.log; history = h; places = places; capacity = capacity; settled = b.settled; held = step_on_hold }

pub tied_room : (b : BookView) (h : History) (places : Places) (capacity : ℕ) (step_on_hold : Option Hold) → BookInvariant b → KeepsHold b.held step_on_hold → world_view (history_world h) ≡ world_view (history_world b.history)
    → ((s : Setting) (base : World) (ts : List TakenStep) → IsHistory s base ts b.history → IsHistory s base ts h)
    → ((name : List ℕ) → placed_machine (machine_place places name) ≡ placed_machine (machine_place b.places name)) → b.capacity ≤ capacity → BookInvariant (with_room b h places capacity step_on_hold)
tied_room b h places capacity step_on_hold tied holds world kept same grown =
    let is = kept (setting_of b.log) (base_of b.log) (past_of b.log) tied.history in
    let now = as_many (history_items h) (history_records h) (past_of b.log) is.records in
    let before = as_many (history_items b.history) (history_records b.history) (past_of b.log) tied.history.records in
    let room = tied.room in
    let few = tied.few in
    let bounded = tied.bounded in
    record {
      legal = tied.legal;
      history = is;
      run = tied.run ∙ ap (λ (w : World). Some (w, past_of b.log)) (sym world);
      machines = λ name. same name ∙ tied.machines name;
      names = tied.names;
      held = hold_alike b.log b.log (history_records b.history) (history_records h) step_on_hold refl refl refl
          (facts_are b tied ∙ sym (facts_alike (history_items h) (history_records h) (past_of b.log) is.records)) (hold_kept b.log (history_records b.history) b.held step_on_hold holds tied.held);
      room = omega (arith, room, now, before, grown);
      few = omega (arith, few, now, before);
      bounded = omega (arith, bounded, now, before);
    }

-- a history of the same steps has as many records
pub same_many : (b : BookView) (h : History) → BookInvariant b → ((s : Setting) (base : World) (ts : List TakenStep) → IsHistory s base ts b.history → IsHistory s base ts h) → length (history_records h) ≡ length (history_records b.history)
same_many b h tied kept =
    let is = kept (setting_of b.log) (base_of b.log) (past_of b.log) tied.history in
    as_many (history_items h) (history_records h) (past_of b.log) is.records ∙ sym (as_many (history_items b.history) (history_records b.history) (past_of b.log) tied.history.records)

module _ (b : BookView) (tied : BookInvariant b) (capacity : ℕ) (log_room : HasLogRoom b) (grown : b.capacity ≤ capacity) where
  -- ---- a definition

  pub tied_defined : (entry : Entry) (name : List ℕ) (machine : Definition) (places : Places) → IsAccepted b.log entry → CanEnterChange b entry (made.Define name machine)
      → ((n : List ℕ) → placed_machine (machine_place places n) ≡ cond (is_text name n) (Some machine) (placed_machine (machine_place b.places n)))
      → BookInvariant (record { log = appended b.log entry; history = b.history; places = places; capacity = capacity; settled = b.settled; held = b.held })
  tied_defined (Define n m) name machine places a fits filled =
      let s = setting_of b.log in
      let more = knowing s n m in
      let entry : Entry = Define n m in
      let free = room_for_define b.log a.1 in
      let count = many b tied in
      let logged = length-append b.log.entries (entry ∷ []) in
      let few = tied.few in
      let own : (x : List ℕ) → placed_machine (machine_place places x) ≡ more.machines x = λ x.
      filled x ∙ ap (cond (is_text name x) (Some machine)) (tied.machines x)
      ∙ ap₂ (λ (y : List ℕ) (z : Definition). cond (is_text y x) (Some z) (s.machines x)) fits.0 fits.1 in
      tied_by (record { log = appended b.log entry; history = b.history; places = places; capacity = capacity; settled = b.settled; held = b.held }) more (base_of b.log) (world_view (history_world b.history)) (past_of b.log)
      (accepted_is_legal b.log entry tied.legal a) (stands_defined b.log s (world_view (history_world b.history)) (past_of b.log) n m (stands b tied) a.0)
      (base_defined b.log s (world_view (history_world b.history)) (past_of b.log) n m (stands b tied) a.0)
      (more_machines s more (base_of b.log) (past_of b.log) b.history (extended s n m a.0) tied.history) own (same_names b entry tied refl)
      (hold_alike b.log (appended b.log entry) (history_records b.history) (history_records b.history) b.held (held_next b.log entry) (left_is_after b.log entry tied.legal a)
      (past_there (appended b.log entry) more (world_view (history_world b.history)) (past_of b.log) (stands_defined b.log s (world_view (history_world b.history)) (past_of b.log) n m (stands b tied) a.0)) refl tied.held)
      (omega (arith, log_room, grown, logged)) few (omega (arith, free, count, logged))
  tied_defined (Start exec machine input) name shared places a fits filled = absurd fits
  tied_defined (Stepped n kind) name shared places a fits filled = absurd fits
  tied_defined (Undo n) name shared places a fits filled = absurd fits
  tied_defined (Rollback n undone) name shared places a fits filled = absurd fits
  tied_defined Settle name shared places a fits filled = absurd fits
  tied_defined (HoldEntry n count) name shared places a fits filled = absurd fits

  -- ---- a step

  taken : (step : Step) (d : Effect) → effects.effect_of (setting_of b.log) (world_of b.log) step ≡ Some d → effects.effect_of (setting_of b.log) (world_view (history_world b.history)) step ≡ Some d
  taken step d h = subst (λ (w : World). effects.effect_of (setting_of b.log) w step ≡ Some d) (world_is b tied) h

  steps_once : (step : Step) (d : Effect) → effects.effect_of (setting_of b.log) (world_view (history_world b.history)) step ≡ Some d
      → take_step (setting_of b.log) (world_view (history_world b.history)) step ≡ Some (after_effect (world_view (history_world b.history)) d, d.fact)
  steps_once step d h = ap (option_map (λ (x : Effect). (after_effect (world_view (history_world b.history)) x, x.fact))) h

  -- the history with a step more
  abbrev Grows : History → MadeStep → Type 0
  Grows h m =
      (s : Setting) (base : World) (ts : List TakenStep) (step : Step) (d : Effect) → IsHistory s base ts b.history → effects.effect_of s (world_view (history_world b.history)) step ≡ Some d → IsMadeFor m d
      → IsHistory s base (ts ++ taken_in (world_view (history_world b.history)) step d.fact ∷ []) h

  entered : (entry : Entry) (m : MadeStep) (h : History) (held_now : Option Hold) (step : Step) (f : IsStepFor b step m) → IsAccepted b.log entry → is_full_for_step b.log ≡ false → base_of (appended b.log entry) ≡ base_of b.log → b.settled.items ≡ map name_of (settled (appended b.log entry)) → step_on_hold (appended b.log entry) ≡ step_on_hold b.log → left_of (appended b.log entry) ≡ left_of b.log → AddsUnheld b.held held_now → Grows h m
      → StandsAt (appended b.log entry) (setting_of b.log) (after_effect (world_view (history_world b.history)) f.effect) (past_of b.log ++ taken_in (world_view (history_world b.history)) step f.effect.fact ∷ [])
      → BookInvariant (with_entry b entry h capacity held_now)
  entered entry m h held_now step f a room same names held_same left_same adds grows there =
      let s = setting_of b.log in
      let t = taken_in (world_view (history_world b.history)) step f.effect.fact in
      let ts = past_of b.log ++ t ∷ [] in
      let is = grows s (base_of b.log) (past_of b.log) step f.effect tied.history (taken step f.effect f.is) f.made in
      let now = as_many (history_items h) (history_records h) ts is.records in
      let before = as_many (history_items b.history) (history_records b.history) (past_of b.log) tied.history.records in
      let one = length-append (past_of b.log) (t ∷ []) in
      let count = many b tied in
      let free = room_for_step b.log room in
      let few = free.0 in
      let bounded = free.1 in
      let logged = length-append b.log.entries (entry ∷ []) in
      tied_by (with_entry b entry h capacity held_now) s (base_of b.log) (after_effect (world_view (history_world b.history)) f.effect) ts (accepted_is_legal b.log entry tied.legal a) there same is tied.machines names
      (hold_grown b.log (appended b.log entry) s (after_effect (world_view (history_world b.history)) f.effect) t (history_records b.history) (history_records h) b.held held_now tied.legal held_same left_same there (facts_are b tied) (facts_alike (history_items h) (history_records h) ts is.records) adds tied.held)
      (omega (arith, log_room, grown, logged, now, before, one)) (omega (arith, few, count, now, before, one)) (omega (arith, bounded, count, logged, now, before, one))

  pub tied_stepped : (entry : Entry) (m : MadeStep) (h : History) (held_now : Option Hold) → IsAccepted b.log entry → CanEnterChange b entry (made.Step m) → AddsUnheld b.held held_now → Grows h m → BookInvariant (with_entry b entry h capacity held_now)
  tied_stepped (Define n d) m h held_now a fits adds grows = absurd fits
  tied_stepped (Start exec machine input) m h held_now a fits adds grows =
      let step = started exec.exec machine input in
      let does = taken step fits.effect fits.is in
      entered (Start exec machine input) m h held_now step fits a (start_not_full b.log exec machine (start_name exec.exec) a.0) (base_kept b.log (Start exec machine input) refl refl) (same_names b (Start exec machine input) tied refl) (held_next b.log (Start exec machine input)) (left_is_after b.log (Start exec machine input) tied.legal a) adds grows
      (stands_started b.log (setting_of b.log) (world_view (history_world b.history)) (after_effect (world_view (history_world b.history)) fits.effect) (past_of b.log) exec machine input fits.effect.fact (stands b tied) (steps_once step fits.effect does))
  tied_stepped (Stepped name kind) m h held_now a fits adds grows =
      let does = taken (moved name) fits.effect fits.is in
      entered (Stepped name kind) m h held_now (moved name) fits a (step_not_full b.log name.thread (record { name = name; kind = kind }) a) (base_kept b.log (Stepped name kind) refl refl) (same_names b (Stepped name kind) tied refl) (held_next b.log (Stepped name kind)) (left_is_after b.log (Stepped name kind) tied.legal a) adds grows
      (stands_moved b.log (setting_of b.log) (world_view (history_world b.history)) (after_effect (world_view (history_world b.history)) fits.effect) (past_of b.log) name kind fits.effect.fact (stands b tied) (steps_once (moved name) fits.effect does))
  tied_stepped (Undo n) m h held_now a fits adds grows = absurd fits
  tied_stepped (Rollback n undone) m h held_now a fits adds grows = absurd fits
  tied_stepped Settle m h held_now a fits adds grows = absurd fits
  tied_stepped (HoldEntry n count) m h held_now a fits adds grows = absurd fits

  -- ---- a hold

  pub tied_held : (entry : Entry) (hold : Hold) → IsAccepted b.log entry → CanEnterChange b entry (made.Hold hold)
      → BookInvariant (record { log = appended b.log entry; history = b.history; places = b.places; capacity = capacity; settled = b.settled; held = Some hold })
  tied_held (HoldEntry name held_count) hold a fits =
      let s = setting_of b.log in
      let w = world_view (history_world b.history) in
      let ts = past_of b.log in
      let entry : Entry = HoldEntry name held_count in
      let next = appended b.log entry in
      let there = stands_held b.log s w ts name held_count (stands b tied) in
      let past = past_there next s w ts there in
      let holds = hold_begun b.log next (history_records b.history) (history_records b.history) name hold (held_next b.log entry) (left_is_after b.log entry tied.legal a) past refl fits in
      let free = room_for_define b.log (hold_said b.log name held_count a).2 in
      let count = many b tied in
      let logged = length-append b.log.entries (entry ∷ []) in
      let few = tied.few in
      tied_by (record { log = next; history = b.history; places = b.places; capacity = capacity; settled = b.settled; held = Some hold }) s (base_of b.log) w ts
      (accepted_is_legal b.log entry tied.legal a) there (base_kept b.log entry refl refl) tied.history tied.machines (same_names b entry tied refl) holds
      (omega (arith, log_room, grown, logged)) few (omega (arith, free, count, logged))
  tied_held (Define n d) hold a fits = absurd fits
  tied_held (Start exec machine input) hold a fits = absurd fits
  tied_held (Stepped name kind) hold a fits = absurd fits
  tied_held (Undo n) hold a fits = absurd fits
  tied_held (Rollback n undone) hold a fits = absurd fits
  tied_held Settle hold a fits = absurd fits

-- a machine that fits has its place
pub has_place : (b : BookView) (entry : Entry) (name : List ℕ) (machine : Definition) → CanEnterChange b entry (made.Define name machine) → machine_place b.places name ≡ Some None
has_place b (Define n d) name machine fits = ap (machine_place b.places) fits.0 ∙ fits.2
has_place b (Start exec known input) name machine fits = absurd fits
has_place b (Stepped n kind) name machine fits = absurd fits
has_place b (Undo n) name machine fits = absurd fits
has_place b (Rollback n undone) name machine fits = absurd fits
has_place b Settle name machine fits = absurd fits
has_place b (HoldEntry n count) name machine fits = absurd fits

-- ---- a start for which everything is made

-- a definition for which everything is made
pub define_ready : (before after : BookView) (name : List ℕ) (machine : Definition) (r : Made) → r ≡ record { entry = Define name machine; change = made.Define name machine } → after.log ≡ before.log
    → machine_of before.log name ≡ None → is_full_for_define before.log ≡ false → IsWellFormedThroughout machine → machine_place after.places name ≡ Some None → HasLogRoom after → CanEnter after r
define_ready before after name machine r is same free full whole place room =
    let made_it : CanEnter after (record { entry = Define name machine; change = made.Define name machine }) = record {
      is_accepted = (ap (λ (x : Log). machine_of x name) same ∙ free, ap is_full_for_define same ∙ full, whole);
      fits = (refl, refl, place);
      room = room;
    } in
    subst (λ (x : Made). CanEnter after x) (sym is) made_it
