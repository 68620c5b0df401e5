-- What a book holds of the steps that were settled says of its log why a step is absent; and a book after a settlement.
use Rattle.std.proofs.Common.{◌≡◌, ◌≤◌, arith, ℕ, Bool, true, false, cond, List, [], ◌∷◌, ◌++◌, length, length-append, map, refl, ap, ap₂, sym, subst, ◌∙◌, Err, None, Some}
use Rattle.std.specs.Prelude.{◌||◌}
use Rattle.std.specs.List.{list_any}
use Rattle.std.specs.Ordering.{eq_by_cmp}
use Rattle.std.proofs.lemmas.List.{map-append}
use Rattle.step_names.specs.Order.{step_cmp}
use Rattle.step_names.specs.declared.step.StepName.{StepName}
use Rattle.step_names.proofs.OrderLaws as order
use Rattle.step_history.specs.SettledNames.{HasRoomFor, SettledNamesView, is_name_among}
use Rattle.trace_theory.proofs.Lists.{by_bool}
use Rattle.saved_steps.specs.Held.{world_view}
use Rattle.saved_steps.specs.Steps.{Step, name_of}
use Rattle.saved_steps.specs.World.{Setting, World, is_same_step}
use Rattle.saved_steps.specs.declared.record.StepRecord.{StepRecord}
use Rattle.step_history.specs.History.{TakenStep, IsHistory, history_records, history_world}
use Rattle.step_history.specs.declared.history.History.{History}
use Rattle.book_log.specs.Answers.{absent, is_full_for_define, is_settled, settle_answer}
use Rattle.book_log.specs.Legal.{IsAccepted}
use Rattle.book_log.specs.Log.{Log, appended, base_of, settled, remaining, step_on_hold, setting_of, past_of}
use Rattle.book_log.specs.declared.entry.Entry.{Entry}
use Rattle.book_log.specs.declared.entry.Entry.TheVariants.{Define, Start, Step as Stepped, Undo, Rollback, Settle, Hold as HoldEntry}
use Rattle.book_log.specs.declared.refusal.Refusal.TheVariants.{NoStep, Settled, Full, Held}
use Rattle.book_log.proofs.Counts.{room_for_define}
use Rattle.book_log.proofs.LegalRuns.{accepted_is_legal}
use Rattle.book_log.proofs.HoldSaid.{held_next}
use Rattle.book_log.proofs.Settling.{room_settles, settle_free, settle_room}
use Rattle.book_log.proofs.Standing.{base_settled, settled_next, stands_settled, step_same, step_itself}
use Rattle.rollback_book.specs.Book.{BookView, BookInvariant}
use Rattle.rollback_book.specs.Making.{CanEnter, CanEnterChange, HasLogRoom}
use Rattle.rollback_book.specs.declared.making.MadeChange.TheVariants as made
use Rattle.rollback_book.specs.Settling.{absent_in}
use Rattle.rollback_book.specs.Holding.{IsHoldOf}
use Rattle.rollback_book.proofs.Kept.{none_kept}
use Rattle.rollback_book.proofs.Tied.{many, names_are, stands, tied_by}

-- ---- names

-- equality by the order of names is that of names
same_either : (n name : StepName) → eq_by_cmp step_cmp n name ≡ is_same_step name n
same_either n name =
    by_bool (is_same_step name n) _
    (λ k. let e = step_same name n k in ap (λ (x : StepName). eq_by_cmp step_cmp n x) e ∙ order.step_itself n ∙ sym k)
    (λ k. by_bool (eq_by_cmp step_cmp n name) _
    (λ j. let e = order.step_same n name j in let f = ap (is_same_step name) e ∙ step_itself name in let clash = sym k ∙ f in absurd (cc))
    (λ j. j ∙ sym k))

among_is : (ss : List Step) (name : StepName) → is_name_among name (map name_of ss) ≡ list_any (λ (s : Step). is_same_step name (name_of s)) ss
among_is [] name = refl
among_is (s ∷ ss) name = ap₂ (λ (a b : Bool). a || b) (same_either (name_of s) name) (among_is ss name)

module _ (b : BookView) (tied : BookInvariant b) where
  pub absent_is : (name : StepName) → absent_in b.settled.items name ≡ absent b.log name
  unfolding absent_in is_settled
  absent_is name = ap (λ (x : Bool). cond x Settled NoStep) (ap (is_name_among name) tied.names ∙ among_is (settled b.log) name)

  -- ---- a settlement

  pub tied_settled : (h : History) (names : SettledNamesView) (capacity : ℕ) → IsAccepted b.log Settle → HasLogRoom b → b.capacity ≤ capacity
      → (history_records h) ≡ [] → ((s : Setting) (base : World) (ts : List TakenStep) → IsHistory s base ts b.history → IsHistory s (world_view (history_world b.history)) [] h)
      → names.items ≡ b.settled.items ++ map (λ (r : StepRecord). r.fact.name) (history_records b.history)
      → BookInvariant (record { log = appended b.log Settle; history = h; places = b.places; capacity = capacity; settled = names; held = b.held })
  tied_settled h names capacity a log_room grown none settles named =
      let s = setting_of b.log in
      let w = world_view (history_world b.history) in
      let ts = past_of b.log in
      let there = stands b tied in
      let free = room_for_define b.log (settle_room b.log a) in
      let count = many b tied in
      let logged = length-append b.log.entries (Settle ∷ []) in
      let empty = ap length none in
      let all : names.items ≡ map name_of (settled (appended b.log Settle)) =
      named ∙ ap₂ (λ (x y : List StepName). x ++ y) tied.names (names_are b tied) ∙ sym (map-append name_of (settled b.log) (remaining b.log)) ∙ ap (map name_of) (sym (settled_next b.log Settle)) in
      let unheld = none_kept b.log (history_records b.history) b.held (settle_free b.log a) tied.held in
      let holds : IsHoldOf (appended b.log Settle) (history_records h) b.held = subst (IsHoldOf (appended b.log Settle) (history_records h)) (sym unheld) (held_next b.log Settle) in
      tied_by (record { log = appended b.log Settle; history = h; places = b.places; capacity = capacity; settled = names; held = b.held }) s w w [] (accepted_is_legal b.log Settle tied.legal a)
      (stands_settled b.log s w ts there) (base_settled b.log s w ts there) (settles s (base_of b.log) ts tied.history) tied.machines all holds
      (omega (arith, log_room, grown, logged, empty)) (omega (arith, empty)) (omega (arith, free, count, logged, empty))

  pub tied_after : (entry : Entry) (h : History) (names : SettledNamesView) (capacity : ℕ) → IsAccepted b.log entry → CanEnterChange b entry made.Settle → HasLogRoom b → b.capacity ≤ capacity
      → (history_records h) ≡ [] → ((s : Setting) (base : World) (ts : List TakenStep) → IsHistory s base ts b.history → IsHistory s (world_view (history_world b.history)) [] h)
      → names.items ≡ b.settled.items ++ map (λ (r : StepRecord). r.fact.name) (history_records b.history)
      → BookInvariant (record { log = appended b.log entry; history = h; places = b.places; capacity = capacity; settled = names; held = b.held })
  tied_after (Define n machine) h names capacity a fits log_room grown none settles named = absurd fits
  tied_after (Start exec machine input) h names capacity a fits log_room grown none settles named = absurd fits
  tied_after (Stepped n kind) h names capacity a fits log_room grown none settles named = absurd fits
  tied_after (Undo n) h names capacity a fits log_room grown none settles named = absurd fits
  tied_after (Rollback n undone) h names capacity a fits log_room grown none settles named = absurd fits
  tied_after (HoldEntry n count) h names capacity a fits log_room grown none settles named = absurd fits
  tied_after Settle h names capacity a fits log_room grown none settles named = tied_settled h names capacity a log_room grown none settles named

-- there is room for the names of a settlement that fits
pub names_fit : (b : BookView) (entry : Entry) → CanEnterChange b entry made.Settle → HasRoomFor b.settled (length (history_records b.history))
names_fit b (Define n machine) fits = absurd fits
names_fit b (Start exec machine input) fits = absurd fits
names_fit b (Stepped n kind) fits = absurd fits
names_fit b (Undo n) fits = absurd fits
names_fit b (Rollback n undone) fits = absurd fits
names_fit b (HoldEntry n count) fits = absurd fits
names_fit b Settle fits = fits

-- ---- what is answered

pub settle_full : (log : Log) → step_on_hold log ≡ None → is_full_for_define log ≡ true → settle_answer log ≡ Err Full
unfolding settle_answer
settle_full log free h = rw (free, h) refl

-- while something is held, nothing is settled
pub settle_held : (log : Log) (name : StepName) → step_on_hold log ≡ Some name → settle_answer log ≡ Err (Held name)
unfolding settle_answer
settle_held log name h = rw h refl

-- a settlement for which everything is made
pub settle_ready : (before after : BookView) → after.log ≡ before.log → step_on_hold before.log ≡ None → is_full_for_define before.log ≡ false → HasRoomFor after.settled (length (history_records after.history)) → HasLogRoom after
    → CanEnter after (record { entry = Settle; change = made.Settle })
settle_ready before after same unheld free names room = record { is_accepted = ap settle_answer same ∙ room_settles before.log unheld free; fits = names; room = room }

-- ---- what is accepted is refused for memory alone
