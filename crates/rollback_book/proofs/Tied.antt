-- What a book holds says of its log, and the log says of what it holds.
use Rattle.std.proofs.Common.{◌≡◌, ◌≤◌, arith, ℕ, ◌+◌, Bool, false, ◌||◌, List, [], ◌∷◌, length, map, refl, ap, ap₂, sym, subst, ◌∙◌, inl, inr, Some}
use Rattle.std.specs.Prelude.{nat_le, nat_lt, filter}
use Rattle.std.proofs.lemmas.List.{length-map}
use Rattle.std.proofs.lemmas.Option.{same_Some}
use Rattle.step_names.specs.declared.step.StepName.{StepName}
use Rattle.trace_theory.specs.Traces.{In, IsRun, run}
use Rattle.trace_theory.proofs.Lists.{by_bool}
use Rattle.saved_steps.specs.Held.{world_view}
use Rattle.saved_steps.specs.Steps.{name_of}
use Rattle.saved_steps.specs.World.{Setting, World}
use Rattle.saved_steps.specs.declared.fact.Fact.{Fact}
use Rattle.saved_steps.specs.declared.record.StepRecord.{StepRecord}
use Rattle.depends.specs.Instance.{steps}
use Rattle.depends.specs.Laws.{facts_of}
use Rattle.depends.proofs.Searching.{facts}
use Rattle.step_history.specs.History.{TakenStep, IsHistory, history_items, history_records, history_world}
use Rattle.step_history.proofs.Left.{as_many, facts_alike}
use Rattle.book_log.specs.Answers.{is_full_for_step, is_full_for_define}
use Rattle.book_log.specs.Legal.{IsLegal}
use Rattle.book_log.specs.Log.{Log, appended, base_of, settled, remainder, remaining, setting_of, world_of, past_of, after_entry}
use Rattle.book_log.specs.declared.entry.Entry.{Entry}
use Rattle.book_log.proofs.LegalRuns.{legal_stands}
use Rattle.book_log.proofs.Standing.{StandsAt, stands_in, settled_next, world_there, past_there, steps_run, names_there, fact_named}
use Rattle.rollback_book.specs.Book.{BookView, BookInvariant, machine_place, placed_machine}
use Rattle.rollback_book.specs.Holding.{IsHoldOf}

-- ---- a log that stands somewhere

-- the world of a run is that of the log
pub stands_as : (log : Log) (s : Setting) (w v : World) (ts : List TakenStep) → StandsAt log s w ts → IsRun (steps s) (base_of log) ts v → StandsAt log s v ts
stands_as log s w v ts h runs =
    let e : (w, ts) ≡ (v, ts) =
    same_Some (w, ts) (v, ts) (sym (steps_run log s w ts h) ∙ sym (ap (λ l. run (steps s) (base_of log) l) (names_there log s w ts h)) ∙ runs) in
    stands_in log s s w v ts ts h h.setting (h.runs ∙ ap (λ (p : World × List TakenStep). Some p) e)

-- ---- what is held

-- what is held belongs to a log that stands in the same world
pub tied_by : (b : BookView) (s : Setting) (base w : World) (ts : List TakenStep) → IsLegal b.log → StandsAt b.log s w ts → base_of b.log ≡ base → IsHistory s base ts b.history
    → ((name : List ℕ) → placed_machine (machine_place b.places name) ≡ s.machines name) → b.settled.items ≡ map name_of (settled b.log) → IsHoldOf b.log (history_records b.history) b.held
    → length b.log.entries + length (history_records b.history) ≤ b.capacity → length (history_records b.history) ≤ 65536 → length b.log.entries + length (history_records b.history) ≤ 1000000 → BookInvariant b
tied_by b s base w ts legal h same was machines names holds room few bounded =
    let is = subst (λ (x : World). IsHistory s x ts b.history) (sym same) was in
    let own = stands_as b.log s w (world_view (history_world b.history)) ts h is.runs in
    let past = past_there b.log s (world_view (history_world b.history)) ts own in
    record {
      legal = legal;
      history = subst (λ (x : Setting). IsHistory x (base_of b.log) (past_of b.log) b.history) (sym h.setting)
          (subst (λ (l : List TakenStep). IsHistory s (base_of b.log) l b.history) (sym past) is);
      run = own.runs ∙ ap (λ (l : List TakenStep). Some (world_view (history_world b.history), l)) (sym past);
      machines = λ name. machines name ∙ ap (λ (x : Setting). x.machines name) (sym h.setting);
      names = names;
      held = holds;
      room = room;
      few = few;
      bounded = bounded;
    }

-- an entry that settles nothing leaves the names of what was settled
pub same_names : (b : BookView) (e : Entry) → BookInvariant b → (after_entry b.log.begin (remainder b.log) e).settled ≡ settled b.log → b.settled.items ≡ map name_of (settled (appended b.log e))
same_names b e tied same = tied.names ∙ ap (map name_of) (sym (settled_next b.log e ∙ same))

module _ (b : BookView) (tied : BookInvariant b) where
  pub stands : StandsAt b.log (setting_of b.log) (world_view (history_world b.history)) (past_of b.log)
  stands = stands_in b.log (setting_of b.log) (setting_of b.log) (world_of b.log) (world_view (history_world b.history)) (past_of b.log) (past_of b.log) (legal_stands b.log tied.legal) refl tied.run

  pub world_is : world_of b.log ≡ world_view (history_world b.history)
  world_is = world_there b.log (setting_of b.log) (world_view (history_world b.history)) (past_of b.log) stands

  pub facts_are : facts (history_records b.history) ≡ facts_of (past_of b.log)
  facts_are = facts_alike (history_items b.history) (history_records b.history) (past_of b.log) tied.history.records

  pub as_many_records : length (history_records b.history) ≡ length (past_of b.log)
  as_many_records = as_many (history_items b.history) (history_records b.history) (past_of b.log) tied.history.records

  pub many : length (remaining b.log) ≡ length (history_records b.history)
  many =
      ap length (sym (names_there b.log (setting_of b.log) (world_view (history_world b.history)) (past_of b.log) stands))
      ∙ length-map (past_of b.log) (λ (t : TakenStep). t.step) ∙ sym as_many_records

  pub full_by : (entries steps_there : ℕ) (full : Bool) → entries ≡ length b.log.entries → steps_there ≡ length (history_records b.history)
      → full ≡ (nat_le 65536 steps_there || nat_lt 999998 (entries + steps_there)) → is_full_for_step b.log ≡ full
  unfolding is_full_for_step
  full_by entries steps_there full e s f =
      ap (λ (n : ℕ). nat_le 65536 n || nat_lt 999998 (length b.log.entries + n)) many
      ∙ ap₂ (λ (m n : ℕ). nat_le 65536 n || nat_lt 999998 (m + n)) (sym e) (sym s) ∙ sym f

  pub define_full_by : (entries steps_there : ℕ) (full : Bool) → entries ≡ length b.log.entries → steps_there ≡ length (history_records b.history)
      → full ≡ nat_le 1000000 (entries + steps_there) → is_full_for_define b.log ≡ full
  unfolding is_full_for_define
  define_full_by entries steps_there full e s f =
      ap (λ (n : ℕ). nat_le 1000000 (length b.log.entries + n)) many ∙ ap₂ (λ (m n : ℕ). nat_le 1000000 (m + n)) (sym e) (sym s) ∙ sym f

  names_along : (ts : List TakenStep) → ((t : TakenStep) → In t ts → t.fact.name ≡ name_of t.step) → map (λ (f : Fact). f.name) (facts_of ts) ≡ map name_of (map (λ (t : TakenStep). t.step) ts)
  names_along [] h = refl
  names_along (t ∷ ts) h = ap₂ (λ (n : StepName) (ns : List StepName). n ∷ ns) (h t (inl refl)) (names_along ts (λ x i. h x (inr i)))

  of_facts : (rs : List StepRecord) → map (λ (r : StepRecord). r.fact.name) rs ≡ map (λ (f : Fact). f.name) (facts rs)
  of_facts [] = refl
  of_facts (r ∷ rs) = ap (λ (ns : List StepName). r.fact.name ∷ ns) (of_facts rs)

  pub names_are : map (λ (r : StepRecord). r.fact.name) (history_records b.history) ≡ map name_of (remaining b.log)
  names_are =
      of_facts (history_records b.history) ∙ ap (map (λ (f : Fact). f.name)) facts_are
      ∙ names_along (past_of b.log) (fact_named b.log (setting_of b.log) (world_view (history_world b.history)) (past_of b.log) stands)
      ∙ ap (map name_of) (names_there b.log (setting_of b.log) (world_view (history_world b.history)) (past_of b.log) stands)

-- ---- fewer steps

shorter : {A : Type 0} (p : A → Bool) (xs : List A) → length (filter p xs) ≤ length xs
shorter p [] = omega arith
shorter p (x ∷ xs) = let k = shorter p xs in by_bool (p x) _ (λ h. rw h (omega (arith, k))) (λ h. rw h (omega (arith, k)))

pub one_fewer : {A : Type 0} (p : A → Bool) (x : A) (xs : List A) → In x xs → p x ≡ false → length (filter p xs) + 1 ≤ length xs
one_fewer p x [] i h = absurd i
one_fewer p x (y ∷ xs) (inl e) h =
    let k = shorter p xs in
    let n : p y ≡ false = ap p (sym e) ∙ h in
    rw n (omega (arith, k))
one_fewer p x (y ∷ xs) (inr i) h = let k = one_fewer p x xs i h in by_bool (p y) _ (λ n. rw n (omega (arith, k))) (λ n. rw n (omega (arith, k)))
