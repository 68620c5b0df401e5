-- What a book keeps of a hold, after each entry.
use Rattle.std.proofs.Common.{◌≡◌, ◌≤◌, ◌<◌, ◌+◌, arith, ℕ, suc, drop, get_or, Bool, true, false, List, [], ◌∷◌, ◌++◌, length, refl, ap, ap₂, sym, subst, ◌∙◌, inl, Option, None, Some}
use Rattle.std.specs.List.{remove}
use Rattle.std.proofs.Math.Seq.{drop-cons}
use Rattle.std.proofs.lemmas.List.{map-append}
use Rattle.step_names.specs.declared.step.StepName.{StepName}
use Rattle.trace_theory.specs.Traces.{In, without}
use Rattle.trace_theory.proofs.Least.{Once}
use Rattle.trace_theory.proofs.Lists.{Before-across, any_one, none_any}
use Rattle.saved_steps.specs.Steps.{Step, name_of}
use Rattle.saved_steps.specs.World.{Setting, World, is_same_step}
use Rattle.saved_steps.specs.declared.fact.Fact.{Fact}
use Rattle.saved_steps.specs.declared.record.Saved.TheVariants.{Started}
use Rattle.saved_steps.specs.declared.record.StepRecord.{StepRecord}
use Rattle.depends.specs.Instance.{steps}
use Rattle.depends.specs.Laws.{facts_of}
use Rattle.depends.proofs.Named.{steps_have_names}
use Rattle.depends.proofs.Searching.{facts}
use Rattle.step_history.specs.History.{TakenStep}
use Rattle.step_history.proofs.Planned.{Undoes}
use Rattle.step_index.specs.Held.{Held, AreLeft, count_left}
use Rattle.book_log.specs.Legal.{IsLegal}
use Rattle.book_log.specs.Log.{Log, appended, base_of, remainder, step_on_hold, while_in, left_of, past_of, consequences_of, after_entry}
use Rattle.book_log.specs.declared.entry.Entry.{Entry}
use Rattle.book_log.proofs.HoldSaid.{held_next, nothing_left}
use Rattle.book_log.proofs.Holding.{holds_stand, while_said}
use Rattle.book_log.proofs.Standing.{StandsAt, from_start, is_run, past_there, step_itself}
use Rattle.rollback_book.specs.Holding.{AddsUnheld, full_unheld, AreWithin, CanTakeOut, IsHoldFor, IsHoldOf, KeepsHold, TakesOut, marks_by, removed_each}
use Rattle.rollback_book.specs.declared.hold.Hold.{Hold}
use Rattle.rollback_book.proofs.Marks.{left_facts, removed_map, undone_out, undone_within, is_marked, marks_more, marks_out, marks_rest, nothing_counted, one_counted, shorter_by_one}

-- ---- nothing about a hold changes

pub hold_alike : (a b : Log) (rs us : List StepRecord) (o : Option Hold) → step_on_hold b ≡ step_on_hold a → left_of b ≡ left_of a → past_of b ≡ past_of a → facts rs ≡ facts us → IsHoldOf a rs o → IsHoldOf b us o
hold_alike a b rs us None same left past e h = same ∙ h
hold_alike a b rs us (Some h) same left past e k = (same ∙ k.0, left_facts rs us h.left e k.1, k.2 ∙ ap₂ marks_by (sym left) (sym past))

-- the same is held, with more room
pub hold_kept : (log : Log) (rs : List StepRecord) (o p : Option Hold) → KeepsHold o p → IsHoldOf log rs o → IsHoldOf log rs p
hold_kept log rs None None k h = h
hold_kept log rs None (Some g) k h = absurd k
hold_kept log rs (Some h) None k i = absurd k
hold_kept log rs (Some h) (Some g) k i = (i.0 ∙ ap Some (sym k.0), k.2 rs i.1, k.1 ∙ i.2)

-- what nothing is held for says that nothing is held
pub full_said : (log : Log) (rs : List StepRecord) (o : Option Hold) (full : Bool) → IsHoldOf log rs o → full_unheld o full ≡ true → (step_on_hold log ≡ None) × (full ≡ true)
full_said log rs None full h e = (h, e)
full_said log rs (Some g) full h e = cc

pub room_said : (log : Log) (rs : List StepRecord) (o : Option Hold) (full : Bool) → IsHoldOf log rs o → full_unheld o full ≡ false → step_on_hold log ≡ None → full ≡ false
room_said log rs None full h e none = e
room_said log rs (Some g) full h e none = let k : None ≡ Some g.step = sym none ∙ h.0 in cc

-- nothing changes of a hold itself
pub hold_itself : (o : Option Hold) → KeepsHold o o
hold_itself None = tt
hold_itself (Some h) = (refl, refl, λ rs left. left)

-- ---- a step more

-- a step that was taken last is none of those before it
last_unmarked : (log : Log) (s : Setting) (w : World) (ts : List TakenStep) (t : TakenStep) (left : List TakenStep) → StandsAt log s w (ts ++ t ∷ []) → ((x : TakenStep) → In x left → In x ts) → is_marked left t ≡ false
last_unmarked log s w ts t left h inside =
    let have = steps_have_names s (base_of log) (from_start log s w (ts ++ t ∷ []) h) in
    none_any (λ (x : TakenStep). is_same_step (name_of x.step) (name_of t.step)) left
    (λ x i. have.once (ts ++ t ∷ []) w x t (is_run log s w (ts ++ t ∷ []) h) (Before-across x t ts (t ∷ []) (inside x i) (inl refl)))

-- what is left remains
left_remains : (log : Log) → IsLegal log → (x : TakenStep) → In x (left_of log) → In x (past_of log)
left_remains log legal x i = by_held (step_on_hold log) refl
  where
    by_held : (o : Option StepName) → step_on_hold log ≡ o → In x (past_of log)
    by_held None e = absurd (subst (In x) (nothing_left log e) i)
    by_held (Some name) e = (holds_stand log name legal e).inside x i

pub hold_grown : (log next : Log) (s : Setting) (w : World) (t : TakenStep) (rs us : List StepRecord) (o p : Option Hold) → IsLegal log → step_on_hold next ≡ step_on_hold log → left_of next ≡ left_of log → StandsAt next s w (past_of log ++ t ∷ [])
    → facts rs ≡ facts_of (past_of log) → facts us ≡ facts_of (past_of log ++ t ∷ []) → AddsUnheld o p → IsHoldOf log rs o → IsHoldOf next us p
hold_grown log next s w t rs us None None legal same left there old new adds h = same ∙ h
hold_grown log next s w t rs us None (Some g) legal same left there old new adds h = absurd adds
hold_grown log next s w t rs us (Some h) None legal same left there old new adds k = absurd adds
hold_grown log next s w t rs us (Some h) (Some g) legal same left there old new adds k =
    let ts = past_of log in
    let past = past_there next s w (ts ++ t ∷ []) there in
    let r : StepRecord = record { fact = t.fact; saved = Started } in
    let e : facts (rs ++ r ∷ []) ≡ facts us =
    map-append (λ (x : StepRecord). x.fact) rs (r ∷ []) ∙ ap (λ (l : List Fact). l ++ t.fact ∷ []) old ∙ sym (map-append (λ (x : TakenStep). x.fact) ts (t ∷ [])) ∙ sym new in
    let none = last_unmarked next s w ts t (left_of log) there (left_remains log legal) in (
      same ∙ k.0 ∙ ap Some (sym adds.0),
      left_facts (rs ++ r ∷ []) us g.left e (adds.2 rs r k.1),
      adds.1 ∙ ap (λ (l : List Bool). l ++ false ∷ []) k.2 ∙ sym (marks_more (left_of log) ts t none) ∙ ap₂ marks_by (sym left) (sym past),
    )

-- ---- steps taken back

-- the held step is marked, so something is counted
held_counted : (log : Log) (name : StepName) → IsLegal log → step_on_hold log ≡ Some name → 1 ≤ count_left (marks_by (left_of log) (past_of log))
held_counted log name legal e =
    let k = holds_stand log name legal e in
    let first : In k.step (left_of log) = subst (In k.step) (sym k.left) (inl refl) in
    one_counted (left_of log) (past_of log) k.step (k.inside k.step first) (any_one (λ (x : TakenStep). is_same_step (name_of x.step) (name_of k.step.step)) (left_of log) k.step first (step_itself (name_of k.step.step)))

-- the steps of a list that are taken out of what remains, and of what is left
pub record IsOut (log next : Log) (places : List ℕ) : Type 0 where
  pub past : past_of next ≡ removed_each (past_of log) places
  pub marks : marks_by (left_of next) (past_of next) ≡ removed_each (marks_by (left_of log) (past_of log)) places
  pub kept : (name : StepName) → step_on_hold next ≡ Some name → step_on_hold log ≡ Some name

module _ (log next : Log) (places : List ℕ) (legal : IsLegal next) (out : IsOut log next places) where
  out_none : step_on_hold log ≡ None → step_on_hold next ≡ None
  out_none none = by_held (step_on_hold next) refl
    where
      by_held : (o : Option StepName) → step_on_hold next ≡ o → step_on_hold next ≡ None
      by_held None e = e
      by_held (Some name) e = let k : None ≡ Some name = sym none ∙ out.kept name e in cc

  over : count_left (removed_each (marks_by (left_of log) (past_of log)) places) ≡ 0 → step_on_hold next ≡ None
  over zero_left = by_held (step_on_hold next) refl
    where
      by_held : (o : Option StepName) → step_on_hold next ≡ o → step_on_hold next ≡ None
      by_held None e = e
      by_held (Some name) e =
          let k = held_counted next name legal e in
          let n = ap count_left out.marks ∙ zero_left in
          absurd (omega (arith, k, n))

  goes_on : (name : StepName) → step_on_hold log ≡ Some name → 1 ≤ count_left (removed_each (marks_by (left_of log) (past_of log)) places) → step_on_hold next ≡ Some name
  goes_on name was some = by_held (step_on_hold next) refl
    where
      by_held : (o : Option StepName) → step_on_hold next ≡ o → step_on_hold next ≡ Some name
      by_held None e =
          let none = nothing_counted (left_of next) (past_of next) (nothing_left next e) in
          let n = ap count_left out.marks in
          absurd (omega (arith, none, n, some))
      by_held (Some other) e = let k : Some name ≡ Some other = sym was ∙ out.kept other e in e ∙ sym k

  pub hold_fewer : (rs us : List StepRecord) (o p : Option Hold) → facts rs ≡ facts_of (past_of log) → facts us ≡ facts_of (past_of next) → TakesOut o places p → IsHoldOf log rs o → IsHoldOf next us p
  hold_fewer rs us None None old new takes h = out_none h
  hold_fewer rs us None (Some g) old new takes h = absurd takes
  hold_fewer rs us (Some h) None old new takes k = over (sym (ap (λ (l : List Bool). count_left (removed_each l places)) k.2) ∙ takes)
  hold_fewer rs us (Some h) (Some g) old new takes k =
      let e : facts (removed_each rs places) ≡ facts us =
      sym (removed_map (λ (r : StepRecord). r.fact) rs places) ∙ ap (λ (l : List Fact). removed_each l places) old ∙ removed_map (λ (x : TakenStep). x.fact) (past_of log) places
      ∙ ap facts_of (sym out.past) ∙ sym new in
      let marks : g.left.marks ≡ removed_each (marks_by (left_of log) (past_of log)) places = takes.1 ∙ ap (λ (l : List Bool). removed_each l places) k.2 in
      let some : 1 ≤ count_left (removed_each (marks_by (left_of log) (past_of log)) places) = subst (λ (l : List Bool). 1 ≤ count_left l) marks takes.3 in (
        goes_on h.step k.0 some ∙ ap Some (sym takes.0),
        left_facts (removed_each rs places) us g.left e (takes.2 rs k.1),
        marks ∙ sym out.marks,
      )

-- where all of these go of what remains and of what is left, they go at their places
pub all_out : (log next : Log) (s : Setting) (w : World) (all rest : List TakenStep) (places : List ℕ) → StandsAt log s w (past_of log) → past_of next ≡ without (steps s) all (past_of log) → left_of next ≡ without (steps s) all (left_of log)
    → ((name : StepName) → step_on_hold next ≡ Some name → step_on_hold log ≡ Some name) → Undoes s (past_of log) places (without (steps s) all (past_of log)) → IsOut log next places
all_out log next s w all rest places h past left kept undoes =
    let base = base_of log in
    let ts = past_of log in
    let have = steps_have_names s base (from_start log s w ts h) in
    let once : Once (steps s) base have ts = λ x y b. have.once ts w x y (is_run log s w ts h) b in
    let gone = undone_out s base have places ts (without (steps s) all ts) once undoes in
    record {
      past = past ∙ sym gone;
      marks = ap₂ marks_by left past ∙ sym (marks_rest s base have all (left_of log) ts) ∙ ap (marks_by (left_of log)) (sym gone) ∙ sym (marks_out (left_of log) ts places);
      kept = kept;
    }

-- and they can be taken out there
pub can_take_out : (log : Log) (s : Setting) (w : World) (rest : List TakenStep) (places : List ℕ) (rs : List StepRecord) (o : Option Hold) → StandsAt log s w (past_of log) → Undoes s (past_of log) places rest
    → IsHoldOf log rs o → length rs ≡ length (past_of log) → CanTakeOut o places
can_take_out log s w rest places rs None h undoes k many = tt
can_take_out log s w rest places rs (Some g) h undoes k many =
    let base = base_of log in
    let ts = past_of log in
    let have = steps_have_names s base (from_start log s w ts h) in
    subst (λ (n : ℕ). AreWithin n places) (sym (k.1.many ∙ many)) (undone_within s base have places ts rest (λ x y b. have.once ts w x y (is_run log s w ts h) b) undoes)

-- what is held was held
pub held_before : (log : Log) (e : Entry) (ss : List Step) → (after_entry log.begin (remainder log) e).held ≡ while_in ss (step_on_hold log) → (name : StepName) → step_on_hold (appended log e) ≡ Some name → step_on_hold log ≡ Some name
held_before log e ss while name h = (while_said ss (step_on_hold log) name (sym while ∙ sym (held_next log e) ∙ h)).0

-- ---- a hold begins

pub hold_begun : (log next : Log) (rs us : List StepRecord) (name : StepName) (h : Hold) → step_on_hold next ≡ Some name → left_of next ≡ consequences_of log name → past_of next ≡ past_of log → facts rs ≡ facts us → IsHoldFor log rs name h → IsHoldOf next us (Some h)
hold_begun log next rs us name h now left past e for =
    (now ∙ ap Some (sym for.0), left_facts rs us h.left e for.1, for.2 ∙ ap₂ marks_by (sym left) (sym past))

-- nothing is held where a hold would be refused
pub none_kept : (log : Log) (rs : List StepRecord) (o : Option Hold) → step_on_hold log ≡ None → IsHoldOf log rs o → o ≡ None
none_kept log rs None none h = refl
none_kept log rs (Some h) none k = let e : None ≡ Some h.step = sym none ∙ k.0 in cc

-- ---- places that are taken out one after another

-- what is left now, where these places are still to go
pub record IsRemoving (was now : Held) (places rest : List ℕ) : Type 0 where
  pub within : AreWithin (length now.marks) rest
  pub marks : removed_each now.marks rest ≡ removed_each was.marks places
  pub left : (rs : List StepRecord) → AreLeft rs was → (us : List StepRecord) × AreLeft us now × (removed_each us rest ≡ removed_each rs places)

pub removing_begins : (was : Held) (places : List ℕ) → AreWithin (length was.marks) places → IsRemoving was was places places
removing_begins was places within = record { within = within; marks = refl; left = λ rs left. (rs, left, refl) }

next_removed : (was now : Held) (places : List ℕ) (i : ℕ) → i < length places → IsRemoving was now places (drop i places) → IsRemoving was now places (get_or places i 0 ∷ drop (i + 1) places)
next_removed was now places i within h =
    let n : suc i ≡ i + 1 = omega arith in
    subst (λ (l : List ℕ). IsRemoving was now places l) (drop-cons places i 0 within ∙ ap (λ (k : ℕ). get_or places i 0 ∷ drop k places) n) h

pub removing_within : (was now : Held) (places : List ℕ) (i : ℕ) → i < length places → IsRemoving was now places (drop i places) → get_or places i 0 < length now.marks
removing_within was now places i within h = (next_removed was now places i within h).within.0

pub removing_goes_on : (was now next : Held) (places : List ℕ) (i : ℕ) → i < length places → IsRemoving was now places (drop i places) → next.marks ≡ remove now.marks (get_or places i 0)
    → ((rs : List StepRecord) → AreLeft rs now → AreLeft (remove rs (get_or places i 0)) next) → IsRemoving was next places (drop (i + 1) places)
removing_goes_on was now next places i within h marks left =
    let r = next_removed was now places i within h in
    record {
      within = subst (λ (n : ℕ). AreWithin n (drop (i + 1) places)) (sym (ap length marks ∙ shorter_by_one now.marks (get_or places i 0) r.within.0)) r.within.1;
      marks = ap (λ (l : List Bool). removed_each l (drop (i + 1) places)) marks ∙ r.marks;
      left = λ rs was_left. let u = r.left rs was_left in (remove u.0 (get_or places i 0), left u.0 u.1, u.2);
    }

pub removing_ends : (was now : Held) (places rest : List ℕ) → rest ≡ [] → IsRemoving was now places rest
    → (now.marks ≡ removed_each was.marks places) × ((rs : List StepRecord) → AreLeft rs was → AreLeft (removed_each rs places) now)
removing_ends was now places rest none h =
    let r = subst (λ (l : List ℕ). IsRemoving was now places l) none h in
    (r.marks, λ rs left. let u = r.left rs left in subst (λ (l : List StepRecord). AreLeft l now) u.2 u.1)
