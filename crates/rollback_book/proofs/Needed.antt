-- What is found among marked records is the earliest step that is left on which another would depend.
use Rattle.std.proofs.Common.{◌≡◌, ◌<◌, arith, ℕ, zero, suc, Bool, true, false, List, [], ◌∷◌, ◌++◌, length, map, refl, ap, ap₂, sym, subst, ◌∙◌, Option, None, Some}
use Rattle.std.specs.Prelude.{filter, slice_get, option_map}
use Rattle.std.specs.List.{find}
use Rattle.std.proofs.lemmas.Option.{same_Some, slice_get-map, slice_get_within}
use Rattle.step_names.specs.declared.step.StepName.{StepName}
use Rattle.trace_theory.proofs.Lists.{by_bool}
use Rattle.saved_steps.specs.declared.fact.Fact.{Fact}
use Rattle.saved_steps.specs.declared.record.StepRecord.{StepRecord}
use Rattle.depends.specs.Dependence.{depends_directly}
use Rattle.depends.specs.Laws.{facts_of}
use Rattle.depends.proofs.Named.{steps_have_names}
use Rattle.depends.proofs.Searching.{facts}
use Rattle.step_history.specs.History.{TakenStep, history_records}
use Rattle.step_history.proofs.Left.{step_there}
use Rattle.step_index.specs.Held.{IsLastLeft}
use Rattle.book_log.specs.Answers.{needed_left}
use Rattle.book_log.specs.Legal.{IsLegal}
use Rattle.book_log.specs.Log.{Log, base_of, step_on_hold, left_by, left_of, past_of, setting_of, world_of}
use Rattle.book_log.proofs.HoldSaid.{needs_none}
use Rattle.book_log.proofs.Holding.{left_there}
use Rattle.book_log.proofs.LegalRuns.{legal_stands}
use Rattle.book_log.proofs.Standing.{from_start, is_run}
use Rattle.rollback_book.specs.Book.{BookView, BookInvariant}
use Rattle.rollback_book.specs.Holding.{IsFirstNeeded, IsHoldOf}
use Rattle.rollback_book.specs.Ready.{HasRoomUnlessHeld, MayEnter}
use Rattle.rollback_book.specs.declared.hold.Hold.{Hold}
use Rattle.rollback_book.proofs.HoldMade.{marked_after}
use Rattle.rollback_book.proofs.Marks.{is_marked}
use Rattle.rollback_book.proofs.Tied.{as_many_records, facts_are}

module _ (p : Fact → Bool) (q : TakenStep → Bool) where
  none_marked : (ts : List TakenStep) (rs : List StepRecord) (ms : List Bool) → facts rs ≡ facts_of ts → ms ≡ map q ts
      → ((k : ℕ) (g : StepRecord) → slice_get rs k ≡ Some g → slice_get ms k ≡ Some true → p g.fact ≡ false) → find p (facts_of (filter q ts)) ≡ None
  none_marked [] rs ms e marks h = refl
  none_marked (t ∷ ts) [] ms e marks h = cc
  none_marked (t ∷ ts) (r ∷ rs) [] e marks h = cc
  none_marked (t ∷ ts) (r ∷ rs) (m ∷ ms) e marks h =
      let own : r.fact ≡ t.fact = cc in
      let mark : m ≡ q t = cc in
      let rest = none_marked ts rs ms (let x : facts rs ≡ facts_of ts = cc in x) (let x : ms ≡ map q ts = cc in x) (λ k g i j. h (suc k) g i j) in
      by_bool (q t) _
      (λ k. let f : p t.fact ≡ false = ap p (sym own) ∙ h zero r refl (ap Some (mark ∙ k)) in rw (k, f) rest)
      (λ k. rw k rest)

  first_marked : (ts : List TakenStep) (rs : List StepRecord) (ms : List Bool) → facts rs ≡ facts_of ts → ms ≡ map q ts → (i : ℕ) (r : StepRecord) → slice_get rs i ≡ Some r → slice_get ms i ≡ Some true → p r.fact ≡ true
      → ((k : ℕ) (g : StepRecord) → slice_get rs k ≡ Some g → k < i → slice_get ms k ≡ Some true → p g.fact ≡ false) → find p (facts_of (filter q ts)) ≡ Some r.fact
  first_marked ts [] ms e marks i r there left passes before = cc
  first_marked [] (x ∷ rs) ms e marks i r there left passes before = cc
  first_marked (t ∷ ts) (x ∷ rs) [] e marks i r there left passes before = cc
  first_marked (t ∷ ts) (x ∷ rs) (m ∷ ms) e marks zero r there left passes before =
      let own : x.fact ≡ t.fact = cc in
      let mark : m ≡ q t = cc in
      let same = same_Some x r there in
      let k : q t ≡ true = sym mark ∙ same_Some m true left in
      let f : p t.fact ≡ true = ap p (sym own) ∙ ap (λ (y : StepRecord). p y.fact) same ∙ passes in
      rw (k, f) (ap Some (sym own ∙ ap (λ (y : StepRecord). y.fact) same))
  first_marked (t ∷ ts) (x ∷ rs) (m ∷ ms) e marks (suc i) r there left passes before =
      let own : x.fact ≡ t.fact = cc in
      let mark : m ≡ q t = cc in
      let rest = first_marked ts rs ms (let y : facts rs ≡ facts_of ts = cc in y) (let y : ms ≡ map q ts = cc in y) i r there left passes (λ k g a l j. before (suc k) g a (omega (arith, l)) j) in
      by_bool (q t) _
      (λ k. let f : p t.fact ≡ false = ap p (sym own) ∙ before zero x refl (omega arith) (ap Some (mark ∙ k)) in rw (k, f) rest)
      (λ k. rw k rest)

-- what is left is what is marked of the past
left_marked : (log : Log) (name : StepName) → IsLegal log → step_on_hold log ≡ Some name → filter (is_marked (left_of log)) (past_of log) ≡ left_of log
left_marked log name legal e =
    let s = setting_of log in
    let w = world_of log in
    let ts = past_of log in
    let h = legal_stands log legal in
    let have = steps_have_names s (base_of log) (from_start log s w ts h) in
    let left = left_there log s w ts h ∙ ap (left_by s ts) e in
    ap (λ (l : List TakenStep). filter (is_marked l) ts) left ∙ marked_after s (base_of log) have ts name (λ x y b. have.once ts w x y (is_run log s w ts h) b) ∙ sym left

module _ (b : BookView) (tied : BookInvariant b) (h : Hold) (f : Fact) (is : IsHoldOf b.log (history_records b.history) (Some h)) where
  by_past : needed_left b.log f ≡ find (λ (x : Fact). depends_directly x f) (facts_of (filter (is_marked (left_of b.log)) (past_of b.log)))
  by_past = ap (λ (l : List TakenStep). find (λ (x : Fact). depends_directly x f) (facts_of l)) (sym (left_marked b.log h.step tied.legal is.0))

  pub none_needed : (found : Option ℕ) → IsFirstNeeded (history_records b.history) h.left f found → found ≡ None → needed_left b.log f ≡ None
  none_needed None k e =
      by_past ∙ none_marked (λ (x : Fact). depends_directly x f) (is_marked (left_of b.log)) (past_of b.log) (history_records b.history) h.left.marks (facts_are b tied) is.2 (λ i g there left. k.0 i g there (omega arith) left)
  none_needed (Some i) k e = cc

  pub one_needed : (found : Option ℕ) (i : ℕ) (r : StepRecord) → IsFirstNeeded (history_records b.history) h.left f found → found ≡ Some i → slice_get (history_records b.history) i ≡ Some r → needed_left b.log f ≡ Some r.fact
  one_needed None i r k e there = cc
  one_needed (Some j) i r k e there =
      let at : j ≡ i = same_Some j i e in
      let g = k.0.1 in
      let same : g.0 ≡ r = same_Some g.0 r (sym g.1 ∙ ap (slice_get (history_records b.history)) at ∙ there) in
      let first = first_marked (λ (x : Fact). depends_directly x f) (is_marked (left_of b.log)) (past_of b.log) (history_records b.history) h.left.marks (facts_are b tied) is.2 j g.0 g.1 k.1 g.2 (λ n x a l left. k.0.2 n x a (omega arith) l left) in
      by_past ∙ first ∙ ap (λ (x : StepRecord). Some x.fact) same

  -- and it is there
  pub needed_there : (found : Option ℕ) (i : ℕ) → IsFirstNeeded (history_records b.history) h.left f found → found ≡ Some i → (r : StepRecord) × (slice_get (history_records b.history) i ≡ Some r)
  needed_there None i k e = cc
  needed_there (Some j) i k e = (k.0.1.0, ap (slice_get (history_records b.history)) (sym (same_Some j i e)) ∙ k.0.1.1)

-- where nothing is held, a step for which there is room may be entered
pub unheld_may : (b : BookView) (tied : BookInvariant b) (f : Fact) → b.held ≡ None → HasRoomUnlessHeld b.log → MayEnter b.log f
unheld_may b tied f none room =
    let unheld : step_on_hold b.log ≡ None = subst (λ (o : Option Hold). IsHoldOf b.log (history_records b.history) o) none tied.held in
    (needs_none b.log unheld f, room unheld)

-- ---- the latest that is left

module _ (q : TakenStep → Bool) where
  none_kept : (ts : List TakenStep) → ((k : ℕ) (u : TakenStep) → slice_get ts k ≡ Some u → q u ≡ false) → filter q ts ≡ []
  none_kept [] h = refl
  none_kept (t ∷ ts) h = let e = h zero t refl in rw e (none_kept ts (λ k u i. h (suc k) u i))

  last_kept : (ts : List TakenStep) (i : ℕ) (t : TakenStep) → slice_get ts i ≡ Some t → q t ≡ true → ((k : ℕ) (u : TakenStep) → i < k → slice_get ts k ≡ Some u → q u ≡ false) → (front : List TakenStep) × (filter q ts ≡ front ++ t ∷ [])
  last_kept [] i t there own none = cc
  last_kept (u ∷ ts) zero t there own none =
      let same = same_Some u t there in
      let e : q u ≡ true = ap q same ∙ own in
      let rest = none_kept ts (λ k x j. none (suc k) x (omega arith) j) in
      ([], rw e (ap₂ (λ (x : TakenStep) (l : List TakenStep). x ∷ l) same rest))
  last_kept (u ∷ ts) (suc i) t there own none =
      let r = last_kept ts i t there own (λ k x l j. none (suc k) x (omega (arith, l)) j) in
      by_bool (q u) _
      (λ k. (u ∷ r.0, rw k (ap (λ (l : List TakenStep). u ∷ l) r.1)))
      (λ k. (r.0, rw k r.1))

module _ (b : BookView) (tied : BookInvariant b) (h : Hold) (is : IsHoldOf b.log (history_records b.history) (Some h)) where
  mark_of : (k : ℕ) (t : TakenStep) → slice_get (past_of b.log) k ≡ Some t → slice_get h.left.marks k ≡ Some (is_marked (left_of b.log) t)
  mark_of k t there = ap (λ (l : List Bool). slice_get l k) is.2 ∙ slice_get-map (is_marked (left_of b.log)) (past_of b.log) k ∙ ap (option_map (is_marked (left_of b.log))) there

  unmarked_where : (k : ℕ) (t : TakenStep) → slice_get (past_of b.log) k ≡ Some t → (slice_get h.left.marks k ≡ Some true → ⊥) → is_marked (left_of b.log) t ≡ false
  unmarked_where k t there none = by_bool (is_marked (left_of b.log) t) _ (λ m. absurd (none (mark_of k t there ∙ ap Some m))) (λ m. m)

  pub no_last : (last : Option ℕ) → IsLastLeft h.left.marks last → last ≡ None → left_of b.log ≡ []
  no_last None l e = sym (left_marked b.log h.step tied.legal is.0) ∙ none_kept (is_marked (left_of b.log)) (past_of b.log) (λ k t there. unmarked_where k t there (l k))
  no_last (Some i) l e = cc

  pub last_within : (last : Option ℕ) (i : ℕ) → IsLastLeft h.left.marks last → last ≡ Some i → i < length (history_records b.history)
  last_within None i l e = cc
  last_within (Some j) i l e =
      let at = same_Some j i e in
      let k = slice_get_within h.left.marks j true l.0 in
      let n = is.1.many in
      omega (arith, at, k, n)

  pub last_is : (last : Option ℕ) (i : ℕ) (r : StepRecord) → IsLastLeft h.left.marks last → last ≡ Some i → slice_get (history_records b.history) i ≡ Some r → (front : List TakenStep) × (x : TakenStep) × (left_of b.log ≡ front ++ x ∷ []) × (x.fact.name ≡ r.fact.name)
  last_is None i r l e there = cc
  last_is (Some j) i r l e there =
      let at = same_Some j i e in
      let within = slice_get_within (history_records b.history) i r there in
      let many = as_many_records b tied in
      let t = step_there (past_of b.log) j (omega (arith, at, within, many)) in
      let own : is_marked (left_of b.log) t.0 ≡ true = same_Some _ true (sym (mark_of j t.0 t.1) ∙ l.0) in
      let front = last_kept (is_marked (left_of b.log)) (past_of b.log) j t.0 t.1 own (λ k u above here. unmarked_where k u here (l.1 k above)) in
      let fact : t.0.fact ≡ r.fact =
      same_Some t.0.fact r.fact (sym (slice_get-map (λ (x : TakenStep). x.fact) (past_of b.log) j ∙ ap (option_map (λ (x : TakenStep). x.fact)) t.1)
      ∙ ap (λ (fs : List Fact). slice_get fs j) (sym (facts_are b tied)) ∙ slice_get-map (λ (x : StepRecord). x.fact) (history_records b.history) j
      ∙ ap (λ (n : ℕ). option_map (λ (x : StepRecord). x.fact) (slice_get (history_records b.history) n)) at ∙ ap (option_map (λ (x : StepRecord). x.fact)) there) in
      (front.0, t.0, sym (left_marked b.log h.step tied.legal is.0) ∙ front.1, ap (λ (f : Fact). f.name) fact)
