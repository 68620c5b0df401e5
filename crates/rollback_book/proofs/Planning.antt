-- What is planned for a step, and is still planned as long as nothing was accepted since.
use Rattle.std.proofs.Common.{◌≡◌, ◌<◌, arith, ℕ, ◌+◌, List, [], ◌∷◌, ◌++◌, All, append_assoc, drop, get_or, length, length-append, map, zero, suc, refl, ap, ap₂, sym, subst, ◌∙◌, Option, None, Some, Ok}
use Rattle.std.specs.Prelude.{◌≤◌, ◌-◌, slice_get, reverse, option_map}
use Rattle.std.proofs.Math.Seq.{drop-cons}
use Rattle.std.proofs.lemmas.List.{append-nil, length-map, map-append}
use Rattle.std.proofs.lemmas.Option.{same_Some, slice_get-map, slice_get_within}
use Rattle.step_names.specs.declared.step.StepName.{StepName}
use Rattle.trace_theory.specs.Traces.{consequences}
use Rattle.saved_steps.specs.declared.fact.Fact.{Fact}
use Rattle.saved_steps.specs.declared.record.StepRecord.{StepRecord}
use Rattle.depends.specs.Instance.{steps}
use Rattle.depends.specs.Laws.{facts_of}
use Rattle.depends.specs.Plans.{plan}
use Rattle.depends.proofs.Searching.{facts}
use Rattle.step_history.specs.History.{TakenStep, IsPlanOf, history_records}
use Rattle.step_history.specs.Near.{near_behind}
use Rattle.book_log.specs.Answers.{plan_answer, names_of_facts}
use Rattle.book_log.specs.Log.{Log, past_of, setting_of}
use Rattle.book_log.specs.declared.entry.Entry.{Entry}
use Rattle.rollback_book.specs.Book.{BookView, BookInvariant, IsStepAt}
use Rattle.rollback_book.specs.Making.{ArePlacesOf}
use Rattle.book_events.specs.Planned.{IsPlanned, WasPlanned}
use Rattle.book_events.specs.declared.room.PlanRoom.{PlanRoom}
use Rattle.rollback_book.proofs.Commuted.{plan_allowed}
use Rattle.rollback_book.proofs.Tied.{facts_are, as_many_records}
use Rattle.rollback_book.proofs.Free.{Stood, stood, stood_by, plan_is, places_are}

-- ---- names at places

abbrev pub name_at : List StepRecord → ℕ → Option StepName
name_at rs place = option_map (λ (r : StepRecord). r.fact.name) (slice_get rs place)

name_by_fact : (rs : List StepRecord) (place : ℕ) → name_at rs place ≡ option_map (λ (f : Fact). f.name) (slice_get (facts rs) place)
name_by_fact [] place = refl
name_by_fact (r ∷ rs) zero = refl
name_by_fact (r ∷ rs) (suc place) = name_by_fact rs place

all_places : (ts xs : List TakenStep) (places : List ℕ) → map (slice_get ts) places ≡ map Some xs → (k d : ℕ) → k < length places → (x : TakenStep) × (slice_get ts (get_or places k d) ≡ Some x)
all_places ts xs [] h k d l = absurd (omega (arith, l))
all_places ts [] (p ∷ places) h k d l = cc
all_places ts (x ∷ xs) (p ∷ places) h zero d l = let e : slice_get ts p ≡ Some x = cc in (x, e)
all_places ts (x ∷ xs) (p ∷ places) h (suc k) d l = let e : map (slice_get ts) places ≡ map Some xs = cc in all_places ts xs places e k d (omega (arith, l))

names_by : (ts xs : List TakenStep) (rs : List StepRecord) (places : List ℕ) → facts rs ≡ facts_of ts → map (slice_get ts) places ≡ map Some xs → map (name_at rs) places ≡ map Some (names_of_facts xs)
names_by ts [] rs [] e h = refl
names_by ts (x ∷ xs) rs [] e h = cc
names_by ts [] rs (p ∷ places) e h = cc
names_by ts (x ∷ xs) rs (p ∷ places) e h =
    let here : slice_get ts p ≡ Some x = cc in
    let rest : map (slice_get ts) places ≡ map Some xs = cc in
    let own : name_at rs p ≡ Some x.fact.name =
    name_by_fact rs p ∙ ap (λ (fs : List Fact). option_map (λ (f : Fact). f.name) (slice_get fs p)) e
    ∙ ap (option_map (λ (f : Fact). f.name)) (slice_get-map (λ (t : TakenStep). t.fact) ts p ∙ ap (option_map (λ (t : TakenStep). t.fact)) here) in
    ap₂ (λ (o : Option StepName) (os : List (Option StepName)). o ∷ os) own (names_by ts xs rs places e rest)

some_names : (ns ms : List StepName) → map Some ns ≡ map Some ms → ns ≡ ms
some_names [] [] h = refl
some_names [] (m ∷ ms) h = cc
some_names (n ∷ ns) [] h = cc
some_names (n ∷ ns) (m ∷ ms) h =
    let here : Some n ≡ Some m = cc in
    let rest : map Some ns ≡ map Some ms = cc in
    ap₂ (λ (x : StepName) (xs : List StepName). x ∷ xs) (same_Some n m here) (some_names ns ms rest)

-- ---- a plan of a book

module _ (b : BookView) (tied : BookInvariant b) (name : StepName) (at : ℕ) (is_at : IsStepAt b name at) where
  planned_steps : (places : List ℕ) → places ≡ plan (facts (history_records b.history)) at
      → map (slice_get (past_of b.log)) places ≡ map Some (reverse (consequences (steps (setting_of b.log)) (past_of b.log) (stood b tied name at is_at).step.step))
  planned_steps places e = ap (map (slice_get (past_of b.log))) (e ∙ ap (λ (fs : List Fact). plan fs at) (facts_are b tied)) ∙ places_are b tied name at is_at

  pub places_within : (places : List ℕ) → places ≡ plan (facts (history_records b.history)) at → All (λ place. place < length (history_records b.history)) places
  places_within places e = λ k d l.
      let x = all_places (past_of b.log) (reverse (consequences (steps (setting_of b.log)) (past_of b.log) (stood b tied name at is_at).step.step)) places (planned_steps places e) k d l in
      let w = slice_get_within (past_of b.log) (get_or places k d) x.0 x.1 in
      let m = as_many_records b tied in
      omega (arith, w, m)

  pub names_planned : (places : List ℕ) (names : List StepName) → places ≡ plan (facts (history_records b.history)) at → map Some names ≡ map (name_at (history_records b.history)) places → plan_answer b.log name ≡ Ok names
  names_planned places names e h =
      let xs = reverse (consequences (steps (setting_of b.log)) (past_of b.log) (stood b tied name at is_at).step.step) in
      plan_is b tied name at is_at
      ∙ ap Ok (sym (some_names names (names_of_facts xs) (h ∙ names_by (past_of b.log) xs (history_records b.history) places (facts_are b tied) (planned_steps places e))))

  pub planned : (r : PlanRoom) → r.step ≡ name → r.places ≡ plan (facts (history_records b.history)) at → map Some r.names ≡ map (name_at (history_records b.history)) r.places
      → map Some r.undone ≡ map (name_at (history_records b.history)) r.places → length b.log.entries ≡ r.entries
      → length r.places ≤ r.looks → r.looks ≤ length (history_records b.history) - at → r.looks ≤ 1 + near_behind (facts (history_records b.history)) r.places at → IsPlanned b.log r
  planned r step places names undone entries members from near =
      let t = stood b tied name at is_at in
      let told : slice_get (facts_of (past_of b.log)) at ≡ Some t.step.fact = slice_get-map (λ (x : TakenStep). x.fact) (past_of b.log) at ∙ ap (option_map (λ (x : TakenStep). x.fact)) t.there in
      record {
        names = ap (plan_answer b.log) step ∙ names_planned r.places r.names places names;
        kept = some_names r.undone r.names (undone ∙ sym names);
        entries = entries;
        at = at;
        there = ap (option_map (λ (f : Fact). f.name)) told ∙ ap Some (t.fact ∙ sym step);
        places = places ∙ ap (λ (fs : List Fact). plan fs at) (facts_are b tied);
        members = members;
        from = subst (λ (fs : List Fact). r.looks ≤ length fs - at) (facts_are b tied) (subst (λ (n : ℕ). r.looks ≤ n - at) (sym (length-map (history_records b.history) (λ (x : StepRecord). x.fact))) from);
        near = subst (λ (fs : List Fact). r.looks ≤ 1 + near_behind fs r.places at) (facts_are b tied) near;
        order = plan_allowed b.log tied.legal name r.names (names_planned r.places r.names places names);
      }

-- ---- later

nothing_later : (entries front later : List Entry) → entries ≡ front ++ later → length entries ≡ length front → front ≡ entries
nothing_later entries front [] e n = sym (e ∙ append-nil front)
nothing_later entries front (x ∷ later) e n = let l = ap length e in let a = length-append front (x ∷ later) in absurd (omega (arith, l, a, n))

pub still_planned : (log : Log) (r : PlanRoom) → WasPlanned log r → length log.entries ≡ r.entries → IsPlanned log r
still_planned log r was n =
    let same = nothing_later log.entries was.front was.later was.parts (n ∙ sym was.planned.entries) in
    subst (λ (entries : List Entry). IsPlanned (record { begin = log.begin; entries = entries }) r) same was.planned

fact_named : (o : Option Fact) (name : StepName) → option_map (λ (f : Fact). f.name) o ≡ Some name → (f : Fact) × (o ≡ Some f) × (f.name ≡ name)
fact_named None name h = cc
fact_named (Some f) name h = (f, refl, same_Some f.name name h)

-- the places of a room are those of its names
pub places_of : (log : Log) (r : PlanRoom) → IsPlanned log r → ArePlacesOf log r.step r.undone r.places
places_of log r p = record { names = p.names ∙ ap (λ (ns : List StepName). Ok ns) (sym p.kept); at = p.at; there = p.there; are = p.places }

module _ (b : BookView) (tied : BookInvariant b) (name : StepName) (undone : List StepName) (places : List ℕ) (p : ArePlacesOf b.log name undone places) where
  pub planned_step : Stood b name p.at
  planned_step = let f = fact_named (slice_get (facts_of (past_of b.log)) p.at) name p.there in stood_by b tied name p.at f.0 f.1 f.2

  pub plan_of : IsPlanOf b.history places
  plan_of = (p.at, planned_step.within, p.are ∙ ap (λ (fs : List Fact). plan fs p.at) (sym (facts_are b tied)))

-- a rollback that is planned at a place is made
pub made_rollback : (b : BookView) (tied : BookInvariant b) (name : StepName) (at : ℕ) → IsStepAt b name at → (places : List ℕ) (undone : List StepName) → places ≡ plan (facts (history_records b.history)) at
    → map Some undone ≡ map (name_at (history_records b.history)) places → ArePlacesOf b.log name undone places
made_rollback b tied name at is_at places undone planned named =
    let t = stood b tied name at is_at in
    let told : slice_get (facts_of (past_of b.log)) at ≡ Some t.step.fact = slice_get-map (λ (x : TakenStep). x.fact) (past_of b.log) at ∙ ap (option_map (λ (x : TakenStep). x.fact)) t.there in
    record {
      names = names_planned b tied name at is_at places undone planned named;
      at = at;
      there = ap (option_map (λ (f : Fact). f.name)) told ∙ ap Some t.fact;
      are = planned ∙ ap (λ (fs : List Fact). plan fs at) (facts_are b tied);
    }

-- ---- names that are copied one by one

pub one_name : (rs : List StepRecord) (places : List ℕ) (i : ℕ) (r : StepRecord) (names : List StepName) (name : StepName) (more : List StepName) → i < length places
    → slice_get rs (get_or places i 0) ≡ Some r → name ≡ r.fact.name → more ≡ names ++ name ∷ []
    → map Some more ++ map (name_at rs) (drop (i + 1) places) ≡ map Some names ++ map (name_at rs) (drop i places)
one_name rs places i r names name more within here named e =
    let n : suc i ≡ i + 1 = omega arith in
    let next : drop i places ≡ get_or places i 0 ∷ drop (i + 1) places = drop-cons places i 0 within ∙ ap (λ (k : ℕ). get_or places i 0 ∷ drop k places) n in
    let own : name_at rs (get_or places i 0) ≡ Some name = ap (option_map (λ (x : StepRecord). x.fact.name)) here ∙ ap Some (sym named) in
    ap (λ (l : List StepName). map Some l ++ map (name_at rs) (drop (i + 1) places)) e
    ∙ ap (λ (l : List (Option StepName)). l ++ map (name_at rs) (drop (i + 1) places)) (map-append Some names (name ∷ []))
    ∙ append_assoc (map Some names) (Some name ∷ []) (map (name_at rs) (drop (i + 1) places))
    ∙ ap (λ (o : Option StepName). map Some names ++ o ∷ map (name_at rs) (drop (i + 1) places)) (sym own)
    ∙ ap (λ (l : List ℕ). map Some names ++ map (name_at rs) l) (sym next)
