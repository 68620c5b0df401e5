-- A plan that is undone place by place.
use Rattle.std.proofs.Common.{◌≡◌, ◌<◌, arith, ℕ, ◌+◌, suc, List, [], ◌∷◌, drop, get_or, length, ap, sym, subst, ◌∙◌, None, Some}
use Rattle.std.specs.Prelude.{slice_get}
use Rattle.std.proofs.Math.Seq.{drop-cons}
use Rattle.std.proofs.lemmas.Option.{slice_get_within}
use Rattle.saved_steps.specs.World.{Setting, World}
use Rattle.saved_steps.specs.declared.fact.Fact.{Fact}
use Rattle.trace_theory.specs.Traces.{IsMaximal, without, consequences}
use Rattle.depends.specs.Instance.{steps}
use Rattle.depends.specs.Laws.{facts_of}
use Rattle.depends.specs.Plans.{first_dependent, plan}
use Rattle.depends.proofs.Searching.{facts}
use Rattle.step_history.specs.History.{TakenStep, IsHistory, IsSomeHistory, IsPlanOf}
use Rattle.step_history.specs.declared.history.History.{History}
use Rattle.step_history.proofs.Left.{as_many, facts_alike, step_there, no_dependent}
use Rattle.step_history.proofs.Planned.{Undoes, plan_undoes}
use Rattle.saved_steps.specs.Held.{world_view, store_of}

-- what is there now is a history, and the places that are left undo what is left of the plan
abbrev pub RollsBack : History → List ℕ → History → List ℕ → Type 0
RollsBack was planned now places =
    (s : Setting) (base : World) (ts : List TakenStep) (at : ℕ) (t : TakenStep) → IsHistory s base ts was → slice_get ts at ≡ Some t → planned ≡ plan (facts_of ts) at
    → (us : List TakenStep) × IsHistory s base us now × Undoes s us places (without (steps s) (consequences (steps s) ts t.step) ts)

pub begins : (was : History) (planned places : List ℕ) → places ≡ planned → RollsBack was planned was places
begins was planned places same s base ts at t is here e =
    (ts, is, subst (λ (l : List ℕ). Undoes s ts l (without (steps s) (consequences (steps s) ts t.step) ts)) (sym (same ∙ e)) (plan_undoes s base (world_view was.world) ts at t is.from is.runs here))

pub next_place : (s : Setting) (us : List TakenStep) (places : List ℕ) (i : ℕ) (rest : List TakenStep) → i < length places → Undoes s us (drop i places) rest
    → (x : TakenStep) × (slice_get us (get_or places i 0) ≡ Some x) × IsMaximal (steps s) us x × Undoes s (without (steps s) (x ∷ []) us) (drop (i + 1) places) rest
next_place s us places i rest within h =
    let n : suc i ≡ i + 1 = omega arith in
    subst (λ (l : List ℕ). Undoes s us l rest) (drop-cons places i 0 within ∙ ap (λ (k : ℕ). get_or places i 0 ∷ drop k places) n) h

-- the step at a place is free
pub record FreeAt (h : History) (place : ℕ) : Type 0 where
  pub within : place < length h.records.items
  pub some : IsSomeHistory h
  pub none : first_dependent (facts h.records.items) place ≡ None

pub free_next : (was now : History) (planned places : List ℕ) (i : ℕ) → IsSomeHistory was → IsPlanOf was planned → i < length places → RollsBack was planned now (drop i places) → FreeAt now (get_or places i 0)
free_next was now planned places i some of within rolls =
    let s = some.0 in
    let base = some.1 in
    let many = as_many (store_of was.world) was.records.items some.2 some.3.records in
    let t = step_there some.2 of.0 (let k = of.1 in omega (arith, k, many)) in
    let e : planned ≡ plan (facts_of some.2) of.0 = of.2 ∙ ap (λ (l : List Fact). plan l of.0) (facts_alike (store_of was.world) was.records.items some.2 some.3.records) in
    let r = rolls s base some.2 of.0 t.0 some.3 t.1 e in
    let x = next_place s r.0 places i (without (steps s) (consequences (steps s) some.2 t.0.step) some.2) within r.2 in
    record {
      within = (let k = slice_get_within r.0 (get_or places i 0) x.0 x.1 in let m = as_many (store_of now.world) now.records.items r.0 r.1.records in omega (arith, k, m));
      some = (s, base, r.0, r.1);
      none = no_dependent s base r.0 (get_or places i 0) x.0 now r.1 x.1 x.2;
    }

-- one more place undone
pub goes_on : (was now after_it : History) (planned places : List ℕ) (i : ℕ) → i < length places → RollsBack was planned now (drop i places)
    → ((s : Setting) (base : World) (us : List TakenStep) (x : TakenStep) → IsHistory s base us now → slice_get us (get_or places i 0) ≡ Some x → IsHistory s base (without (steps s) (x ∷ []) us) after_it)
    → RollsBack was planned after_it (drop (i + 1) places)
goes_on was now after_it planned places i within rolls undone s base ts at t is here e =
    let r = rolls s base ts at t is here e in
    let x = next_place s r.0 places i (without (steps s) (consequences (steps s) ts t.step) ts) within r.2 in
    (without (steps s) (x.0 ∷ []) r.0, undone s base r.0 x.0 r.1 x.1, x.3)

-- all undone
pub ends : (was now : History) (planned places : List ℕ) → places ≡ [] → RollsBack was planned now places
    → (s : Setting) (base : World) (ts : List TakenStep) (at : ℕ) (t : TakenStep) → IsHistory s base ts was → slice_get ts at ≡ Some t → planned ≡ plan (facts_of ts) at
    → IsHistory s base (without (steps s) (consequences (steps s) ts t.step) ts) now
ends was now planned places none rolls s base ts at t is here e =
    let r = rolls s base ts at t is here e in
    let same : r.0 ≡ without (steps s) (consequences (steps s) ts t.step) ts = subst (λ (l : List ℕ). Undoes s r.0 l (without (steps s) (consequences (steps s) ts t.step) ts)) none r.2 in
    subst (λ (l : List TakenStep). IsHistory s base l now) same r.1
