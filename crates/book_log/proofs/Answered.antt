-- What an answer says of the steps that remain, and when it is given.
use Rattle.std.proofs.Common.{◌≡◌, Bool, true, false, List, [], ◌∷◌, ◌++◌, refl, ap, ap₂, sym, subst, ◌∙◌, inl, inr, Option, None, Some, Ok}
use Rattle.std.specs.List.{find, list_any}
use Rattle.std.proofs.lemmas.Option.{same_Some}
use Rattle.step_names.specs.declared.step.StepName.{StepName}
use Rattle.trace_theory.specs.Traces.{In, IsMaximal}
use Rattle.trace_theory.proofs.Lists.{by_bool, here, place, In-front}
use Rattle.trace_theory.proofs.Least.{not_in_front, Once}
use Rattle.trace_theory.proofs.Records.{free_record, record_free}
use Rattle.depends.specs.Steps.{name_of}
use Rattle.depends.specs.World.{Setting, World, is_same_step}
use Rattle.depends.specs.Fact.{Fact}
use Rattle.depends.specs.Dependence.{depends_directly}
use Rattle.depends.specs.Instance.{TakenStep, steps}
use Rattle.depends.specs.Laws.{facts_of}
use Rattle.depends.proofs.Named.{steps_have_names}
use Rattle.book_log.specs.Answers.{from_step, free_answer, found_answer, absent, undo_answer}
use Rattle.book_log.specs.Log.{Log, base_of, past_of}
use Rattle.book_log.specs.declared.refusal.Refusal.{Refusal}
use Rattle.book_log.proofs.Standing.{StandsAt, step_same, step_itself, from_start, past_there, is_run, fact_named}

-- ---- the step of a name

-- the first of some steps that has this name
pub record Found (name : StepName) (ts : List TakenStep) (f : Fact) (later : List Fact) : Type 0 where
  pub front : List TakenStep
  pub back : List TakenStep
  pub step : TakenStep
  pub whole : ts ≡ front ++ step ∷ back
  pub fact : step.fact ≡ f
  pub behind : facts_of back ≡ later
  pub named : name ≡ f.name

found_first : (name : StepName) (ts : List TakenStep) (t : TakenStep) (f : Fact) (later : List Fact) → is_same_step name t.fact.name ≡ true → ◌≡◌ {A = Fact × List Fact} (t.fact, facts_of ts) (f, later) → Found name (t ∷ ts) f later
found_first name ts t f later k e =
    let fact : t.fact ≡ f = ap (λ (p : Fact × List Fact). p.0) e in
    record { front = []; back = ts; step = t; whole = refl; fact = fact; behind = ap (λ (p : Fact × List Fact). p.1) e; named = step_same name t.fact.name k ∙ ap (λ (x : Fact). x.name) fact }

found_behind : (name : StepName) (ts : List TakenStep) (t : TakenStep) (f : Fact) (later : List Fact) → Found name ts f later → Found name (t ∷ ts) f later
found_behind name ts t f later r = record { front = t ∷ r.front; back = r.back; step = r.step; whole = ap (λ (l : List TakenStep). t ∷ l) r.whole; fact = r.fact; behind = r.behind; named = r.named }

pub found_by : (name : StepName) (ts : List TakenStep) (f : Fact) (later : List Fact) → from_step name (facts_of ts) ≡ Some (f, later) → Found name ts f later
found_by name [] f later h = cc
found_by name (t ∷ ts) f later h =
    by_bool (is_same_step name t.fact.name) _
    (λ k. found_first name ts t f later k (same_Some _ _ (rw k at h)))
    (λ k. found_behind name ts t f later (found_by name ts f later (rw k at h)))

pub found_at : (name : StepName) (front back : List TakenStep) (t : TakenStep) → ((y : TakenStep) → In y front → is_same_step name y.fact.name ≡ false) → is_same_step name t.fact.name ≡ true → from_step name (facts_of (front ++ t ∷ back)) ≡ Some (t.fact, facts_of back)
found_at name [] back t h k = rw k refl
found_at name (z ∷ front) back t h k = let e = h z (inl refl) in rw e (found_at name front back t (λ y i. h y (inr i)) k)

pub none_found : (p : Fact → Bool) (ts : List TakenStep) → find p (facts_of ts) ≡ None → list_any (λ t. p t.fact) ts ≡ false
none_found p [] h = refl
none_found p (t ∷ ts) h = by_bool (p t.fact) _ (λ k. let e = rw k at h in cc) (λ k. rw k (none_found p ts (rw k at h)))

found_none : (p : Fact → Bool) (ts : List TakenStep) → list_any (λ t. p t.fact) ts ≡ false → find p (facts_of ts) ≡ None
found_none p [] h = refl
found_none p (t ∷ ts) h = by_bool (p t.fact) _ (λ k. let e = rw k at h in cc) (λ k. rw k (found_none p ts (rw k at h)))

-- ---- undo

free_said : (name n : StepName) (o : Option Fact) → free_answer name o ≡ Ok n → (o ≡ None) × (name ≡ n)
free_said name n None h = (refl, cc)
free_said name n (Some f) h = cc

found_said : (gone : Refusal) (name n : StepName) (o : Option (Fact × List Fact)) → found_answer gone name o ≡ Ok n → (p : Fact × List Fact) × (o ≡ Some p) × (find (depends_directly p.0) p.1 ≡ None) × (name ≡ n)
found_said gone name n None h = cc
found_said gone name n (Some p) h = let k = free_said name n (find (depends_directly p.0) p.1) h in (p, refl, k.0, k.1)

-- a step that remains under a name, and is free
pub record FreeNamed (s : Setting) (ts : List TakenStep) (name : StepName) : Type 0 where
  pub step : TakenStep
  pub fact : step.fact.name ≡ name
  pub named : name_of step.step ≡ name
  pub free : IsMaximal (steps s) ts step

module _ (log : Log) (s : Setting) (w : World) (ts : List TakenStep) (h : StandsAt log s w ts) where
  pub once : Once (steps s) (base_of log) (steps_have_names s (base_of log) (from_start log s w ts h)) ts
  once x y b = (steps_have_names s (base_of log) (from_start log s w ts h)).once ts w x y (is_run log s w ts h) b

  free_found : (name : StepName) (f : Fact) (later : List Fact) → Found name ts f later → find (depends_directly f) later ≡ None → FreeNamed s ts name
  free_found name f later g none =
      let none_behind : find (depends_directly g.step.fact) (facts_of g.back) ≡ None = ap₂ (λ (x : Fact) (l : List Fact). find (depends_directly x) l) g.fact g.behind ∙ none in
      let o = subst (Once (steps s) (base_of log) (steps_have_names s (base_of log) (from_start log s w ts h))) g.whole once in
      let free = free_record (steps s) (base_of log) (steps_have_names s (base_of log) (from_start log s w ts h)) g.front g.back g.step o (none_found (depends_directly g.step.fact) g.back none_behind) in
      let fact : g.step.fact.name ≡ name = ap (λ (x : Fact). x.name) g.fact ∙ sym g.named in
      let there : In g.step ts = subst (In g.step) (sym g.whole) (here g.step g.front g.back) in
      record { step = g.step; fact = fact; named = sym (fact_named log s w ts h g.step there) ∙ fact; free = subst (λ l. IsMaximal (steps s) l g.step) (sym g.whole) free }

  -- what is told to be undone is free
  pub undo_said : (name n : StepName) → undo_answer log name ≡ Ok n → FreeNamed s ts name × (name ≡ n)
  unfolding undo_answer
  undo_said name n a =
      let k = found_said (absent log name) name n (from_step name (facts_of (past_of log))) a in
      (free_found name k.0.0 k.0.1 (found_by name ts k.0.0 k.0.1 (ap (λ (l : List TakenStep). from_step name (facts_of l)) (sym (past_there log s w ts h)) ∙ k.1)) k.2, k.3)

  -- where a step of this name is found
  pub step_found : (t : TakenStep) (name : StepName) (front back : List TakenStep) → ts ≡ front ++ t ∷ back → name_of t.step ≡ name → from_step name (facts_of (past_of log)) ≡ Some (t.fact, facts_of back)
  step_found t name front back whole named =
      let o = subst (Once (steps s) (base_of log) (steps_have_names s (base_of log) (from_start log s w ts h))) whole once in
      let there : In t ts = subst (In t) (sym whole) (here t front back) in
      ap (λ (l : List TakenStep). from_step name (facts_of l)) (past_there log s w ts h ∙ whole)
      ∙ found_at name front back t
      (λ y i. ap₂ (λ (a b : StepName). is_same_step a b) (sym named) (fact_named log s w ts h y (subst (In y) (sym whole) (In-front y front (t ∷ back) i)))
      ∙ not_in_front (steps s) (base_of log) (steps_have_names s (base_of log) (from_start log s w ts h)) front back t o y i)
      (ap (is_same_step name) (fact_named log s w ts h t there ∙ named) ∙ step_itself name)

  -- a free step is told to be undone
  pub free_undone : (t : TakenStep) (name : StepName) → IsMaximal (steps s) ts t → name_of t.step ≡ name → undo_answer log name ≡ Ok name
  unfolding undo_answer
  free_undone t name free named =
      let p = place t ts free.0 in
      let none = found_none (depends_directly t.fact) p.back (record_free (steps s) (base_of log) (steps_have_names s (base_of log) (from_start log s w ts h)) p.front p.back t (subst (λ l. IsMaximal (steps s) l t) p.whole free)) in
      ap (found_answer (absent log name) name) (step_found t name p.front p.back p.whole named) ∙ ap (free_answer name) none
