-- When a step is undone, and for which step its undoing is refused.
use Rattle.std.proofs.Common.{◌≡◌, Bool, true, false, List, [], ◌∷◌, ◌++◌, refl, ap, ap₂, sym, subst, ◌∙◌, inl, inr, Option, None, Some, Err}
use Rattle.std.specs.List.{find}
use Rattle.std.proofs.lemmas.Option.{same_Some}
use Rattle.step_names.specs.declared.step.StepName.{StepName}
use Rattle.trace_theory.specs.Traces.{In, Before}
use Rattle.trace_theory.proofs.Arranged.{named_place, In-names}
use Rattle.trace_theory.proofs.Least.{Once, never_twice}
use Rattle.trace_theory.proofs.Lists.{by_bool, place, here, In-front, In-split, Before-back, Before-across, Before-first, behind_place, never_both}
use Rattle.depends.specs.Steps.{Step, name_of}
use Rattle.depends.specs.World.{Setting, World}
use Rattle.depends.specs.Fact.{Fact}
use Rattle.depends.specs.Dependence.{depends_directly}
use Rattle.depends.specs.Instance.{TakenStep, steps}
use Rattle.depends.specs.Laws.{IsFrom, facts_of}
use Rattle.depends.proofs.Named.{steps_have_names}
use Rattle.book_log.specs.Answers.{from_step, free_answer, found_answer, is_settled, absent, undo_answer}
use Rattle.book_log.specs.Laws.{IsFirstDependent, UndoAnswersAreExact}
use Rattle.book_log.specs.Log.{Log, base_of, settled, setting_of, world_of, past_of}
use Rattle.book_log.specs.declared.refusal.Refusal.{Refusal}
use Rattle.book_log.specs.declared.refusal.Refusal.TheVariants.{NoStep, HasDependents, Settled}
use Rattle.book_log.proofs.Standing.{StandsAt, from_start, past_there, names_there, fact_named}
use Rattle.book_log.proofs.Answered.{Found, found_by, once, undo_said, step_found, free_undone}
use Rattle.book_log.proofs.LegalRuns.{legal_stands}
use Rattle.book_log.proofs.Settling.{settled_one, one_settled, absent_settled, absent_none, settled_absent, none_absent, absent_plain, never_settled}

-- the first of some steps whose fact passes
record FirstOf (p : Fact → Bool) (ts : List TakenStep) (f : Fact) : Type 0 where
  front : List TakenStep
  back : List TakenStep
  step : TakenStep
  whole : ts ≡ front ++ step ∷ back
  fact : step.fact ≡ f
  passes : p step.fact ≡ true
  before : (z : TakenStep) → In z front → p z.fact ≡ false

first_later : (p : Fact → Bool) (ts : List TakenStep) (t : TakenStep) (f : Fact) → p t.fact ≡ false → FirstOf p ts f → FirstOf p (t ∷ ts) f
first_later p ts t f k r = record {
  front = t ∷ r.front;
  back = r.back;
  step = r.step;
  whole = ap (λ (l : List TakenStep). t ∷ l) r.whole;
  fact = r.fact;
  passes = r.passes;
  before = λ z i. elim i [ inl e ↦ ap (λ (x : TakenStep). p x.fact) e ∙ k | inr j ↦ r.before z j ];
}

first_found : (p : Fact → Bool) (ts : List TakenStep) (f : Fact) → find p (facts_of ts) ≡ Some f → FirstOf p ts f
first_found p [] f h = cc
first_found p (t ∷ ts) f h =
    by_bool (p t.fact) _
    (λ k. record { front = []; back = ts; step = t; whole = refl; fact = same_Some _ _ (rw k at h); passes = k; before = λ z i. absurd i })
    (λ k. first_later p ts t f k (first_found p ts f (rw k at h)))

found_first : (p : Fact → Bool) (front back : List TakenStep) (t : TakenStep) → ((z : TakenStep) → In z front → p z.fact ≡ false) → p t.fact ≡ true → find p (facts_of (front ++ t ∷ back)) ≡ Some t.fact
found_first p [] back t h k = rw k refl
found_first p (z ∷ front) back t h k = let e = h z (inl refl) in rw e (found_first p front back t (λ y i. h y (inr i)) k)

-- ---- what was answered

-- a refusal that names no dependent
abbrev IsPlain : Refusal → Type 0
IsPlain e = (d : StepName) → e ≡ HasDependents d → ⊥

-- was given since none was found
absent_said : (gone e : Refusal) (name : StepName) (o : Option (Fact × List Fact)) → IsPlain e → found_answer gone name o ≡ Err e → (o ≡ None) × (gone ≡ e)
absent_said gone e name None plain h = (refl, cc)
absent_said gone e name (Some p) plain h = absurd (later (find (depends_directly p.0) p.1) h)
  where
    later : (o : Option Fact) → free_answer name o ≡ Err e → ⊥
    later None k = cc
    later (Some f) k = let same : HasDependents f.name ≡ e = cc in plain f.name (sym same)

dependent_said : (gone : Refusal) (name d : StepName) (o : Option (Fact × List Fact)) → ((e : StepName) → gone ≡ HasDependents e → ⊥) → found_answer gone name o ≡ Err (HasDependents d) → (p : Fact × List Fact) × (f : Fact) × (o ≡ Some p) × (find (depends_directly p.0) p.1 ≡ Some f) × (f.name ≡ d)
dependent_said gone name d None plain h = let same : gone ≡ HasDependents d = cc in absurd (plain d same)
dependent_said gone name d (Some p) plain h = let k = later (find (depends_directly p.0) p.1) h in (p, k.0, refl, k.1, k.2)
  where
    later : (o : Option Fact) → free_answer name o ≡ Err (HasDependents d) → (f : Fact) × (o ≡ Some f) × (f.name ≡ d)
    later None k = cc
    later (Some f) k = (f, refl, cc)

not_found : (name : StepName) (ts : List TakenStep) → ((t : TakenStep) → In t ts → t.fact.name ≡ name → ⊥) → (o : Option (Fact × List Fact)) → from_step name (facts_of ts) ≡ o → o ≡ None
not_found name ts none None e = refl
not_found name ts none (Some p) e =
    let g = found_by name ts p.0 p.1 e in
    absurd (none g.step (subst (In g.step) (sym g.whole) (here g.step g.front g.back)) (ap (λ (f : Fact). f.name) g.fact ∙ sym g.named))

-- ---- the first dependent, at its place

module _ (s : Setting) (base : World) (from : IsFrom s base) where
  abbrev OnceIn : List TakenStep → Type 0
  OnceIn ts = Once (steps s) base (steps_have_names s base from) ts

  twice : (ts : List TakenStep) → OnceIn ts → (x : TakenStep) → Before x x ts → ⊥
  twice ts o = never_twice (steps s) base (steps_have_names s base from) ts o

  first_there : (front middle back : List TakenStep) (t y : TakenStep) → OnceIn (front ++ t ∷ (middle ++ y ∷ back)) → depends_directly t.fact y.fact ≡ true → ((z : TakenStep) → In z middle → depends_directly t.fact z.fact ≡ false)
      → IsFirstDependent s (front ++ t ∷ (middle ++ y ∷ back)) t y
  first_there front middle back t y o depends before = record {
    later = Before-back t y front (t ∷ (middle ++ y ∷ back)) (inl (refl, here y middle back));
    depends = depends;
    first = λ z b c. elim (In-split z middle (y ∷ back) (behind_place t z front (middle ++ y ∷ back) (twice (front ++ t ∷ (middle ++ y ∷ back)) o) b)) [
      | inl i ↦ before z i
      | inr i ↦ absurd (elim i [
        | inl e ↦ twice (front ++ t ∷ (middle ++ y ∷ back)) o y (subst (λ (x : TakenStep). Before x y (front ++ t ∷ (middle ++ y ∷ back))) e c)
        | inr j ↦ never_both z y (front ++ t ∷ (middle ++ y ∷ back)) (twice (front ++ t ∷ (middle ++ y ∷ back)) o) c (Before-back y z front (t ∷ (middle ++ y ∷ back)) (inr (Before-back y z middle (y ∷ back) (inl (refl, j)))))
      ])
    ];
  }

  none_before : (front middle back : List TakenStep) (t y : TakenStep) → IsFirstDependent s (front ++ t ∷ (middle ++ y ∷ back)) t y → (z : TakenStep) → In z middle → depends_directly t.fact z.fact ≡ false
  none_before front middle back t y is z i =
      is.first z
      (Before-back t z front (t ∷ (middle ++ y ∷ back)) (inl (refl, In-front z middle (y ∷ back) i)))
      (Before-back z y front (t ∷ (middle ++ y ∷ back)) (inr (Before-across z y middle (y ∷ back) i (inl refl))))

module _ (log : Log) (s : Setting) (w : World) (ts : List TakenStep) (h : StandsAt log s w ts) where
  -- without a step of this name
  absent_answered : (name : StepName) → ((t : TakenStep) → In t ts → t.fact.name ≡ name → ⊥) → undo_answer log name ≡ Err (absent log name)
  unfolding undo_answer
  absent_answered name none = ap (λ (l : List TakenStep). found_answer (absent log name) name (from_step name (facts_of l))) (past_there log s w ts h) ∙ ap (found_answer (absent log name) name) (not_found name ts none (from_step name (facts_of ts)) refl)

  none_remains : (name : StepName) (e : Refusal) → IsPlain e → undo_answer log name ≡ Err e → ((t : TakenStep) → In t ts → t.fact.name ≡ name → ⊥) × (absent log name ≡ e)
  unfolding undo_answer
  none_remains name e plain a =
      let none = absent_said (absent log name) e name (from_step name (facts_of (past_of log))) plain a in (
        λ t i same.
            let p = place t ts i in
            let there = step_found log s w ts h t name p.front p.back p.whole (sym (fact_named log s w ts h t i) ∙ same) in
            let no_step = none.0 in
            absurd (cc),
        none.1,
      )

  -- a settled name has no step
  none_settled : (step : Step) (name : StepName) → In step (settled log) → name_of step ≡ name → (t : TakenStep) → In t ts → t.fact.name ≡ name → ⊥
  none_settled step name i e t j k = never_settled log s w ts h step t i j (e ∙ sym k ∙ fact_named log s w ts h t j)

  -- with a later step that depends on it
  abbrev Dependent : StepName → StepName → Type 0
  Dependent name d = (t : TakenStep) × (y : TakenStep) × (t.fact.name ≡ name) × (y.fact.name ≡ d) × IsFirstDependent s ts t y

  dependent_found : (name d : StepName) (f g : Fact) (later : List Fact) (x : Found name ts f later) → FirstOf (depends_directly x.step.fact) x.back g → g.name ≡ d → Dependent name d
  dependent_found name d f g later x y e =
      let whole : ts ≡ x.front ++ x.step ∷ (y.front ++ y.step ∷ y.back) = x.whole ∙ ap (λ (l : List TakenStep). x.front ++ x.step ∷ l) y.whole in (
        x.step,
        y.step,
        ap (λ (a : Fact). a.name) x.fact ∙ sym x.named,
        ap (λ (a : Fact). a.name) y.fact ∙ e,
        subst (λ (l : List TakenStep). IsFirstDependent s l x.step y.step) (sym whole) (first_there s (base_of log) (from_start log s w ts h) x.front y.front y.back x.step y.step (subst (OnceIn s (base_of log) (from_start log s w ts h)) whole (once log s w ts h)) y.passes y.before),
      )

  dependent_behind : (name d : StepName) (f g : Fact) (later : List Fact) → Found name ts f later → find (depends_directly f) later ≡ Some g → g.name ≡ d → Dependent name d
  dependent_behind name d f g later x k e =
      dependent_found name d f g later x (first_found (depends_directly x.step.fact) x.back g (ap₂ (λ (a : Fact) (l : List Fact). find (depends_directly a) l) x.fact x.behind ∙ k)) e

  dependent_stands : (name d : StepName) → undo_answer log name ≡ Err (HasDependents d) → Dependent name d
  unfolding undo_answer
  dependent_stands name d a =
      let k = dependent_said (absent log name) name d (from_step name (facts_of (past_of log))) (absent_plain log name) a in
      dependent_behind name d k.0.0 k.1 k.0.1 (found_by name ts k.0.0 k.0.1 (ap (λ (l : List TakenStep). from_step name (facts_of l)) (sym (past_there log s w ts h)) ∙ k.2)) k.3 k.4

  dependent_at : (name d : StepName) (front middle back : List TakenStep) (t y : TakenStep) → ts ≡ front ++ t ∷ (middle ++ y ∷ back) → t.fact.name ≡ name → y.fact.name ≡ d → IsFirstDependent s ts t y → undo_answer log name ≡ Err (HasDependents d)
  unfolding undo_answer
  dependent_at name d front middle back t y whole e f is =
      let before = none_before s (base_of log) (from_start log s w ts h) front middle back t y (subst (λ (l : List TakenStep). IsFirstDependent s l t y) whole is) in
      let i : In t ts = subst (In t) (sym whole) (here t front (middle ++ y ∷ back)) in
      ap (found_answer (absent log name) name) (step_found log s w ts h t name front (middle ++ y ∷ back) whole (sym (fact_named log s w ts h t i) ∙ e))
      ∙ ap (free_answer name) (found_first (depends_directly t.fact) middle back y before is.depends)
      ∙ ap (λ (n : StepName). Err (HasDependents n)) f

  dependent_answered : (name d : StepName) (t y : TakenStep) → t.fact.name ≡ name → y.fact.name ≡ d → IsFirstDependent s ts t y → undo_answer log name ≡ Err (HasDependents d)
  dependent_answered name d t y e f is =
      let p = place t ts (Before-first t y ts is.later) in
      let behind = behind_place t y p.front p.back (twice s (base_of log) (from_start log s w ts h) (p.front ++ t ∷ p.back) (subst (OnceIn s (base_of log) (from_start log s w ts h)) p.whole (once log s w ts h))) (subst (Before t y) p.whole is.later) in
      let q = place y p.back behind in
      dependent_at name d p.front q.front q.back t y (p.whole ∙ ap (λ (l : List TakenStep). p.front ++ t ∷ l) q.whole) e f is

pub undo_answers_are_exact : UndoAnswersAreExact
undo_answers_are_exact log name legal =
    let s = setting_of log in
    let w = world_of log in
    let ts = past_of log in
    let h = legal_stands log legal in
    let names = names_there log s w ts h in
    let base = base_of log in
    let have = steps_have_names s base (from_start log s w ts h) in
    record {
      undone = (
        λ a. let k = (undo_said log s w ts h name name a).0 in (k.step, k.fact, k.free),
        λ r. free_undone log s w ts h r.0 name r.2 (sym (fact_named log s w ts h r.0 r.2.0) ∙ r.1),
      );
      none = (
        λ a. let k = none_remains log s w ts h name NoStep (λ d e. cc) a in (
          λ x i e. let p = named_place (steps s) base have x ts (subst (In x) (sym names) i) in
              let there : In p.step ts = subst (In p.step) (sym p.whole) (here p.step p.front p.back) in
              k.0 p.step there (fact_named log s w ts h p.step there ∙ ap name_of p.named ∙ e),
          λ x i e. let b = absent_none log name k.1 in let c = settled_one log x name i e in absurd (cc),
        ),
        λ none. absent_answered log s w ts h name (λ t i e. none.0 t.step (subst (In t.step) names (In-names (steps s) base have t ts i)) (sym (fact_named log s w ts h t i) ∙ e))
            ∙ ap Err (none_absent log name (by_bool (is_settled log name) _ (λ k. let r = one_settled log name k in absurd (none.1 r.0 r.1 r.2)) (λ k. k))),
      );
      settled = (
        λ a. one_settled log name (absent_settled log name (none_remains log s w ts h name Settled (λ d e. cc) a).1),
        λ r. absent_answered log s w ts h name (none_settled log s w ts h r.0 name r.1 r.2) ∙ ap Err (settled_absent log name (settled_one log r.0 name r.1 r.2)),
      );
      dependent = λ d. (dependent_stands log s w ts h name d, λ r. dependent_answered log s w ts h name d r.0 r.1 r.2 r.3 r.4);
    }
