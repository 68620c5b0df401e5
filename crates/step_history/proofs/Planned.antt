-- The steps of a plan, undone one after another at their places, leave all but the consequences.
use Rattle.std.proofs.Common.{◌≡◌, ◌<◌, ◌≤◌, arith, ℕ, ◌+◌, List, [], ◌∷◌, ◌++◌, drop, length, map, zero, suc, refl, ap, ap₂, sym, subst, ◌∙◌, inl, inr, Option, Some}
use Rattle.std.specs.Prelude.{slice_get, reverse}
use Rattle.std.proofs.lemmas.List.{reverse-append}
use Rattle.std.proofs.lemmas.Option.{same_Some}
use Rattle.saved_steps.specs.World as model
use Rattle.saved_steps.specs.World.{Setting}
use Rattle.saved_steps.specs.declared.fact.Fact.{Fact}
use Rattle.trace_theory.specs.Traces.{In, IsRun, IsMaximal, IsBackwardOrder, without, consequences, HasNames}
use Rattle.trace_theory.proofs.Lists.{by_bool, In-split, In-back, reverse-In}
use Rattle.trace_theory.proofs.Least.{Once, without_one, Once-filter}
use Rattle.trace_theory.proofs.Orders.{without_none, without_more, without_alike, after_allowed}
use Rattle.trace_theory.proofs.Lists.{In-reverse}
use Rattle.depends.specs.Instance.{steps}
use Rattle.depends.specs.Laws.{IsFrom, facts_of}
use Rattle.depends.specs.Plans as plans
use Rattle.depends.specs.Plans.{depends_on_some, plan}
use Rattle.depends.proofs.Consequences.{plans_are_consequences}
use Rattle.depends.proofs.Named.{steps_have_names}
use Rattle.step_history.specs.History.{TakenStep}

-- ---- places from the latest to the earliest

abbrev pub Descending : List ℕ → Type 0
Descending [] = Unit {0}
Descending (p ∷ ps) = ((q : ℕ) → In q ps → q < p) × Descending ps

abbrev Ascending : List ℕ → Type 0
Ascending [] = Unit {0}
Ascending (p ∷ ps) = ((q : ℕ) → In q ps → p < q) × Ascending ps

descending_end : (ps : List ℕ) (p : ℕ) → Descending ps → ((q : ℕ) → In q ps → p < q) → Descending (ps ++ p ∷ [])
descending_end [] p d h = (λ q i. absurd i, tt)
descending_end (r ∷ ps) p d h = (below, descending_end ps p d.1 (λ q i. h q (inr i)))
  where
    below : (q : ℕ) → In q (ps ++ p ∷ []) → q < r
    below q i = elim (In-split q ps (p ∷ []) i) [
      | inl j ↦ d.0 q j
      | inr j ↦ elim j [ inl e ↦ (let k = h r (inl refl) in omega (arith, e, k)) | inr n ↦ absurd n ]
    ]

descending_reverse : (ps : List ℕ) → Ascending ps → Descending (reverse ps)
descending_reverse [] a = tt
descending_reverse (p ∷ ps) a = subst Descending (sym (reverse-append (p ∷ []) ps)) (descending_end (reverse ps) p (descending_reverse ps a.1) (λ q i. a.0 q (reverse-In q ps i)))

following_ascends : (fs : List Fact) (marked : List ℕ) (place : ℕ) (rest : List Fact) → ((q : ℕ) → In q (plans.consequences_behind fs marked place rest) → place ≤ q) × Ascending (plans.consequences_behind fs marked place rest)
following_ascends fs marked place [] = (λ q i. absurd i, tt)
following_ascends fs marked place (f ∷ rest) =
    by_bool (depends_on_some fs marked f) _
    (λ k. let r = following_ascends fs (marked ++ place ∷ []) (place + 1) rest in rw k (first (plans.consequences_behind fs (marked ++ place ∷ []) (place + 1) rest) r.0, (λ q i. let j = r.0 q i in omega (arith, j), r.1)))
    (λ k. let r = following_ascends fs marked (place + 1) rest in rw k (λ q i. let j = r.0 q i in omega (arith, j), r.1))
  where
    first : (qs : List ℕ) → ((q : ℕ) → In q qs → place + 1 ≤ q) → (q : ℕ) → In q (place ∷ qs) → place ≤ q
    first qs h q (inl e) = omega (arith, e)
    first qs h q (inr i) = let j = h q i in omega (arith, j)

plan_descends : (fs : List Fact) (at : ℕ) → Descending (plan fs at)
plan_descends fs at =
    let r = following_ascends fs (at ∷ []) (at + 1) (drop (at + 1) fs) in
    descending_reverse (plans.consequences_at fs at) (λ q i. let j = r.0 q i in omega (arith, j), r.1)

-- ---- steps at places

record At {A : Type 0} (xs : List A) (i : ℕ) (x : A) : Type 0 where
  front : List A
  back : List A
  whole : front ++ x ∷ back ≡ xs
  place : length front ≡ i

module _ {A : Type 0} where
  cut : (xs : List A) (i : ℕ) (x : A) → slice_get xs i ≡ Some x → At xs i x
  cut [] i x h = cc
  cut (y ∷ xs) zero x h = record { front = []; back = xs; whole = ap (λ (z : A). z ∷ xs) (sym (same_Some y x h)); place = refl }
  cut (y ∷ xs) (suc i) x h = let a = cut xs i x h in record { front = y ∷ a.front; back = a.back; whole = ap (λ (l : List A). y ∷ l) a.whole; place = ap suc a.place }

  before_place : (front back : List A) (x : A) (q : ℕ) → q < length front → slice_get (front ++ back) q ≡ slice_get (front ++ x ∷ back) q
  before_place [] back x q h = absurd (omega (arith, h))
  before_place (y ∷ front) back x zero h = refl
  before_place (y ∷ front) back x (suc q) h = before_place front back x q (omega (arith, h))

  all_before : (f g : ℕ → Option A) (ps : List ℕ) → ((q : ℕ) → In q ps → f q ≡ g q) → map f ps ≡ map g ps
  all_before f g [] h = refl
  all_before f g (p ∷ ps) h = ap₂ (λ (o : Option A) (os : List (Option A)). o ∷ os) (h p (inl refl)) (all_before f g ps (λ q i. h q (inr i)))

  pub in_list : (xs : List A) (i : ℕ) (x : A) → slice_get xs i ≡ Some x → In x xs
  in_list xs i x h = let a = cut xs i x h in subst (In x) a.whole (In-back x a.front (x ∷ a.back) (inl refl))

-- each place is that of a free step among those that are left, and at the end these are left
abbrev pub Undoes : Setting → List TakenStep → List ℕ → List TakenStep → Type 0
Undoes s us [] rest = us ≡ rest
Undoes s us (p ∷ ps) rest = (x : TakenStep) × (slice_get us p ≡ Some x) × IsMaximal (steps s) us x × Undoes s (without (steps s) (x ∷ []) us) ps rest

module _ (s : Setting) (base : model.World) (names : HasNames (steps s) base) where
  still_there : (us : List TakenStep) (p : ℕ) (x : TakenStep) (ps : List ℕ) → Once (steps s) base names us → slice_get us p ≡ Some x → ((q : ℕ) → In q ps → q < p)
      → map (slice_get (without (steps s) (x ∷ []) us)) ps ≡ map (slice_get us) ps
  still_there us p x ps once here below =
      let a = cut us p x here in
      let gone : without (steps s) (x ∷ []) us ≡ a.front ++ a.back =
      ap (without (steps s) (x ∷ [])) (sym a.whole) ∙ without_one (steps s) base names a.front a.back x (subst (Once (steps s) base names) (sym a.whole) once) in
      ap (λ (l : List TakenStep). map (slice_get l) ps) gone
      ∙ all_before (slice_get (a.front ++ a.back)) (slice_get (a.front ++ x ∷ a.back)) ps (λ q i. let j = below q i in let k = a.place in before_place a.front a.back x q (omega (arith, j, k)))
      ∙ ap (λ (l : List TakenStep). map (slice_get l) ps) a.whole

  undoes_backward : (ps : List ℕ) (us xs : List TakenStep) → Once (steps s) base names us → map (slice_get us) ps ≡ map Some xs → IsBackwardOrder (steps s) us xs → Descending ps → Undoes s us ps (without (steps s) xs us)
  undoes_backward [] us [] once h a d = sym (without_none (steps s) base names us)
  undoes_backward [] us (x ∷ xs) once h a d = cc
  undoes_backward (p ∷ ps) us [] once h a d = cc
  undoes_backward (p ∷ ps) us (x ∷ xs) once h a d =
      let here : slice_get us p ≡ Some x = cc in
      let rest : map (slice_get us) ps ≡ map Some xs = cc in
      let us' = without (steps s) (x ∷ []) us in (
        x,
        here,
        a.0,
        subst (Undoes s us' ps) (without_more (steps s) base names x xs us)
            (undoes_backward ps us' xs (Once-filter (steps s) base names _ us once) (still_there us p x ps once here d.0 ∙ rest) a.1 d.1),
      )

pub plan_undoes : (s : Setting) (base v : model.World) (ts : List TakenStep) (at : ℕ) (t : TakenStep) → IsFrom s base → IsRun (steps s) base ts v → slice_get ts at ≡ Some t
    → Undoes s ts (plan (facts_of ts) at) (without (steps s) (consequences (steps s) ts t.step) ts)
plan_undoes s base v ts at t from runs here =
    let names = steps_have_names s base from in
    let once : Once (steps s) base names ts = λ x y b. names.once ts v x y runs b in
    let xs = consequences (steps s) ts t.step in
    subst (Undoes s ts (plan (facts_of ts) at)) (without_alike (steps s) base names (reverse xs) xs ts (λ x i. reverse-In x xs i) (λ x i. In-reverse x xs i))
    (undoes_backward s base names (plan (facts_of ts) at) ts (reverse xs) once (plans_are_consequences s base v ts at t from runs here)
    (after_allowed (steps s) base names ts t once (in_list ts at t here)) (plan_descends (facts_of ts) at))
