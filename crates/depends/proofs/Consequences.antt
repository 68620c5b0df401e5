-- The plan of a step of a run is its consequences, latest first.
use Rattle.std.proofs.Common.{◌≡◌, ◌↔◌, ℕ, ◌+◌, Bool, false, List, [], ◌∷◌, ◌++◌, drop, length, map, arith, append_assoc, length-append, refl, ap, ap₂, sym, subst, ◌∙◌, zero, suc, Option, None, Some}
use Rattle.std.specs.Prelude.{reverse, slice_get, option_map}
use Rattle.std.specs.List.{list_any, position_from}
use Rattle.std.proofs.lemmas.List.{reverse-append, map-append}
use Rattle.std.proofs.lemmas.Option.{same_Some, slice_get-map}
use Rattle.trace_theory.specs.Traces as theory
use Rattle.trace_theory.specs.Traces.{Occurrence, In, IsRun, IsMaximal, needs}
use Rattle.trace_theory.proofs.Lists.{by_bool}
use Rattle.trace_theory.proofs.Least.{Once, after_at}
use Rattle.trace_theory.proofs.Records.{run_seen, free_record, record_free}
use Rattle.saved_steps.specs.Saving.{SavedState}
use Rattle.saved_steps.specs.Run.{run_steps}
use Rattle.saved_steps.specs.Steps.{Step}
use Rattle.saved_steps.specs.World.{Setting}
use Rattle.saved_steps.specs.declared.fact.Fact.{Fact}
use Rattle.depends.specs.Dependence.{depends_directly}
use Rattle.depends.specs.Instance.{steps}
use Rattle.depends.specs.Laws.{facts_of, RunsAreSeen, PlansAreConsequences, MaximalStepsHaveNoDependent}
use Rattle.depends.specs.Plans.{first_dependent, depends_on_some, consequences_behind, consequences_at, plan}
use Rattle.depends.proofs.Named.{steps_have_names}

-- ---- places in lists

record At {A : Type 0} (xs : List A) (i : ℕ) (x : A) : Type 0 where
  front : List A
  back : List A
  whole : front ++ x ∷ back ≡ xs
  place : length front ≡ i

module _ {A : Type 0} where
  cut : (xs : List A) (i : ℕ) (x : A) → slice_get xs i ≡ Some x → At xs i x
  cut [] i x h = cc
  cut (y ∷ xs) zero x h = record { front = []; back = xs; whole = ap (λ (z : A). z ∷ xs) (sym (same_Some y x h)); place = refl }
  cut (y ∷ xs) (suc i) x h = let a = cut xs i x h in record { front = y ∷ a.front; back = a.back; whole = ap (λ (l : List A). y ∷ l) a.whole; place = ap suc a.place }

  at_front : (front back : List A) (x : A) → slice_get (front ++ x ∷ back) (length front) ≡ Some x
  at_front [] back x = refl
  at_front (y ∷ front) back x = at_front front back x

  dropped : (front back : List A) (x : A) → drop (suc (length front)) (front ++ x ∷ back) ≡ back
  dropped [] back x = refl
  dropped (y ∷ front) back x = dropped front back x

map-reverse : {A B : Type 0} (f : A → B) (xs : List A) → map f (reverse xs) ≡ reverse (map f xs)
map-reverse f [] = refl
map-reverse {A} {B} f (x ∷ xs) =
    ap (map f) (reverse-append (x ∷ []) xs) ∙ map-append f (reverse xs) (x ∷ []) ∙ ap (λ (l : List B). l ++ f x ∷ []) (map-reverse f xs) ∙ sym (reverse-append (f x ∷ []) (map f xs))

-- ---- what one pass forward marks

module _ (s : Setting) (ts : List (Occurrence Step Fact SavedState)) where
  -- marked places, and the steps that stand there
  decide_alike : (places : List ℕ) (marked : List (Occurrence Step Fact SavedState)) (f : Fact) → map (slice_get ts) places ≡ map Some marked → depends_on_some (facts_of ts) places f ≡ list_any (λ x. depends_directly x.fact f) marked
  decide_alike [] [] f h = refl
  decide_alike [] (x ∷ marked) f h = cc
  decide_alike (p ∷ places) [] f h = cc
  decide_alike (p ∷ places) (x ∷ marked) f h =
      let first : slice_get ts p ≡ Some x = cc in
      let rest : map (slice_get ts) places ≡ map Some marked = cc in
      let there : slice_get (facts_of ts) p ≡ Some x.fact = slice_get-map (λ (t : Occurrence Step Fact SavedState). t.fact) ts p ∙ ap (option_map (λ (t : Occurrence Step Fact SavedState). t.fact)) first in
      let others = decide_alike places marked f rest in
      rw (there, others) refl

  follow_alike : (back front : List (Occurrence Step Fact SavedState)) (places : List ℕ) (marked : List (Occurrence Step Fact SavedState)) (n : ℕ) → front ++ back ≡ ts → length front ≡ n → map (slice_get ts) places ≡ map Some marked
      → map (slice_get ts) (consequences_behind (facts_of ts) places n (facts_of back)) ≡ map Some (theory.consequences_from (steps s) marked back)
  follow_alike [] front places marked n whole place h = refl
  follow_alike (t ∷ back) front places marked n whole place h =
      let told = decide_alike places marked t.fact h in
      let one_more : length (front ++ t ∷ []) ≡ n + 1 = length-append front (t ∷ []) ∙ ap (λ k. k + 1) place in
      let whole' : (front ++ t ∷ []) ++ back ≡ ts = append_assoc front (t ∷ []) back ∙ whole in
      by_bool (depends_on_some (facts_of ts) places t.fact) _
      (λ k. let j = sym told ∙ k in
      let more : map (slice_get ts) (places ++ n ∷ []) ≡ map Some (marked ++ t ∷ []) = map-append (slice_get ts) places (n ∷ []) ∙ ap₂ (λ (xs ys : List (Option (Occurrence Step Fact SavedState))). xs ++ ys) h (ap (λ (o : Option (Occurrence Step Fact SavedState)). o ∷ []) there) ∙ sym (map-append Some marked (t ∷ [])) in
      rw (k, j) (ap₂ (λ (o : Option (Occurrence Step Fact SavedState)) (os : List (Option (Occurrence Step Fact SavedState))). o ∷ os) there (follow_alike back (front ++ t ∷ []) (places ++ n ∷ []) (marked ++ t ∷ []) (n + 1) whole' one_more more)))
      (λ k. let j = sym told ∙ k in rw (k, j) (follow_alike back (front ++ t ∷ []) places marked (n + 1) whole' one_more h))
    where
      there : slice_get ts n ≡ Some t
      there = subst (λ l. slice_get l n ≡ Some t) whole (subst (λ k. slice_get (front ++ t ∷ back) k ≡ Some t) place (at_front front back t))

facts_behind : (front back : List (Occurrence Step Fact SavedState)) (t : Occurrence Step Fact SavedState) → drop (length front + 1) (facts_of (front ++ t ∷ back)) ≡ facts_of back
facts_behind front back t =
    let n : length front + 1 ≡ suc (length (facts_of front)) = let e = as_many front in omega (arith, e) in
    ap₂ (λ (k : ℕ) (l : List Fact). drop k l) n (map-append (λ (x : Occurrence Step Fact SavedState). x.fact) front (t ∷ back)) ∙ dropped (facts_of front) (facts_of back) t.fact
  where
    as_many : (xs : List (Occurrence Step Fact SavedState)) → length (facts_of xs) ≡ length xs
    as_many [] = refl
    as_many (x ∷ xs) = ap suc (as_many xs)

pub plans_are_consequences : PlansAreConsequences
plans_are_consequences s base v ts place t from runs at =
    let a = cut ts place t at in
    subst (λ n. map (slice_get ts) (plan (facts_of ts) n) ≡ map Some (reverse (theory.consequences (steps s) ts t.step))) a.place
    (subst (λ l. map (slice_get l) (plan (facts_of l) (length a.front)) ≡ map Some (reverse (theory.consequences (steps s) l t.step))) a.whole
    (backward a.front a.back (subst (λ l. IsRun (steps s) base l v) (sym a.whole) runs)))
  where
    backward : (front back : List (Occurrence Step Fact SavedState)) → IsRun (steps s) base (front ++ t ∷ back) v
        → map (slice_get (front ++ t ∷ back)) (plan (facts_of (front ++ t ∷ back)) (length front)) ≡ map Some (reverse (theory.consequences (steps s) (front ++ t ∷ back) t.step))
    backward front back runs =
        let all = front ++ t ∷ back in
        let names = steps_have_names s base from in
        let marked = follow_alike s all back (front ++ t ∷ []) (length front ∷ []) (t ∷ []) (length front + 1) (append_assoc front (t ∷ []) back) (length-append front (t ∷ [])) (ap (λ (o : Option (Occurrence Step Fact SavedState)). o ∷ []) (at_front front back t)) in
        let behind = ap (λ (l : List Fact). map (slice_get all) (consequences_behind (facts_of all) (length front ∷ []) (length front + 1) l)) (facts_behind front back t) in
        let forward : map (slice_get all) (consequences_at (facts_of all) (length front)) ≡ map Some (theory.consequences (steps s) all t.step) =
        ap₂ (λ (o : Option (Occurrence Step Fact SavedState)) (os : List (Option (Occurrence Step Fact SavedState))). o ∷ os) (at_front front back t) (behind ∙ marked) ∙ ap (map Some) (sym (after_at (steps s) base names front back t (λ x y b. names.once all v x y runs b))) in
        map-reverse (slice_get all) (consequences_at (facts_of all) (length front)) ∙ ap reverse forward ∙ sym (map-reverse Some (theory.consequences (steps s) all t.step))

-- ---- the first dependent

none_found : (p : Fact → Bool) (i : ℕ) (ts : List (Occurrence Step Fact SavedState)) → position_from p i (facts_of ts) ≡ None → list_any (λ t. p t.fact) ts ≡ false
none_found p i [] h = refl
none_found p i (t ∷ ts) h = by_bool (p t.fact) _ (λ k. let e = rw k at h in cc) (λ k. rw k (none_found p (i + 1) ts (rw k at h)))

found_none : (p : Fact → Bool) (i : ℕ) (ts : List (Occurrence Step Fact SavedState)) → list_any (λ t. p t.fact) ts ≡ false → position_from p i (facts_of ts) ≡ None
found_none p i [] h = refl
found_none p i (t ∷ ts) h = by_bool (p t.fact) _ (λ k. let e = rw k at h in cc) (λ k. rw k (found_none p (i + 1) ts (rw k at h)))

pub free_steps_have_no_dependent : MaximalStepsHaveNoDependent
free_steps_have_no_dependent s base v ts place t from runs at =
    let a = cut ts place t at in
    subst (λ n. (first_dependent (facts_of ts) n ≡ None) ↔ IsMaximal (steps s) ts t) a.place
    (subst (λ l. (first_dependent (facts_of l) (length a.front) ≡ None) ↔ IsMaximal (steps s) l t) a.whole
    (both a.front a.back (subst (λ l. IsRun (steps s) base l v) (sym a.whole) runs)))
  where
    both : (front back : List (Occurrence Step Fact SavedState)) → IsRun (steps s) base (front ++ t ∷ back) v → (first_dependent (facts_of (front ++ t ∷ back)) (length front) ≡ None) ↔ IsMaximal (steps s) (front ++ t ∷ back) t
    both front back runs =
        let names = steps_have_names s base from in
        let once : Once (steps s) base names (front ++ t ∷ back) = λ x y b. names.once (front ++ t ∷ back) v x y runs b in
        let here : slice_get (facts_of (front ++ t ∷ back)) (length front) ≡ Some t.fact = slice_get-map (λ (x : Occurrence Step Fact SavedState). x.fact) (front ++ t ∷ back) (length front) ∙ ap (option_map (λ (x : Occurrence Step Fact SavedState). x.fact)) (at_front front back t) in
        let search : first_dependent (facts_of (front ++ t ∷ back)) (length front) ≡ position_from (depends_directly t.fact) (length front + 1) (facts_of back) = rw here (ap (position_from (depends_directly t.fact) (length front + 1)) (facts_behind front back t)) in (
          λ h. free_record (steps s) base names front back t once (none_found (depends_directly t.fact) (length front + 1) back (sym search ∙ h)),
          λ free. search ∙ found_none (depends_directly t.fact) (length front + 1) back (record_free (steps s) base names front back t free),
        )

pub runs_are_seen : RunsAreSeen
runs_are_seen s w names = run_seen (steps s) (λ t. t.fact) (run_steps s) (λ w. refl) (λ w n ns. refl) names w
