-- What is left while an order is looked at.
use Rattle.std.proofs.Common.{◌≡◌, ◌≤◌, ◌<◌, arith, ℕ, ◌+◌, ◌-◌, Bool, cond, List, [], ◌∷◌, ◌++◌, length, suc, take, ap, sym, ◌∙◌, None, Some, Ok, Err}
use Rattle.std.specs.Prelude.{slice_get, position, option_map}
use Rattle.std.specs.List.{position_from, remove}
use Rattle.std.proofs.lemmas.Iterator.Adapters.{position_from-zero}
use Rattle.std.proofs.lemmas.List.{map-append, take_more}
use Rattle.std.proofs.lemmas.Option.{get_or_from_slice_get, same_Some, slice_get-map, slice_get_within}
use Rattle.step_names.specs.declared.step.StepName.{StepName}
use Rattle.trace_theory.proofs.Lists.{by_bool}
use Rattle.saved_steps.specs.World.{is_same_step}
use Rattle.saved_steps.specs.declared.fact.Fact.{Fact}
use Rattle.saved_steps.specs.declared.record.StepRecord.{StepRecord}
use Rattle.depends.specs.Plans.{first_dependent}
use Rattle.depends.proofs.Searching.{facts}
use Rattle.depends.proofs.Searching as searching
use Rattle.book_log.specs.Answers.{from_step, found_answer, free_answer}
use Rattle.book_log.specs.declared.refusal.Refusal.{Refusal}
use Rattle.book_log.specs.declared.refusal.Refusal.TheVariants.{HasDependents}
use Rattle.rollback_book.specs.Ordering.{facts_without}
use Rattle.rollback_book.proofs.Searching.{step_at, no_step, dependent_at, no_dependent_at, behind, same_either}

-- ---- the facts are copied

taken : (rs : List StepRecord) (i : ℕ) (r : StepRecord) → slice_get rs i ≡ Some r → take (i + 1) rs ≡ take i rs ++ r ∷ []
taken rs i r h = take_more rs i r (slice_get_within rs i r h) ∙ ap (λ (x : StepRecord). take i rs ++ x ∷ []) (get_or_from_slice_get rs i r r h)

pub one_fact : (rs left new : List StepRecord) (r kept : StepRecord) (i : ℕ) → slice_get rs i ≡ Some r → kept.fact ≡ r.fact → new ≡ left ++ kept ∷ [] → facts left ≡ facts (take i rs) → facts new ≡ facts (take (i + 1) rs)
one_fact rs left new r kept i here same more before =
    ap facts more ∙ map-append (λ (x : StepRecord). x.fact) left (kept ∷ []) ∙ ap (λ (fs : List Fact). fs ++ kept.fact ∷ []) before ∙ ap (λ (f : Fact). facts (take i rs) ++ f ∷ []) same
    ∙ sym (map-append (λ (x : StepRecord). x.fact) (take i rs) (r ∷ [])) ∙ ap facts (sym (taken rs i r here))

-- ---- a step is taken out

-- a place is no less than the number from which places are counted
no_earlier : {A : Type 0} (p : A → Bool) (xs : List A) (from at : ℕ) → position_from p from xs ≡ Some at → from ≤ at
no_earlier p [] from at h = cc
no_earlier p (x ∷ xs) from at h =
    by_bool (p x) _ (λ k. let e = same_Some from at (rw k at h) in omega (arith, e)) (λ k. let l = no_earlier p xs (from + 1) at (rw k at h) in omega (arith, l))

abbrev is_of : StepName → StepRecord → Bool
is_of name r = is_same_step r.fact.name name

out_from : (name : StepName) (rs : List StepRecord) (from at : ℕ) → position_from (is_of name) from rs ≡ Some at → facts (remove rs (at - from)) ≡ facts_without name (facts rs)
out_from name [] from at h = cc
out_from name (r ∷ rs) from at h =
    by_bool (is_of name r) _
    (λ k. let e = same_Some from at (rw k at h) in
    let z : at - from ≡ 0 = omega (arith, e) in
    ap (λ (i : ℕ). facts (remove (r ∷ rs) i)) z ∙ sym (ap (λ (b : Bool). cond b (facts rs) (r.fact ∷ facts_without name (facts rs))) (sym (same_either r.fact.name name) ∙ k)))
    (λ k. let rest : position_from (is_of name) (from + 1) rs ≡ Some at = rw k at h in
    let l = no_earlier (is_of name) rs (from + 1) at rest in
    let n : at - from ≡ suc (at - (from + 1)) = omega (arith, l) in
    ap (λ (i : ℕ). facts (remove (r ∷ rs) i)) n ∙ ap (λ (fs : List Fact). r.fact ∷ fs) (out_from name rs (from + 1) at rest)
    ∙ sym (ap (λ (b : Bool). cond b (facts rs) (r.fact ∷ facts_without name (facts rs))) (sym (same_either r.fact.name name) ∙ k)))

pub taken_out : (name : StepName) (rs new : List StepRecord) (at : ℕ) → position (λ (r : StepRecord). is_same_step r.fact.name name) rs ≡ Some at → new ≡ remove rs at → facts new ≡ facts_without name (facts rs)
taken_out name rs new at h e =
    let z : at ≡ at - 0 = omega arith in
    ap facts e ∙ ap (λ (i : ℕ). facts (remove rs i)) z ∙ out_from name rs 0 at (sym (position_from-zero (is_of name) rs) ∙ h)

-- ---- what it is answered

pub none_there : (gone : Refusal) (name : StepName) (rs : List StepRecord) → position (λ (r : StepRecord). is_same_step r.fact.name name) rs ≡ None → found_answer gone name (from_step name (facts rs)) ≡ Err gone
none_there gone name rs h = ap (found_answer gone name) (no_step name rs h)

module _ (gone : Refusal) (name : StepName) (rs : List StepRecord) (at : ℕ) (is_at : position (λ (r : StepRecord). is_same_step r.fact.name name) rs ≡ Some at) where
  abbrev fact_here : Fact
  fact_here = (step_at name rs at is_at).fact

  zero_less : at - 0 ≡ at
  zero_less = omega arith

  here : slice_get (facts rs) at ≡ Some fact_here
  here = ap (slice_get (facts rs)) (sym zero_less) ∙ (step_at name rs at is_at).there

  found : from_step name (facts rs) ≡ Some (fact_here, behind (facts rs) at)
  found =
      (step_at name rs at is_at).answer
      ∙ ap (λ (i : ℕ). let p : Fact × List Fact = (fact_here, behind (facts rs) i) in Some p) zero_less

  within_facts : (i : ℕ) (f : Fact) → slice_get (facts rs) i ≡ Some f → i < length rs
  within_facts i f h = let k = slice_get_within (facts rs) i f h in let m = searching.as_many rs in omega (arith, k, m)

  pub there : at < length rs
  there = within_facts at fact_here here

  pub dependent_there : (dependent : ℕ) → first_dependent (facts rs) at ≡ Some dependent → dependent < length rs
  dependent_there dependent h = let d = dependent_at (facts rs) at dependent fact_here here h in within_facts dependent d.fact d.there

  pub needing_answer : (dependent : ℕ) (r : StepRecord) → first_dependent (facts rs) at ≡ Some dependent → slice_get rs dependent ≡ Some r → found_answer gone name (from_step name (facts rs)) ≡ Err (HasDependents r.fact.name)
  needing_answer dependent r h k =
      let d = dependent_at (facts rs) at dependent fact_here here h in
      let same : d.fact ≡ r.fact = same_Some d.fact r.fact (sym d.there ∙ slice_get-map (λ (x : StepRecord). x.fact) rs dependent ∙ ap (option_map (λ (x : StepRecord). x.fact)) k) in
      ap (found_answer gone name) found ∙ ap (free_answer name) d.found ∙ ap (λ (f : Fact). Err (HasDependents f.name)) same

  pub free_answered : first_dependent (facts rs) at ≡ None → found_answer gone name (from_step name (facts rs)) ≡ Ok name
  free_answered h = ap (found_answer gone name) found ∙ ap (free_answer name) (no_dependent_at (facts rs) at fact_here here h)
