-- Marks of steps by their places: what becomes of them where steps are added and taken out.
use Rattle.std.proofs.Common.{◌≡◌, ◌≤◌, ◌<◌, ◌-◌, arith, ℕ, zero, suc, Bool, true, false, cond, List, [], ◌∷◌, ◌++◌, length, map, refl, ap, ap₂, sym, subst, ◌∙◌, inl, inr, Option, None, Some}
use Rattle.std.specs.Prelude.{not, filter, slice_get}
use Rattle.std.specs.List.{list_any, remove}
use Rattle.std.proofs.lemmas.List.{map-append}
use Rattle.std.proofs.lemmas.Option.{same_Some, slice_get_within}
use Rattle.trace_theory.specs.Traces.{In, is_among, without, HasNames}
use Rattle.trace_theory.proofs.Least.{Once, Once-filter, without_one}
use Rattle.trace_theory.proofs.Lists.{by_bool, In-filter, any_one, one_any}
use Rattle.saved_steps.specs.Steps.{name_of}
use Rattle.saved_steps.specs.World.{Setting, World, is_same_step}
use Rattle.saved_steps.specs.declared.fact.Fact.{Fact}
use Rattle.saved_steps.specs.declared.record.StepRecord.{StepRecord}
use Rattle.depends.specs.Instance.{steps, is_one_step}
use Rattle.depends.proofs.Searching.{facts}
use Rattle.step_history.specs.History.{TakenStep}
use Rattle.step_history.proofs.Left.{removed_at}
use Rattle.step_history.proofs.Planned.{Undoes}
use Rattle.step_index.specs.Held.{Held, AreLeft, classes_left, count_left}
use Rattle.book_log.proofs.Standing.{step_same}
use Rattle.rollback_book.specs.Holding.{AreWithin, marks_by, removed_each}

-- ---- records of the same facts

classes_facts : (by : Fact → Option ℕ) (ms : List Bool) (rs us : List StepRecord) → facts rs ≡ facts us → classes_left by ms rs ≡ classes_left by ms us
classes_facts by [] rs us e = refl
classes_facts by (m ∷ ms) [] [] e = refl
classes_facts by (m ∷ ms) [] (u ∷ us) e = cc
classes_facts by (m ∷ ms) (r ∷ rs) [] e = cc
classes_facts by (m ∷ ms) (r ∷ rs) (u ∷ us) e =
    let one : r.fact ≡ u.fact = cc in
    let rest : facts rs ≡ facts us = cc in
    ap₂ (λ (f : Fact) (l : List (Option ℕ)). cond m (by f) None ∷ l) one (classes_facts by ms rs us rest)

many_facts : (rs : List StepRecord) → length (facts rs) ≡ length rs
many_facts [] = refl
many_facts (r ∷ rs) = ap suc (many_facts rs)

pub left_facts : (rs us : List StepRecord) (h : Held) → facts rs ≡ facts us → AreLeft rs h → AreLeft us h
left_facts rs us h e left = record {
  many = left.many ∙ sym (many_facts rs) ∙ ap length e ∙ many_facts us;
  homed = left.homed ∙ classes_facts _ h.marks rs us e;
  run = left.run ∙ classes_facts _ h.marks rs us e;
  keyed = left.keyed ∙ classes_facts _ h.marks rs us e;
  wrote = left.wrote ∙ classes_facts _ h.marks rs us e;
}

-- ---- what is taken out at places

remove_map : {A B : Type 0} (f : A → B) (xs : List A) (at : ℕ) → remove (map f xs) at ≡ map f (remove xs at)
remove_map f [] zero = refl
remove_map f [] (suc at) = refl
remove_map f (x ∷ xs) zero = refl
remove_map f (x ∷ xs) (suc at) = ap (λ l. f x ∷ l) (remove_map f xs at)

pub removed_map : {A B : Type 0} (f : A → B) (xs : List A) (places : List ℕ) → removed_each (map f xs) places ≡ map f (removed_each xs places)
removed_map f xs [] = refl
removed_map f xs (p ∷ ps) = ap (λ l. removed_each l ps) (remove_map f xs p) ∙ removed_map f (remove xs p) ps

-- where a step stands in a list
record Stands (ts : List TakenStep) (at : ℕ) (t : TakenStep) : Type 0 where
  front : List TakenStep
  back : List TakenStep
  whole : front ++ t ∷ back ≡ ts
  place : length front ≡ at

stands_at : (ts : List TakenStep) (at : ℕ) (t : TakenStep) → slice_get ts at ≡ Some t → Stands ts at t
stands_at [] at t h = cc
stands_at (u ∷ ts) zero t h = record { front = []; back = ts; whole = ap (λ (z : TakenStep). z ∷ ts) (sym (same_Some u t h)); place = refl }
stands_at (u ∷ ts) (suc at) t h = let a = stands_at ts at t h in record { front = u ∷ a.front; back = a.back; whole = ap (λ (l : List TakenStep). u ∷ l) a.whole; place = ap suc a.place }

pub shorter_by_one : {A : Type 0} (xs : List A) (at : ℕ) → at < length xs → length (remove xs at) ≡ length xs - 1
shorter_by_one [] at l = absurd (omega (arith, l))
shorter_by_one (x ∷ xs) zero l = omega arith
shorter_by_one (x ∷ xs) (suc at) l = let k = shorter_by_one xs at (omega (arith, l)) in omega (arith, k, l)

module _ (s : Setting) (base : World) (names : HasNames (steps s) base) where
  one_out : (ts : List TakenStep) (at : ℕ) (t : TakenStep) → Once (steps s) base names ts → slice_get ts at ≡ Some t → without (steps s) (t ∷ []) ts ≡ remove ts at
  one_out ts at t once here =
      let a = stands_at ts at t here in
      ap (without (steps s) (t ∷ [])) (sym a.whole) ∙ without_one (steps s) base names a.front a.back t (subst (Once (steps s) base names) (sym a.whole) once)
      ∙ sym (removed_at ts a.front a.back t at a.whole a.place)

  -- steps that are undone at their places are taken out there
  pub undone_out : (places : List ℕ) (ts rest : List TakenStep) → Once (steps s) base names ts → Undoes s ts places rest → removed_each ts places ≡ rest
  undone_out [] ts rest once u = u
  undone_out (p ∷ ps) ts rest once u =
      let out = one_out ts p u.0 once u.1 in
      ap (λ (l : List TakenStep). removed_each l ps) (sym out) ∙ undone_out ps (without (steps s) (u.0 ∷ []) ts) rest (Once-filter (steps s) base names _ ts once) u.3

  pub undone_within : (places : List ℕ) (ts rest : List TakenStep) → Once (steps s) base names ts → Undoes s ts places rest → AreWithin (length ts) places
  undone_within [] ts rest once u = tt
  undone_within (p ∷ ps) ts rest once u =
      let within = slice_get_within ts p u.0 u.1 in
      let out = one_out ts p u.0 once u.1 in
      (within, subst (λ (n : ℕ). AreWithin n ps) (ap length out ∙ shorter_by_one ts p within) (undone_within ps (without (steps s) (u.0 ∷ []) ts) rest (Once-filter (steps s) base names _ ts once) u.3))

-- ---- marks

-- one of these has the name of a step
abbrev pub is_marked : List TakenStep → TakenStep → Bool
is_marked left t = list_any (λ (x : TakenStep). is_same_step (name_of x.step) (name_of t.step)) left

pub marks_more : (left ts : List TakenStep) (t : TakenStep) → is_marked left t ≡ false → marks_by left (ts ++ t ∷ []) ≡ marks_by left ts ++ false ∷ []
marks_more left ts t none = map-append (is_marked left) ts (t ∷ []) ∙ ap (λ (b : Bool). marks_by left ts ++ b ∷ []) none

marks_same : (left more ts : List TakenStep) → ((t : TakenStep) → In t ts → is_marked left t ≡ is_marked more t) → marks_by left ts ≡ marks_by more ts
marks_same left more [] h = refl
marks_same left more (t ∷ ts) h = ap₂ (λ (b : Bool) (l : List Bool). b ∷ l) (h t (inl refl)) (marks_same left more ts (λ u i. h u (inr i)))

pub marks_out : (left ts : List TakenStep) (places : List ℕ) → removed_each (marks_by left ts) places ≡ marks_by left (removed_each ts places)
marks_out left ts places = removed_map (is_marked left) ts places

any_kept : (p q : TakenStep → Bool) (xs : List TakenStep) → ((x : TakenStep) → p x ≡ true → q x ≡ true) → list_any p xs ≡ list_any p (filter q xs)
any_kept p q [] h = refl
any_kept p q (x ∷ xs) h =
    by_bool (q x) _
    (λ k. rw k (by_bool (p x) _ (λ j. rw j refl) (λ j. rw j (any_kept p q xs h))))
    (λ k. by_bool (p x) _ (λ j. let e = sym k ∙ h x j in cc) (λ j. rw (k, j) (any_kept p q xs h)))

module _ (s : Setting) (base : World) (names : HasNames (steps s) base) where
  -- of the steps that stay the marks stay, where of what is left all goes that goes of the steps
  pub marks_rest : (all left ts : List TakenStep) → marks_by left (without (steps s) all ts) ≡ marks_by (without (steps s) all left) (without (steps s) all ts)
  marks_rest all left ts = marks_same left (without (steps s) all left) (without (steps s) all ts) (λ t i.
      any_kept (λ (x : TakenStep). is_one_step x.step t.step) (λ (x : TakenStep). not (is_among (steps s) all x)) left (λ x j. by_bool (is_among (steps s) all x) _
      (λ k.
      let y = one_any (λ (z : TakenStep). is_one_step z.step x.step) all k in
      let e = same y.0 x y.2 in
      let m = any_one (λ (z : TakenStep). is_one_step z.step t.step) all y.0 y.1 (e t j) in
      let r = (In-filter (λ (z : TakenStep). not (is_among (steps s) all z)) ts t i).1 in
      let c = rw m at r in
      cc)
      (λ k. ap not k)))
    where
      same : (y x : TakenStep) → is_one_step y.step x.step ≡ true → (t : TakenStep) → is_one_step x.step t.step ≡ true → is_one_step y.step t.step ≡ true
      same y x h t j = subst (λ n. is_same_step (name_of y.step) n ≡ true) (step_same (name_of x.step) (name_of t.step) j) h

-- ---- how many

none_counted : (ts : List TakenStep) → count_left (marks_by [] ts) ≡ 0
none_counted [] = refl
none_counted (t ∷ ts) = none_counted ts

pub nothing_counted : (left ts : List TakenStep) → left ≡ [] → count_left (marks_by left ts) ≡ 0
nothing_counted left ts e = ap (λ (l : List TakenStep). count_left (marks_by l ts)) e ∙ none_counted ts

pub one_counted : (left ts : List TakenStep) (t : TakenStep) → In t ts → is_marked left t ≡ true → 1 ≤ count_left (marks_by left ts)
one_counted left [] t i m = absurd i
one_counted left (u ∷ ts) t (inl e) m = let k = ap (is_marked left) (sym e) ∙ m in rw k (omega arith)
one_counted left (u ∷ ts) t (inr i) m =
    let rest = one_counted left ts t i m in
    by_bool (is_marked left u) _ (λ k. rw k (omega (arith, rest))) (λ k. rw k rest)

-- marks are counted as the steps that have them
pub counted_steps : (left ts : List TakenStep) → count_left (marks_by left ts) ≡ length (filter (is_marked left) ts)
counted_steps left [] = refl
counted_steps left (t ∷ ts) = by_bool (is_marked left t) _ (λ k. rw k (ap suc (counted_steps left ts))) (λ k. rw k (counted_steps left ts))
