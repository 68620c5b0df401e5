-- What is left of a hold, as places come and go.
use Rattle.std.proofs.Common.{◌≡◌, ◌==◌, ◌<◌, ◌≤◌, ◌+◌, arith, ℕ, zero, suc, Bool, true, false, cond, get_or, List, [], ◌∷◌, ◌++◌, length, map, replicate, Option, None, Some, refl, ap, ap₂, sym, subst, ◌∙◌, inl, inr}
use Rattle.std.specs.Prelude.{◌||◌, nat_lt, slice_get, slice_set, position}
use Rattle.std.specs.List.{remove}
use Rattle.std.proofs.lemmas.Bool.{eqb-true, lt-ltb, le-ltb}
use Rattle.std.proofs.lemmas.List.{length-append, length-map}
use Rattle.std.proofs.lemmas.List.Edits.{length-remove}
use Rattle.std.proofs.lemmas.List.Sums.{position_or_len_is}
use Rattle.std.proofs.lemmas.Option.{same_Some}
use Rattle.linked_classes.proofs.Gets.{one_or_other, set_here, set_elsewhere}
use Rattle.linked_classes.specs.Cells.{cell_at}
use Rattle.linked_classes.specs.Linked.{IsFirst, IsLast}
use Rattle.saved_steps.specs.declared.fact.Fact.{Fact}
use Rattle.saved_steps.specs.declared.record.StepRecord.{StepRecord}
use Rattle.step_index.specs.Buckets.{by_home, by_exec, by_key, by_write}
use Rattle.step_index.specs.Held.{AreLeft, Held, IsLastLeft, classes_left, count_left, is_mark}

-- ---- the classes of those that are left

module _ (by : Fact → Option ℕ) where
  classes_pushed : (ms : List Bool) (rs : List StepRecord) (m : Bool) (r : StepRecord) → length ms ≡ length rs → classes_left by (ms ++ m ∷ []) (rs ++ r ∷ []) ≡ classes_left by ms rs ++ cond m (by r.fact) None ∷ []
  classes_pushed [] [] m r e = refl
  classes_pushed [] (x ∷ rs) m r e = absurd (omega (arith, e))
  classes_pushed (n ∷ ms) [] m r e = absurd (omega (arith, e))
  classes_pushed (n ∷ ms) (x ∷ rs) m r e = ap (λ (l : List (Option ℕ)). cond n (by x.fact) None ∷ l) (classes_pushed ms rs m r (omega (arith, e)))

  classes_removed : (ms : List Bool) (rs : List StepRecord) (at : ℕ) → length ms ≡ length rs → classes_left by (remove ms at) (remove rs at) ≡ remove (classes_left by ms rs) at
  classes_removed [] [] zero e = refl
  classes_removed [] [] (suc at) e = refl
  classes_removed [] (x ∷ rs) at e = absurd (omega (arith, e))
  classes_removed (n ∷ ms) [] at e = absurd (omega (arith, e))
  classes_removed (n ∷ ms) (x ∷ rs) zero e = refl
  classes_removed (n ∷ ms) (x ∷ rs) (suc at) e = ap (λ (l : List (Option ℕ)). cond n (by x.fact) None ∷ l) (classes_removed ms rs at (omega (arith, e)))

  -- the class of a step that is left
  pub class_where_left : (ms : List Bool) (rs : List StepRecord) (k : ℕ) (r : StepRecord) → slice_get ms k ≡ Some true → slice_get rs k ≡ Some r → cell_at (classes_left by ms rs) k ≡ by r.fact
  class_where_left [] rs k r m is = absurd (let e : None ≡ Some true = m in cc)
  class_where_left (n ∷ ms) [] k r m is = absurd (let e : None ≡ Some r = is in cc)
  class_where_left (n ∷ ms) (x ∷ rs) zero r m is = ap₂ (λ (b : Bool) (y : StepRecord). cond b (by y.fact) None) (same_Some n true m) (same_Some x r is)
  class_where_left (n ∷ ms) (x ∷ rs) (suc k) r m is = class_where_left ms rs k r m is

  -- and one that has a class is left
  pub left_where_class : (ms : List Bool) (rs : List StepRecord) (k c : ℕ) → cell_at (classes_left by ms rs) k ≡ Some c → slice_get ms k ≡ Some true
  left_where_class [] rs k c is = absurd (let e : None ≡ Some c = is in cc)
  left_where_class (n ∷ ms) [] k c is = absurd (let e : None ≡ Some c = is in cc)
  left_where_class (true ∷ ms) (x ∷ rs) zero c is = refl
  left_where_class (false ∷ ms) (x ∷ rs) zero c is = absurd (let e : None ≡ Some c = is in cc)
  left_where_class (n ∷ ms) (x ∷ rs) (suc k) c is = left_where_class ms rs k c is

  one_more : (ms new : List Bool) (rs : List StepRecord) (m : Bool) (r : StepRecord) (old classes : List (Option ℕ)) (class : Option ℕ) → length ms ≡ length rs → new ≡ ms ++ m ∷ [] → old ≡ classes_left by ms rs → classes ≡ old ++ class ∷ [] → class ≡ cond m (by r.fact) None
      → classes ≡ classes_left by new (rs ++ r ∷ [])
  one_more ms new rs m r old classes class many marks is pushed e =
      pushed
      ∙ ap₂ (λ (l : List (Option ℕ)) (o : Option ℕ). l ++ o ∷ []) is e
      ∙ sym (classes_pushed ms rs m r many)
      ∙ ap (λ (l : List Bool). classes_left by l (rs ++ r ∷ [])) (sym marks)

  one_less : (ms new : List Bool) (rs : List StepRecord) (at : ℕ) (old classes : List (Option ℕ)) → length ms ≡ length rs → new ≡ remove ms at → old ≡ classes_left by ms rs → classes ≡ remove old at → classes ≡ classes_left by new (remove rs at)
  one_less ms new rs at old classes many marks is removed =
      removed ∙ ap (λ (l : List (Option ℕ)). remove l at) is ∙ sym (classes_removed ms rs at many) ∙ ap (λ (l : List Bool). classes_left by l (remove rs at)) (sym marks)

pub left_pushed : (rs : List StepRecord) (r : StepRecord) (m : Bool) (thread exec key write : Option ℕ) {old new : Held} → AreLeft rs old → new.marks ≡ old.marks ++ m ∷ []
    → new.threads ≡ old.threads ++ thread ∷ [] → thread ≡ cond m (by_home r.fact) None
    → new.execs ≡ old.execs ++ exec ∷ [] → exec ≡ cond m (by_exec r.fact) None
    → new.keys ≡ old.keys ++ key ∷ [] → key ≡ cond m (by_key r.fact) None
    → new.writes ≡ old.writes ++ write ∷ [] → write ≡ cond m (by_write r.fact) None
    → AreLeft (rs ++ r ∷ []) new
left_pushed rs r m thread exec key write {old} {new} h marks threads thread_is execs exec_is keys key_is writes write_is = record {
  many = ap length marks ∙ length-append old.marks (m ∷ []) ∙ ap (λ n. n + 1) h.many ∙ sym (length-append rs (r ∷ []));
  homed = one_more by_home old.marks new.marks rs m r old.threads new.threads thread h.many marks h.homed threads thread_is;
  run = one_more by_exec old.marks new.marks rs m r old.execs new.execs exec h.many marks h.run execs exec_is;
  keyed = one_more by_key old.marks new.marks rs m r old.keys new.keys key h.many marks h.keyed keys key_is;
  wrote = one_more by_write old.marks new.marks rs m r old.writes new.writes write h.many marks h.wrote writes write_is;
}

pub left_removed : (rs : List StepRecord) (at : ℕ) {old new : Held} → at < length old.marks → AreLeft rs old → new.marks ≡ remove old.marks at → new.threads ≡ remove old.threads at → new.execs ≡ remove old.execs at → new.keys ≡ remove old.keys at → new.writes ≡ remove old.writes at
    → AreLeft (remove rs at) new
left_removed rs at {old} {new} within h marks threads execs keys writes = record {
  many = ap length marks ∙ (let a = length-remove old.marks at within in let b = length-remove rs at (omega (arith, within, h.many)) in let c = h.many in omega (arith, a, b, c));
  homed = one_less by_home old.marks new.marks rs at old.threads new.threads h.many marks h.homed threads;
  run = one_less by_exec old.marks new.marks rs at old.execs new.execs h.many marks h.run execs;
  keyed = one_less by_key old.marks new.marks rs at old.keys new.keys h.many marks h.keyed keys;
  wrote = one_less by_write old.marks new.marks rs at old.writes new.writes h.many marks h.wrote writes;
}

-- ---- how many are left

pub count_pushed : (ms : List Bool) → count_left (ms ++ true ∷ []) ≡ count_left ms + 1
count_pushed [] = refl
count_pushed (true ∷ ms) = let e = count_pushed ms in omega (arith, e)
count_pushed (false ∷ ms) = count_pushed ms

pub count_unmarked : (ms : List Bool) → count_left (ms ++ false ∷ []) ≡ count_left ms
count_unmarked [] = refl
count_unmarked (true ∷ ms) = ap suc (count_unmarked ms)
count_unmarked (false ∷ ms) = count_unmarked ms

pub count_within : (ms : List Bool) → count_left ms ≤ length ms
count_within [] = omega arith
count_within (true ∷ ms) = let e = count_within ms in omega (arith, e)
count_within (false ∷ ms) = let e = count_within ms in omega (arith, e)

pub count_without : (ms : List Bool) (at : ℕ) (m : Bool) → slice_get ms at ≡ Some m → count_left ms ≡ count_left (remove ms at) + cond m 1 0
count_without [] at m is = absurd (let e : None ≡ Some m = is in cc)
count_without (true ∷ ms) zero m is = subst (λ b. suc (count_left ms) ≡ count_left ms + cond b 1 0) (same_Some true m is) (omega arith)
count_without (false ∷ ms) zero m is = subst (λ b. count_left ms ≡ count_left ms + cond b 1 0) (same_Some false m is) (omega arith)
count_without (true ∷ ms) (suc at) m is = let e = count_without ms at m is in omega (arith, e)
count_without (false ∷ ms) (suc at) m is = count_without ms at m is

-- ---- marks are classes

pub marks_removed : (cs : List (Option ℕ)) (at : ℕ) → map is_mark (remove cs at) ≡ remove (map is_mark cs) at
marks_removed [] zero = refl
marks_removed [] (suc at) = refl
marks_removed (c ∷ cs) zero = refl
marks_removed (c ∷ cs) (suc at) = ap (λ (l : List Bool). is_mark c ∷ l) (marks_removed cs at)

mark_class : (o : Option ℕ) → is_mark o ≡ true → o ≡ Some 0
mark_class None h = absurd (let e : false ≡ true = h in cc)
mark_class (Some c) h = ap Some (eqb-true c 0 h)

class_at : (cs : List (Option ℕ)) (k : ℕ) → slice_get (map is_mark cs) k ≡ Some true → cell_at cs k ≡ Some 0
class_at [] k h = absurd (let e : None ≡ Some true = h in cc)
class_at (c ∷ cs) zero h = mark_class c (same_Some (is_mark c) true h)
class_at (c ∷ cs) (suc k) h = class_at cs k h

marked_at : (cs : List (Option ℕ)) (k : ℕ) → cell_at cs k ≡ Some 0 → slice_get (map is_mark cs) k ≡ Some true
marked_at [] k h = absurd (let e : None ≡ Some 0 = h in cc)
marked_at (c ∷ cs) zero h = ap (λ o. Some (is_mark o)) h
marked_at (c ∷ cs) (suc k) h = marked_at cs k h

-- the mark at a place is told by its class
pub mark_there : (cs : List (Option ℕ)) (k : ℕ) → k < length cs → slice_get (map is_mark cs) k ≡ Some (is_mark (cell_at cs k))
mark_there [] k l = absurd (omega (arith, l))
mark_there (c ∷ cs) zero l = refl
mark_there (c ∷ cs) (suc k) l = mark_there cs k (omega (arith, l))

-- ---- the first and the last

mark_or_none : (cs : List (Option ℕ)) (k : ℕ) → get_or (map is_mark cs) k false ≡ is_mark (cell_at cs k)
mark_or_none [] k = refl
mark_or_none (c ∷ cs) zero = refl
mark_or_none (c ∷ cs) (suc k) = mark_or_none cs k

not_true : (b : Bool) → (b ≡ true → ⊥) → b ≡ false
not_true true never = absurd (never refl)
not_true false never = refl

within : (cs : List (Option ℕ)) (k c : ℕ) → cell_at cs k ≡ Some c → k < length cs
within [] k c is = absurd (let e : None ≡ Some c = is in cc)
within (x ∷ cs) zero c is = omega arith
within (x ∷ cs) (suc k) c is = let w = within cs k c is in omega (arith, w)

pub first_is : (cs : List (Option ℕ)) (r : Option ℕ) → IsFirst (cell_at cs) 0 r → r ≡ position (λ (m : Bool). m) (map is_mark cs)
first_is cs None h =
    let ms = map is_mark cs in
    let e = position_or_len_is (λ (m : Bool). m) ms (length ms) false (omega arith) (λ k l. mark_or_none cs k ∙ not_true (is_mark (cell_at cs k)) (λ t. h k (mark_class (cell_at cs k) t))) (λ l. absurd (omega (arith, l))) in
    sym (ap (λ n. cond (nat_lt n (length ms)) (Some n) None) e ∙ ap (λ b. cond b (Some (length ms)) None) (le-ltb (length ms) (length ms) (omega arith)))
first_is cs (Some i) h =
    let ms = map is_mark cs in
    let w = within cs i 0 h.0 in
    let low : i < length ms = (let e = length-map cs is_mark in omega (arith, w, e)) in
    let e = position_or_len_is (λ (m : Bool). m) ms i false (omega (arith, low)) (λ k l. mark_or_none cs k ∙ not_true (is_mark (cell_at cs k)) (λ t. h.1 k l (mark_class (cell_at cs k) t))) (λ l. mark_or_none cs i ∙ ap is_mark h.0) in
    sym (ap (λ n. cond (nat_lt n (length ms)) (Some n) None) e ∙ ap (λ b. cond b (Some i) None) (lt-ltb i (length ms) low))

pub last_is : (cs : List (Option ℕ)) (r : Option ℕ) → IsLast (cell_at cs) 0 r → IsLastLeft (map is_mark cs) r
last_is cs None h = λ k m. h k (class_at cs k m)
last_is cs (Some i) h = (marked_at cs i h.0, λ k l m. h.1 k l (class_at cs k m))

-- ---- the marks of a plan

pub none_marked : (n k : ℕ) (m : Bool) → slice_get (replicate n false) k ≡ Some m → m ≡ false
none_marked zero k m is = absurd (let e : None ≡ Some m = is in cc)
none_marked (suc n) zero m is = sym (same_Some false m is)
none_marked (suc n) (suc k) m is = none_marked n k m is

pub marked_more : (ms : List Bool) (place k : ℕ) (m b : Bool) → place < length ms → ((n : Bool) → slice_get ms k ≡ Some n → n ≡ b) → slice_get (slice_set ms place true) k ≡ Some m → m ≡ (b || (place == k))
marked_more ms place k m b low told is = elim (one_or_other place k) [
  | inl e ↦
      let here : m ≡ true = sym (same_Some true m (sym (set_here ms place true low) ∙ ap (slice_get (slice_set ms place true)) e ∙ is)) in
      here ∙ sym (either_true b) ∙ ap (λ (x : Bool). b || x) (sym (same_number place k e))
  | inr apart ↦
      let old = told m (sym (set_elsewhere ms place true k (λ e. apart (sym e))) ∙ is) in
      old ∙ sym (either_false b) ∙ ap (λ (x : Bool). b || x) (sym (not_true (place == k) (λ t. apart (eqb-true place k t))))
]
  where
    either_true : (x : Bool) → (x || true) ≡ true
    either_true true = refl
    either_true false = refl

    either_false : (x : Bool) → (x || false) ≡ x
    either_false true = refl
    either_false false = refl

    same_number : (x y : ℕ) → x ≡ y → (x == y) ≡ true
    same_number x y e = grind arith
