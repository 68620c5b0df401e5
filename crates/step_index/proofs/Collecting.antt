-- A walk through a class gathers the places at which a record passes a test.
use Rattle.std.proofs.Common.{◌≡◌, ◌<◌, ◌≤◌, ◌+◌, arith, ℕ, zero, suc, Bool, true, false, cond, List, [], ◌∷◌, ◌++◌, Option, None, Some, refl, ap, sym, ◌∙◌}
use Rattle.std.specs.Prelude.{slice_get, take, option_map, IfSome}
use Rattle.std.proofs.lemmas.Slice.Eq.{bytes_eq-Decides}
use Rattle.std.proofs.lemmas.Option.{same_Some}
use Rattle.attr_values.specs.declared.key.Key.{Key}
use Rattle.item_store.proofs.Slots.{same_key}
use Rattle.linked_classes.specs.Linked.{IsNext, IsFirst}
use Rattle.linked_classes.specs.Cells.{cell_at}
use Rattle.saved_steps.specs.declared.fact.Access.{Access}
use Rattle.saved_steps.specs.declared.record.StepRecord.{StepRecord}
use Rattle.step_index.specs.Buckets.{by_exec, by_key, exec_bucket, key_bucket}
use Rattle.step_index.specs.Gathered.{accesses, is_access, is_of_execution, places_from, places_where}
use Rattle.step_index.specs.Records.{classes_by}
use Rattle.step_index.proofs.Listed.{class_there}

-- the records before the place at which a walk is: all, if it is at none
abbrev pub before : Option ℕ → List StepRecord → List StepRecord
before None rs = rs
before (Some n) rs = take n rs

-- a walk is at a place of class c, and found those of the places before it at which a record passes the test
pub record IsGathered (g : ℕ → Option ℕ) (c : ℕ) (p : StepRecord → Bool) (rs : List StepRecord) (next : Option ℕ) (found : List ℕ) : Type 0 where
  pub here : IfSome next (λ n. g n ≡ Some c)
  pub gathered : ((k : ℕ) (r : StepRecord) → slice_get rs k ≡ Some r → p r ≡ true → g k ≡ Some c) → found ≡ places_where p (before next rs)

module _ (p : StepRecord → Bool) where
  -- none passes from one place up to another
  quiet : (i n m : ℕ) (rs : List StepRecord) → n ≤ m → ((k : ℕ) (r : StepRecord) → slice_get rs k ≡ Some r → n ≤ k → k < m → p r ≡ false)
      → places_from p i (take m rs) ≡ places_from p i (take n rs)
  quiet i zero zero [] l h = refl
  quiet i zero (suc m) [] l h = refl
  quiet i (suc n) zero [] l h = refl
  quiet i (suc n) (suc m) [] l h = refl
  quiet i zero zero (x ∷ rs) l h = refl
  quiet i zero (suc m) (x ∷ rs) l h =
      ap (λ b. cond b (i ∷ places_from p (i + 1) (take m rs)) (places_from p (i + 1) (take m rs))) (h zero x refl (omega arith) (omega arith))
      ∙ quiet (i + 1) zero m rs (omega arith) (λ k r is a b. h (suc k) r is (omega arith) (omega (arith, b)))
  quiet i (suc n) zero (x ∷ rs) l h = absurd (omega (arith, l))
  quiet i (suc n) (suc m) (x ∷ rs) l h =
      ap (λ (ks : List ℕ). cond (p x) (i ∷ ks) ks)
      (quiet (i + 1) n m rs (omega (arith, l)) (λ k r is a b. h (suc k) r is (omega (arith, a)) (omega (arith, b))))

  -- none passes from a place on
  quiet_on : (i n : ℕ) (rs : List StepRecord) → ((k : ℕ) (r : StepRecord) → slice_get rs k ≡ Some r → n ≤ k → p r ≡ false)
      → places_from p i rs ≡ places_from p i (take n rs)
  quiet_on i zero [] h = refl
  quiet_on i (suc n) [] h = refl
  quiet_on i zero (x ∷ rs) h =
      ap (λ b. cond b (i ∷ places_from p (i + 1) rs) (places_from p (i + 1) rs)) (h zero x refl (omega arith))
      ∙ quiet_on (i + 1) zero rs (λ k r is a. h (suc k) r is (omega arith))
  quiet_on i (suc n) (x ∷ rs) h =
      ap (λ (ks : List ℕ). cond (p x) (i ∷ ks) ks) (quiet_on (i + 1) n rs (λ k r is a. h (suc k) r is (omega (arith, a))))

  -- one more record
  grown : (b : Bool) (i : ℕ) (ks ls last : List ℕ) → ls ≡ ks ++ last → cond b (i ∷ ls) ls ≡ cond b (i ∷ ks) ks ++ last
  grown true i ks ls last e = ap (λ (xs : List ℕ). i ∷ xs) e
  grown false i ks ls last e = e

  one : (i : ℕ) (y x : StepRecord) → y ≡ x → places_from p i (y ∷ []) ≡ cond (p x) ((i + 0) ∷ []) []
  one i y x e = ap (λ (z : StepRecord). cond (p z) (i ∷ []) []) e ∙ ap (λ (k : ℕ). cond (p x) (k ∷ []) []) (let w : i ≡ i + 0 = omega arith in w)

  extended : (i n : ℕ) (rs : List StepRecord) (x : StepRecord) → slice_get rs n ≡ Some x
      → places_from p i (take (suc n) rs) ≡ places_from p i (take n rs) ++ cond (p x) ((i + n) ∷ []) []
  extended i zero [] x is = cc
  extended i (suc n) [] x is = cc
  extended i zero (y ∷ rs) x is = one i y x (same_Some y x is)
  extended i (suc n) (y ∷ rs) x is =
      grown (p y) i (places_from p (i + 1) (take n rs)) (places_from p (i + 1) (take (suc n) rs)) (cond (p x) ((i + suc n) ∷ []) [])
      (extended (i + 1) n rs x is ∙ ap (λ (k : ℕ). places_from p (i + 1) (take n rs) ++ cond (p x) (k ∷ []) []) (let w : (i + 1) + n ≡ i + suc n = omega arith in w))

module _ (g : ℕ → Option ℕ) (c : ℕ) (p : StepRecord → Bool) (rs : List StepRecord) where
  fails : ((k : ℕ) (r : StepRecord) → slice_get rs k ≡ Some r → p r ≡ true → g k ≡ Some c) → (k : ℕ) (r : StepRecord) → slice_get rs k ≡ Some r → (g k ≡ Some c → ⊥) → p r ≡ false
  fails all k r is other = by (p r) refl
    where
      by : (b : Bool) → p r ≡ b → p r ≡ false
      by true e = absurd (other (all k r is e))
      by false e = e

  pub begun : (next : Option ℕ) → IsFirst g c next → IsGathered g c p rs next []
  begun None h = record {
    here = tt;
    gathered = λ all. sym (quiet_on p 0 0 rs (λ k r is a. fails all k r is (h k)));
  }
  begun (Some n) h = record {
    here = h.0;
    gathered = λ all. sym (quiet p 0 0 n rs (omega arith) (λ k r is a b. fails all k r is (h.1 k b)));
  }

  module _ (n : ℕ) (found : List ℕ) (old : IsGathered g c p rs (Some n) found) (x : StepRecord) (at : slice_get rs n ≡ Some x) where
    -- up to the place behind this one
    one_more : ((k : ℕ) (r : StepRecord) → slice_get rs k ≡ Some r → p r ≡ true → g k ≡ Some c) → places_where p (take (suc n) rs) ≡ found ++ cond (p x) (n ∷ []) []
    one_more all =
        extended p 0 n rs x at
        ∙ ap (λ (k : ℕ). places_where p (take n rs) ++ cond (p x) (k ∷ []) []) (let w : 0 + n ≡ n = omega arith in w)
        ∙ ap (λ (ks : List ℕ). ks ++ cond (p x) (n ∷ []) []) (sym (old.gathered all))

    on_from : (more : List ℕ) → more ≡ found ++ cond (p x) (n ∷ []) [] → (next : Option ℕ) → IsNext g c n next → IsGathered g c p rs next more
    on_from more e None h = record {
      here = tt;
      gathered = λ all. e ∙ sym (one_more all) ∙ sym (quiet_on p 0 (suc n) rs (λ k r is a. fails all k r is (h k (omega (arith, a)))));
    }
    on_from more e (Some m) h = record {
      here = h.1;
      gathered = λ all. e ∙ sym (one_more all) ∙ sym (quiet p 0 (suc n) m rs (let a = h.0 in omega (arith, a)) (λ k r is a b. fails all k r is (h.2 k (omega (arith, a)) b)));
    }

    pub taken : p x ≡ true → (next : Option ℕ) → IsNext g c n next → IsGathered g c p rs next (found ++ n ∷ [])
    taken e = on_from (found ++ n ∷ []) (ap (λ b. found ++ cond b (n ∷ []) []) (sym e))

    pub passed : p x ≡ false → (next : Option ℕ) → IsNext g c n next → IsGathered g c p rs next found
    passed e = on_from found (sym (nothing found) ∙ ap (λ b. found ++ cond b (n ∷ []) []) (sym e))
      where
        nothing : (ks : List ℕ) → ks ++ [] ≡ ks
        nothing [] = refl
        nothing (k ∷ ks) = ap (λ (xs : List ℕ). k ∷ xs) (nothing ks)

-- ---- the classes in which these are

pub of_in_class : (exec : List ℕ) (execs : List (Option ℕ)) (rs : List StepRecord) (c : ℕ) → execs ≡ classes_by by_exec rs → c ≡ exec_bucket exec
    → (k : ℕ) (r : StepRecord) → slice_get rs k ≡ Some r → is_of_execution exec r ≡ true → cell_at execs k ≡ Some c
of_in_class exec execs rs c run e k r is same =
    class_there by_exec execs rs run k r is
    ∙ ap (λ (x : List ℕ). Some (exec_bucket x)) ((bytes_eq-Decides r.fact.name.thread.exec exec).0 same)
    ∙ ap Some (sym e)

pub access_in_class : (key : Key) (keys : List (Option ℕ)) (rs : List StepRecord) (c : ℕ) → keys ≡ classes_by by_key rs → c ≡ key_bucket key
    → (k : ℕ) (r : StepRecord) → slice_get rs k ≡ Some r → accesses key r ≡ true → cell_at keys k ≡ Some c
access_in_class key keys rs c keyed e k r is same = class_there by_key keys rs keyed k r is ∙ by r.fact.access same ∙ ap Some (sym e)
  where
    by : (a : Option Access) → is_access key a ≡ true → option_map (λ (a : Access). key_bucket a.key) a ≡ Some (key_bucket key)
    by None h = cc
    by (Some a) h = ap (λ (q : Key). Some (key_bucket q)) (same_key a.key key h)
