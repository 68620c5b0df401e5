-- A thread has its mark where it is the first of its hash, or among the others.
use Rattle.std.proofs.Common.{◌≡◌, Bool, true, false, cond, List, [], ◌∷◌, ◌++◌, Option, None, Some, nat_eq, eq-eqb, eqb-true, refl, ap, sym, ◌∙◌}
use Rattle.std.specs.Prelude.{◌||◌, option_map}
use Rattle.std.specs.List.{list_any}
use Rattle.std.proofs.lemmas.Bool.{both_ways, false_from_ne_true}
use Rattle.std.proofs.lemmas.Option.{same_Some}
use Rattle.step_names.proofs.OrderLaws.{thread_same}
use Rattle.step_names.specs.Thread.{Thread}
use Rattle.saved_steps.specs.World.{is_same_thread}
use Rattle.saved_steps.specs.declared.fact.Fact.{Fact}
use Rattle.depends.specs.Hashes.{thread_hash}
use Rattle.depends.specs.Kinds.{is_it, is_of_thread}
use Rattle.depends.proofs.Anyone.{any_more, or_false}

or_turn : (a b : Bool) → (a || b) ≡ (b || a)
or_turn true true = refl
or_turn true false = refl
or_turn false true = refl
or_turn false false = refl

or_same : (a b : Bool) → (b ≡ true → a ≡ true) → a ≡ (a || b)
or_same true b f = refl
or_same false true f = f refl
or_same false false f = refl

-- o is the first of a thread's hash
module _ (facts : List Fact) (f : Fact) (t : Thread) (o : Option Thread) (other : Bool) (are : (is_it o t || other) ≡ list_any (is_of_thread t) facts) where
  -- the thread was there
  pub thread_there : (u : Thread) → (first : Option Thread) → first ≡ Some u → is_same_thread u f.name.thread ≡ true → (thread_hash f.name.thread ≡ thread_hash t → o ≡ first) → (is_it o t || other) ≡ list_any (is_of_thread t) (facts ++ f ∷ [])
  thread_there u first is same here =
      are ∙ or_same (list_any (is_of_thread t) facts) (is_of_thread t f) known ∙ sym (any_more (is_of_thread t) facts f)
    where
      known : is_of_thread t f ≡ true → list_any (is_of_thread t) facts ≡ true
      known k =
          let e : f.name.thread ≡ t = thread_same f.name.thread t k in
          sym are ∙ ap (λ x. is_it x t || other) (here (ap thread_hash e) ∙ is) ∙ ap (λ x. is_same_thread u x || other) (sym e) ∙ ap (λ b. b || other) same

  -- it is the first of its hash
  pub thread_first : (new : Option Thread) → new ≡ cond (nat_eq (thread_hash f.name.thread) (thread_hash t)) (Some f.name.thread) o → (thread_hash f.name.thread ≡ thread_hash t → o ≡ None) → (is_it new t || other) ≡ list_any (is_of_thread t) (facts ++ f ∷ [])
  thread_first new e none = ap (λ x. is_it x t || other) e ∙ by (nat_eq (thread_hash f.name.thread) (thread_hash t)) refl ∙ sym (any_more (is_of_thread t) facts f)
    where
      by : (b : Bool) → nat_eq (thread_hash f.name.thread) (thread_hash t) ≡ b → (is_it (cond (nat_eq (thread_hash f.name.thread) (thread_hash t)) (Some f.name.thread) o) t || other) ≡ (list_any (is_of_thread t) facts || is_of_thread t f)
      by true k =
          let old : other ≡ list_any (is_of_thread t) facts = sym (ap (λ x. is_it x t || other) (none (eqb-true _ _ k))) ∙ are in
          rw k (or_turn (is_of_thread t f) other ∙ ap (λ b. b || is_of_thread t f) old)
      by false k =
          let apart : is_of_thread t f ≡ false = false_from_ne_true (is_of_thread t f) (λ s. both_ways _ k (eq-eqb _ _ (ap thread_hash (thread_same f.name.thread t s)))) in
          rw (k, apart) (are ∙ sym (or_false (list_any (is_of_thread t) facts)))

-- ---- what is told of the first

pub told_so : (o : Option Thread) (p : Thread → Bool) → option_map p o ≡ Some true → (u : Thread) × (o ≡ Some u) × (p u ≡ true)
told_so None p h = absurd (let e : None ≡ Some true = h in cc)
told_so (Some u) p h = (u, refl, same_Some (p u) true h)

pub told_none : (o : Option Thread) (p : Thread → Bool) → option_map p o ≡ None → o ≡ None
told_none None p h = refl
told_none (Some u) p h = absurd (let e : Some (p u) ≡ None = h in cc)
