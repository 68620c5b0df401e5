-- Classes that are opened for a step, one after another; and that each later step which depends directly on it is due.
use Rattle.std.proofs.Common.{◌≡◌, ◌==◌, ◌≤◌, ◌+◌, arith, ℕ, Bool, true, false, cond, List, [], Option, None, Some, eqb-true, refl, ap, sym, subst, ◌∙◌, inl, inr}
use Rattle.std.specs.Prelude.{◌||◌, nat_eq, option_map, slice_get}
use Rattle.std.specs.BinaryHeap.{heap_items}
use Rattle.std.specs.HashSet.{contains as has_class}
use Rattle.std.specs.List.{list_any}
use Rattle.std.proofs.lemmas.Bool.{eqb-false, false_from_ne_true}
use Rattle.linked_classes.specs.Cells.{cell_at}
use Rattle.saved_steps.specs.declared.fact.Access.{Access}
use Rattle.saved_steps.specs.declared.fact.Fact.{Fact}
use Rattle.saved_steps.specs.declared.record.StepRecord.{StepRecord}
use Rattle.depends.specs.Dependence.{conflicts}
use Rattle.step_index.specs.Buckets.{by_thread, by_exec, by_gate, by_key, by_write, exec_bucket, key_bucket}
use Rattle.step_index.specs.Due.{AllDue, AreDue, AreKept, IsFurther, HasOpenClasses, IsOpenByAccess, IsOpenByName, IsPlaceTaken, Keeps, is_due}
use Rattle.step_index.specs.Queue.{IsLeastPlace}
use Rattle.step_index.specs.Records.{classes_by}
use Rattle.step_index.specs.Walks.{names_need, record_needs}
use Rattle.step_index.specs.declared.due.DuePlaces.{DuePlaces}
use Rattle.step_index.proofs.Listed.{class_there}
use Rattle.step_index.proofs.Meeting.{by_name_or_item, meet_in_exec, meet_in_key, meet_in_thread_or_gate, meet_in_write}
use Rattle.step_index.proofs.Opening.{grown_more, grown_trans}
use Rattle.step_index.proofs.Queued.{or_true}

-- ---- none

pub none_has : (keys : List ℕ) (test : ℕ → Bool) → keys ≡ [] → list_any test keys ≡ true → ⊥
none_has keys test e h = absurd (let x : false ≡ true = sym (ap (list_any test) e) ∙ h in cc)

-- ---- one after another

-- the step at a place passes a test
abbrev pub Pass : (Fact → Bool) → List StepRecord → ℕ → Type 0
Pass test rs k = (g : StepRecord) → slice_get rs k ≡ Some g → test g.fact ≡ true

pub kept_trans : (a b c : DuePlaces) → AreKept a b → AreKept b c → AreKept a c
kept_trans a b c f g = record {
  threads = λ k h. g.threads k (f.threads k h);
  execs = λ k h. g.execs k (f.execs k h);
  gates = λ k h. g.gates k (f.gates k h);
  keys = λ k h. g.keys k (f.keys k h);
  writes = λ k h. g.writes k (f.writes k h);
}

-- for two reasons
pub further_both : (one other : Fact → Bool) (rs : List StepRecord) (at : ℕ) (a b c : DuePlaces) → IsFurther one rs at a b → IsFurther other rs at b c → IsFurther (λ g. one g || other g) rs at a c
further_both one other rs at a b c f g = record {
  kept = kept_trans a b c f.kept g.kept;
  grown = grown_trans (Pass both rs) (is_due a) (is_due b) (is_due c) (grown_more (Pass one rs) (Pass both rs) (is_due a) (is_due b) (λ k p r is. ap (λ x. x || other r.fact) (p r is)) f.grown)
      (grown_more (Pass other rs) (Pass both rs) (is_due b) (is_due c) (λ k p r is. or_true (one r.fact) (other r.fact) (p r is)) g.grown);
  due = λ h. g.due (f.due h);
}
  where
    both : Fact → Bool
    both g = one g || other g

-- what was open for a step is open
pub open_kept : (old new : DuePlaces) (f : Fact) → AreKept old new → HasOpenClasses old f → HasOpenClasses new f
open_kept old new f k o = record { named = named; accessed = accessed f.access o.accessed }
  where
    named : IsOpenByName new f
    named = elim o.named [ inl x ↦ inl (k.execs (exec_bucket f.name.thread.exec) x) | inr x ↦ inr (x.0, k.threads _ x.1, k.gates _ x.2) ]

    accessed : (a : Option Access) → IsOpenByAccess old a → IsOpenByAccess new a
    accessed None h = tt
    accessed (Some a) h = elim h [ inl x ↦ inl (k.keys (key_bucket a.key) x) | inr x ↦ inr (x.0, k.writes _ x.1) ]

-- ---- each later step that depends directly on one is due

module _ (rs : List StepRecord) (from : ℕ) (d : DuePlaces) (due : AreDue rs from d) (k : ℕ) (g : StepRecord) (is : slice_get rs k ≡ Some g) (late : from ≤ k) where
  class_of : (by : Fact → Option ℕ) → cell_at (classes_by by rs) k ≡ by g.fact
  class_of by = class_there by (classes_by by rs) rs refl k g is

  due_by_name : (f : Fact) → IsOpenByName d f → names_need f g.fact ≡ true → is_due d k ≡ true
  due_by_name f o need = elim o [
    | inl x ↦ due.run k (exec_bucket f.name.thread.exec) late (class_of by_exec ∙ meet_in_exec f g.fact need) x
    | inr x ↦ elim (meet_in_thread_or_gate f g.fact need x.0) [ inl y ↦ due.threaded k _ late (class_of by_thread ∙ y) x.1 | inr y ↦ due.gated k _ late (class_of by_gate ∙ y) x.2 ]
  ]

  due_by_access : (f : Fact) → IsOpenByAccess d f.access → conflicts f.access g.fact.access ≡ true → is_due d k ≡ true
  due_by_access f o need = by f.access refl
    where
      accessed : (a : Access) → f.access ≡ Some a → by_key g.fact ≡ Some (key_bucket a.key)
      accessed a has = let m = meet_in_key f g.fact need in m.2 ∙ sym m.1 ∙ ap (option_map (λ (x : Access). key_bucket x.key)) has

      by : (a : Option Access) → f.access ≡ a → is_due d k ≡ true
      by None has = absurd (let x : false ≡ true = sym (ap (λ a. conflicts a g.fact.access) has) ∙ need in cc)
      by (Some a) has = elim (subst (IsOpenByAccess d) has o) [
        | inl x ↦ due.keyed k (key_bucket a.key) late (class_of by_key ∙ accessed a has) x
        | inr x ↦ due.wrote k (key_bucket a.key) late (class_of by_write ∙ meet_in_write f g.fact a has x.0 need) x.1
      ]

  pub due_if_needed : (f : StepRecord) → HasOpenClasses d f.fact → record_needs f g ≡ true → is_due d k ≡ true
  due_if_needed f o need = elim (by_name_or_item f.fact g.fact need) [ inl x ↦ due_by_name f.fact o.named x | inr x ↦ due_by_access f.fact o.accessed x ]

-- ---- the least due place is taken

pub taken : (rs : List StepRecord) (from : ℕ) (old new : DuePlaces) (r : Option ℕ) → AreDue rs from old → AreKept old new → AreKept new old → IsLeastPlace (heap_items old.places.heap) (heap_items new.places.heap) r → IsPlaceTaken rs from old new r
taken rs from old new None due kept back none = none
taken rs from old new (Some p) due kept back first = record {
  low = (due.within p first.there).0;
  within = (due.within p first.there).1;
  least = λ k l. false_from_ne_true (is_due old k) (λ h. let low = (first.least k h) in omega (arith, l, low));
  kept = kept;
  there = first.there;
  fewer = λ k h. (was k h).1;
  due = record {
    within = λ k h. let w = was k h in (behind k w.1 w.0, (due.within k w.1).1);
    threaded = after (classes_by by_thread rs) (has_class nat_eq old.threads) (has_class nat_eq new.threads) back.threads due.threaded;
    run = after (classes_by by_exec rs) (has_class nat_eq old.execs) (has_class nat_eq new.execs) back.execs due.run;
    gated = after (classes_by by_gate rs) (has_class nat_eq old.gates) (has_class nat_eq new.gates) back.gates due.gated;
    keyed = after (classes_by by_key rs) (has_class nat_eq old.keys) (has_class nat_eq new.keys) back.keys due.keyed;
    wrote = after (classes_by by_write rs) (has_class nat_eq old.writes) (has_class nat_eq new.writes) back.writes due.wrote;
  };
}
  where
    was : (k : ℕ) → is_due new k ≡ true → ((p == k) ≡ false) × (is_due old k ≡ true)
    was k h = by (p == k) refl
      where
        by : (b : Bool) → (p == k) ≡ b → ((p == k) ≡ false) × (is_due old k ≡ true)
        by true e = absurd (let x : false ≡ true = sym (first.taken k ∙ ap (λ b. cond b false (is_due old k)) e) ∙ h in cc)
        by false e = (e, sym (first.taken k ∙ ap (λ b. cond b false (is_due old k)) e) ∙ h)

    behind : (k : ℕ) → is_due old k ≡ true → (p == k) ≡ false → p + 1 ≤ k
    behind k h apart = let low = (first.least k h) in let other = eqb-false p k apart in omega (arith, low, other)

    stays : (k : ℕ) → p + 1 ≤ k → is_due old k ≡ true → is_due new k ≡ true
    stays k l h = first.taken k ∙ by (p == k) refl
      where
        by : (b : Bool) → (p == k) ≡ b → cond b false (is_due old k) ≡ true
        by true e = absurd (let x = eqb-true p k e in omega (arith, l, x))
        by false e = h

    after : (classes : List (Option ℕ)) (opened more : ℕ → Bool) → Keeps more opened → AllDue classes from (is_due old) opened → AllDue classes (p + 1) (is_due new) more
    after classes opened more same all = λ k c l is o. stays k l (all k c (let low = (due.within p first.there).0 in omega (arith, l, low)) is (same c o))
