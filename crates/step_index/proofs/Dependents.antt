-- The first step that depends directly on one, found in the classes where they meet.
use Rattle.std.proofs.Common.{◌≡◌, ◌+◌, ℕ, true, false, Option, None, Some, List, refl, ap, sym, subst, ◌∙◌, inl, inr, ◌⊎◌}
use Rattle.std.specs.Prelude.{slice_get, position, ◌||◌, map}
use Rattle.std.proofs.lemmas.Option.{none-some}
use Rattle.linked_classes.specs.Cells.{cell_at}
use Rattle.linked_classes.specs.Sets.{Classed}
use Rattle.step_names.specs.declared.step.StepName.{StepName}
use Rattle.saved_steps.specs.Steps.{is_fork, is_write}
use Rattle.saved_steps.specs.World.{is_same_step}
use Rattle.saved_steps.specs.declared.fact.Access.{Access}
use Rattle.saved_steps.specs.declared.record.StepRecord.{StepRecord}
use Rattle.depends.specs.Dependence.{conflicts, is_start}
use Rattle.depends.specs.Plans as plans
use Rattle.step_index.specs.Buckets.{by_name, by_thread, by_exec, by_gate, by_key, by_write, key_bucket, name_bucket, thread_bucket, exec_bucket}
use Rattle.step_index.specs.Records.{AreIndexed, classes_in}
use Rattle.step_index.specs.declared.buckets.Classing.{Classing}
use Rattle.step_index.specs.declared.buckets.Classing.TheVariants.{Names, Threads, Execs, Gates, Keys, Writes}
use Rattle.step_index.specs.Walks.{ConflictsAt, IsFirstFrom, NeedsByName, record_needs, earlier}
use Rattle.step_index.proofs.Firsts.{Everywhere, first_more, first_of_two, first_is, position_is}
use Rattle.step_index.proofs.Listed.{class_there}
use Rattle.step_index.proofs.Meeting.{name_alike, by_name_or_item, meet_in_exec, meet_in_thread_or_gate, meet_in_key, meet_in_write}

-- the places of a class
abbrev pub InClass : Classed StepRecord → Classing → ℕ → ℕ → Type 0
InClass v set c k = cell_at (classes_in v set) k ≡ Some c

module _ (v : Classed StepRecord) (h : AreIndexed v) where
  pub found_by_name : (name : StepName) (c : ℕ) (r : Option ℕ) → c ≡ name_bucket name → IsFirstFrom (InClass v Names c) (λ r. is_same_step r.fact.name name) v.items 0 r → r ≡ position (λ r. is_same_step r.fact.name name) v.items
  found_by_name name c r e found =
      position_is (λ r. is_same_step r.fact.name name) v.items r
      (first_more (InClass v Names c) Everywhere (λ r. is_same_step r.fact.name name) v.items 0 r
      (λ k g is same any. class_there by_name (classes_in v Names) v.items (h.classed Names) k g is ∙ ap Some (name_alike g.fact.name name same ∙ sym e))
      found)

  module _ (at : ℕ) (f : StepRecord) (is : slice_get v.items at ≡ Some f) where
    pub own_exec : cell_at (classes_in v Execs) at ≡ Some (exec_bucket f.fact.name.thread.exec)
    own_exec = class_there by_exec (classes_in v Execs) v.items (h.classed Execs) at f is

    pub own_thread : cell_at (classes_in v Threads) at ≡ Some (thread_bucket f.fact.name.thread)
    own_thread = class_there by_thread (classes_in v Threads) v.items (h.classed Threads) at f is

    pub first_of_exec : (r : Option ℕ) → IsFirstFrom (InClass v Execs (exec_bucket f.fact.name.thread.exec)) (record_needs f) v.items (at + 1) r → IsFirstFrom (NeedsByName v.items f) (record_needs f) v.items (at + 1) r
    first_of_exec r =
        first_more (InClass v Execs (exec_bucket f.fact.name.thread.exec)) (NeedsByName v.items f) (record_needs f) v.items (at + 1) r
        (λ k g there e n. class_there by_exec (classes_in v Execs) v.items (h.classed Execs) k n.0 n.1 ∙ meet_in_exec f.fact n.0.fact n.2)

    pub first_of_thread_or_gate : (c : ℕ) (a b : Option ℕ) → c ≡ exec_bucket f.fact.name.thread.exec → (is_start f.fact.kind || is_fork f.fact.kind) ≡ false
        → IsFirstFrom (InClass v Threads (thread_bucket f.fact.name.thread)) (record_needs f) v.items (at + 1) a → IsFirstFrom (InClass v Gates c) (record_needs f) v.items (at + 1) b → IsFirstFrom (NeedsByName v.items f) (record_needs f) v.items (at + 1) (earlier a b)
    first_of_thread_or_gate c a b e none own closing =
        let t = thread_bucket f.fact.name.thread in
        first_more (λ k. InClass v Threads t k ⊎ InClass v Gates c k) (NeedsByName v.items f) (record_needs f) v.items (at + 1) (earlier a b)
        (λ k g there need n. elim (meet_in_thread_or_gate f.fact n.0.fact n.2 none) [
          | inl x ↦ inl (class_there by_thread (classes_in v Threads) v.items (h.classed Threads) k n.0 n.1 ∙ x)
          | inr x ↦ inr (class_there by_gate (classes_in v Gates) v.items (h.classed Gates) k n.0 n.1 ∙ x ∙ ap Some (sym e))
        ])
        (first_of_two (InClass v Threads t) (InClass v Gates c) (record_needs f) v.items (at + 1) a b own closing)

    pub first_conflict : (r : Option ℕ) → ((c : ℕ) → cell_at (classes_in v Keys) at ≡ Some c → IsFirstFrom (InClass v Keys c) (record_needs f) v.items (at + 1) r) → (cell_at (classes_in v Keys) at ≡ None → r ≡ None) → IsFirstFrom (ConflictsAt v.items f) (record_needs f) v.items (at + 1) r
    first_conflict r some none = by (cell_at (classes_in v Keys) at) refl
      where
        own : cell_at (classes_in v Keys) at ≡ by_key f.fact
        own = class_there by_key (classes_in v Keys) v.items (h.classed Keys) at f is

        by : (o : Option ℕ) → cell_at (classes_in v Keys) at ≡ o → IsFirstFrom (ConflictsAt v.items f) (record_needs f) v.items (at + 1) r
        by None e =
            subst (IsFirstFrom (ConflictsAt v.items f) (record_needs f) v.items (at + 1)) (sym (none e))
            (λ k g there l n. let m = meet_in_key f.fact n.0.fact n.2 in absurd (none-some m.0 (sym e ∙ own ∙ m.1)))
        by (Some c) e =
            first_more (InClass v Keys c) (ConflictsAt v.items f) (record_needs f) v.items (at + 1) r
            (λ k g there need n.
            let m = meet_in_key f.fact n.0.fact n.2 in
            class_there by_key (classes_in v Keys) v.items (h.classed Keys) k n.0 n.1 ∙ m.2 ∙ sym m.1 ∙ sym own ∙ e)
            (some c e)

    pub no_conflict : f.fact.access ≡ None → IsFirstFrom (ConflictsAt v.items f) (record_needs f) v.items (at + 1) None
    no_conflict none = λ k g there l n. absurd (let x : false ≡ true = sym (ap (λ o. conflicts o n.0.fact.access) none) ∙ n.2 in cc)

    pub first_write : (a : Access) (c : ℕ) (r : Option ℕ) → f.fact.access ≡ Some a → is_write a.mode ≡ false → c ≡ key_bucket a.key → IsFirstFrom (InClass v Writes c) (record_needs f) v.items (at + 1) r → IsFirstFrom (ConflictsAt v.items f) (record_needs f) v.items (at + 1) r
    first_write a c r has reads e =
        first_more (InClass v Writes c) (ConflictsAt v.items f) (record_needs f) v.items (at + 1) r
        (λ k g there need n. class_there by_write (classes_in v Writes) v.items (h.classed Writes) k n.0 n.1 ∙ meet_in_write f.fact n.0.fact a has reads n.2 ∙ ap Some (sym e))

pub first_of_all : (rs : List StepRecord) (at : ℕ) (f : StepRecord) → slice_get rs at ≡ Some f → (a b : Option ℕ) → IsFirstFrom (NeedsByName rs f) (record_needs f) rs (at + 1) a → IsFirstFrom (ConflictsAt rs f) (record_needs f) rs (at + 1) b
    → earlier a b ≡ plans.first_dependent (map (λ (r : StepRecord). r.fact) rs) at
first_of_all rs at f is a b named conflicting =
    first_is rs at f (earlier a b) is
    (first_more (λ k. NeedsByName rs f k ⊎ ConflictsAt rs f k) Everywhere (record_needs f) rs (at + 1) (earlier a b)
    (λ k g there need any. elim (by_name_or_item f.fact g.fact need) [ inl x ↦ inl (g, there, x) | inr x ↦ inr (g, there, x) ])
    (first_of_two (NeedsByName rs f) (ConflictsAt rs f) (record_needs f) rs (at + 1) a b named conflicting))
