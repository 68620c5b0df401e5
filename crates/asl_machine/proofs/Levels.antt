-- The machines that stand in a machine, level by level.
use Rattle.std.proofs.Common.{◌≤◌, ℕ, zero, suc, ◌+◌, ◌==◌, List, [], ◌∷◌, ◌++◌, length, Option, Some, None, Bool, true, false, cond, Ordering, Less, Equal, Greater, arith, codes, is_eq, sym, subst}
use Rattle.std.specs.Prelude.{IfSome, option_map, option_and_then, slice_get}
use Rattle.std.specs.BTreeMap.{insert_entry, is_at}
use Rattle.std.specs.Cmp.Lexicographic.{slice_cmp}
use Rattle.std.specs.List.{AllByRecursion}
use Rattle.std.specs.Map.{lookup}
use Rattle.std.specs.Ordering.{nat_cmp, match_ordering}
use Rattle.std.proofs.lemmas.Option.{IfSome_then}
use Rattle.serde_json.specs.Data.{Data as Source, Items, no_items, item, Members, no_members, member}
use Rattle.serde_json.specs.Find.{get, as_array}
use Rattle.asl_fields.specs.declared.fields.Place.{Place}
use Rattle.asl_fields.specs.declared.fields.Place.TheVariants as at
use Rattle.asl_tree.specs.Complete.{state_of, IsWellFormed}
use Rattle.asl_tree.specs.Definition.{StateTree, Definition}
use Rattle.asl_tree.specs.Find.{branch_of, machine_at}
use Rattle.asl_tree.specs.Levels.{IsWellFormedThroughout}
use Rattle.asl_machine.specs.Profile.{BranchesAre, ListedBranches, IsProcessor, NamedProcessor, IsOfKind, state_kind_of, IsStateText, StatesAre, MembersAre, states_field, StatesWithin, IsMachine, Defines}
use Rattle.asl_states.specs.Reading.{name_of_two}
use Rattle.asl_tree.specs.TreeView.{tree_of, state_in}
use Rattle.asl_states.specs.declared.kind.StateKind.{StateKind}
use Rattle.asl_states.specs.declared.kind.StateKind.TheVariants as kind
use Rattle.asl_tree.specs.declared.level.LevelStep.{LevelStep}
use Rattle.asl_tree.specs.declared.state.State.{State}
use Rattle.asl_machine.proofs.Whole.{complete_over}
use Rattle.asl_machine.proofs.OneMachine.{is_pass, is_task, is_choice, is_wait, is_succeed, is_fail, is_parallel, is_map}
use Rattle.asl_tree.proofs.Trees.{state_in-tree_of}

and_then_if : {A B : Type 0} (f : A → Option B) (o : Option A) (Q : A → Type 0) (R : B → Type 0) → IfSome o Q → ((a : A) → Q a → IfSome (f a) R) → IfSome (option_and_then f o) R
and_then_if f (Some a) Q R h k = k a h
and_then_if f None Q R h k = tt

module _ {X : Type 0} (Q : X → Type 0) where
  all_more : (xs : List X) (x : X) → AllByRecursion Q xs → Q x → AllByRecursion Q (xs ++ x ∷ [])
  all_more [] x h k = (k, tt)
  all_more (y ∷ xs) x h k = (h.0, all_more xs x h.1 k)

  all_get : (xs : List X) (n : ℕ) → AllByRecursion Q xs → IfSome (slice_get xs n) Q
  all_get [] n h = tt
  all_get (x ∷ xs) zero h = h.0
  all_get (x ∷ xs) (suc n) h = all_get xs n h.1

-- ---- states by name

module _ (Q : State → Type 0) where
  abbrev AllAre : List (List ℕ × StateTree) → Type 0
  AllAre ss = AllByRecursion (λ (e : List ℕ × StateTree). Q (state_in e.1)) ss

  by_order : (o : Ordering) (a b c : List (List ℕ × StateTree)) → AllAre a → AllAre b → AllAre c → AllAre (match_ordering o a b c)
  by_order Less a b c h k l = h
  by_order Equal a b c h k l = k
  by_order Greater a b c h k l = l

  all_inserted : (ss : List (List ℕ × StateTree)) (name : List ℕ) (s : State) → AllAre ss → Q s → AllAre (insert_entry (slice_cmp nat_cmp) ss name (tree_of s))
  all_inserted [] name s h k = (subst Q (sym (state_in-tree_of s)) k, tt)
  all_inserted (e ∷ ss) name s h k =
      let q = subst Q (sym (state_in-tree_of s)) k in
      by_order (slice_cmp nat_cmp name e.0) ((name, tree_of s) ∷ e ∷ ss) ((e.0, tree_of s) ∷ ss) (e ∷ insert_entry (slice_cmp nat_cmp) ss name (tree_of s)) (q, h) (q, h.1)
      (h.0, all_inserted ss name s h.1 k)

  all_found : (ss : List (List ℕ × StateTree)) (name : List ℕ) → AllAre ss → IfSome (state_of name ss) Q
  all_found [] name h = tt
  all_found (e ∷ ss) name h =
      elim (is_eq (slice_cmp nat_cmp name e.0)) as (λ b. IfSome (option_map state_in (cond b (Some e.1) (lookup (is_at (slice_cmp nat_cmp name)) ss))) Q) [
        | true ↦ h.0
        | false ↦ all_found ss name h.1
      ]

-- ---- the machines that a state holds

module _ (P : Place → Source → Definition → Type 0) where
  -- a machine that some object at some place is
  abbrev IsOne : Definition → Type 0
  IsOne m = (place : Place) × (d : Source) × P place d m

  branches_are : (ds : Items) (before ms : List Definition) → AllByRecursion IsOne before → BranchesAre P ds before ms → AllByRecursion IsOne ms
  branches_are no_items before ms h k = subst (AllByRecursion IsOne) (sym k) h
  branches_are (item d ds) before ms h k = branches_are ds (before ++ k.0 ∷ []) ms (all_more IsOne before k.0 h (at.Branch, d, k.1)) k.2

  listed_are : (ds : Option Items) (ms : List Definition) → ListedBranches P ds ms → AllByRecursion IsOne ms
  listed_are None ms h = absurd h
  listed_are (Some ds) ms h = branches_are ds [] ms tt h.0

  processor_is : (d : Option Source) (m : Definition) → IsProcessor P d m → IsOne m
  processor_is None m h = absurd h
  processor_is (Some d) m h = (at.Processor, d, h.1)

  named_is : (d : Source) (name : Option (List ℕ)) (m : Definition) → NamedProcessor P d name m → IsOne m
  named_is d None m h = absurd h
  named_is d (Some name) m h = processor_is (get name d) m h

  first_alone : (b : Bool) (m : Definition) → IsOne m → IfSome (cond b (Some m) None) IsOne
  first_alone true m h = h
  first_alone false m h = tt

  branch_is : (k : Option StateKind) (d : Source) (s : State) (number : ℕ) → IsOfKind P k d s → IfSome (branch_of number s) IsOne
  branch_is (Some kind.Pass) d s number h = let p = is_pass d s h in subst (λ (x : State). IfSome (branch_of number x) IsOne) (sym p.1) tt
  branch_is (Some kind.Task) d s number h = let p = is_task d s h in subst (λ (x : State). IfSome (branch_of number x) IsOne) (sym p.1) tt
  branch_is (Some kind.Choice) d s number h = let p = is_choice d s h in subst (λ (x : State). IfSome (branch_of number x) IsOne) (sym p.1) tt
  branch_is (Some kind.Wait) d s number h = let p = is_wait d s h in subst (λ (x : State). IfSome (branch_of number x) IsOne) (sym p.1) tt
  branch_is (Some kind.Succeed) d s number h = let p = is_succeed d s h in subst (λ (x : State). IfSome (branch_of number x) IsOne) (sym p.1) tt
  branch_is (Some kind.Fail) d s number h = let p = is_fail d s h in subst (λ (x : State). IfSome (branch_of number x) IsOne) (sym p.1) tt
  branch_is (Some kind.Parallel) d s number h =
      let p = is_parallel P d s h in
      subst (λ (x : State). IfSome (branch_of number x) IsOne) (sym p.1) (all_get IsOne p.0.branches number (listed_are (option_and_then as_array (get (codes "Branches") d)) p.0.branches p.2.3))
  branch_is (Some kind.Map) d s number h =
      let p = is_map P d s h in
      subst (λ (x : State). IfSome (branch_of number x) IsOne) (sym p.1) (first_alone (number == 0) p.0.processor (named_is d (name_of_two (codes "ItemProcessor") (codes "Iterator") d) p.0.processor p.2.6))
  branch_is None d s number h = absurd h

  -- a state that some object is
  abbrev IsSomeState : State → Type 0
  IsSomeState s = (d : Source) × IsStateText P d s

  states_are : (ms : Members) (before ss : List (List ℕ × StateTree)) → AllAre IsSomeState before → StatesAre P ms before ss → AllAre IsSomeState ss
  states_are no_members before ss h k = subst (AllAre IsSomeState) (sym k) h
  states_are (member name d ms) before ss h k = states_are ms (insert_entry (slice_cmp nat_cmp) before name (tree_of k.0)) ss (all_inserted IsSomeState before name k.0 h (d, k.1)) k.2

-- ---- levels

within_are : (levels : ℕ) (ms : Option Members) (ss : List (List ℕ × StateTree)) → MembersAre (StatesWithin (suc levels)) ms ss → AllAre (IsSomeState (IsMachine levels)) ss
within_are levels None ss h = absurd h
within_are levels (Some ms) ss h = states_are (IsMachine levels) ms [] ss tt h

no_levels : (ms : Option Members) (ss : List (List ℕ × StateTree)) → MembersAre (StatesWithin zero) ms ss → ⊥
no_levels None ss h = h
no_levels (Some ms) ss h = h

whole_within : (levels : ℕ) (place : Place) (d : Source) (m : Definition) → IsMachine levels place d m → (path : List LevelStep) → IfSome (machine_at path m) (λ n. IsWellFormed n × (length path + 1 ≤ levels))
whole_within zero place d m is path = absurd (no_levels (states_field d) m.states is.2)
whole_within (suc levels) place d m is [] = (complete_over (StatesWithin (suc levels)) place d m is, omega arith)
whole_within (suc levels) place d m is (step ∷ path) =
    and_then_if (λ s. option_and_then (machine_at path) (branch_of step.branch s)) (state_of step.state m.states) (IsSomeState (IsMachine levels)) (λ n. IsWellFormed n × (length (step ∷ path) + 1 ≤ suc levels))
    (all_found (IsSomeState (IsMachine levels)) m.states step.state (within_are levels (states_field d) m.states is.2))
    (λ s k.
    and_then_if (machine_at path) (branch_of step.branch s) (IsOne (IsMachine levels)) (λ n. IsWellFormed n × (length (step ∷ path) + 1 ≤ suc levels)) (branch_is (IsMachine levels) (state_kind_of k.0) k.0 s step.branch k.1)
    (λ b one. IfSome_then (machine_at path b) (whole_within levels one.0 one.1 b one.2 path) (λ n w. let deep = w.1 in (w.0, omega (arith, deep)))))

pub defined_whole : (source : Source) (d : Definition) → Defines source d → IsWellFormedThroughout d
defined_whole source d is path = IfSome_then (machine_at path d) (whole_within 32 at.Top source d is path) (λ m w. let deep = w.1 in (w.0, omega (arith, deep)))
