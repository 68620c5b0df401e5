-- The rules of a Choice are one list at most.
use Rattle.std.proofs.Common.{◌≡◌, ℕ, List, [], ◌∷◌, ◌++◌, Option, Some, None, false, refl, sym, ap, ap₂, subst, ◌∙◌, codes, option_and_then}
use Rattle.serde_json.specs.Data.{Data as Source, Items, no_items, item}
use Rattle.serde_json.specs.Find.{get, as_str, as_array}
use Rattle.asl_fields.specs.PathStep.{PathStep}
use Rattle.asl_fields.proofs.OneField.{one_path}
use Rattle.asl_fields.specs.declared.fields.Place.{Place}
use Rattle.asl_fields.specs.declared.fields.Place.TheVariants as at
use Rattle.asl_states.proofs.Shapes.{test_of-inj}
use Rattle.asl_states.specs.TestFields.{first_asked, asked_by, comparison_asked, test_form_of, IsTest, IsOfForm, OnItems, OnField, TestsAre, IsRule, RulesAre, AreRules}
use Rattle.asl_states.specs.TestTree.{TestTree, all_of, any_of, negation, compare, TestTrees, no_tests, test}
use Rattle.asl_states.specs.TestView.{test_of}
use Rattle.asl_states.specs.declared.choice.Comparison.{Comparison}
use Rattle.asl_states.specs.declared.choice.Rule.{Rule}
use Rattle.asl_states.specs.declared.choice.Test.{Test}
use Rattle.asl_states.specs.declared.test_readers.TestForm.{TestForm}
use Rattle.asl_states.specs.declared.test_readers.TestForm.TheVariants.{And, Or, Not, Compare}

both_items : (P Q : Items → Type 0) (X : Type 0) → ((ds : Items) → P ds → Q ds → X) → (o : Option Items) → OnItems P o → OnItems Q o → X
both_items P Q X f None h k = absurd h
both_items P Q X f (Some no_items) h k = absurd h
both_items P Q X f (Some (item d ds)) h k = f (item d ds) h k

both_field : (P Q : Source → Type 0) (X : Type 0) → ((d : Source) → P d → Q d → X) → (o : Option Source) → OnField P o → OnField Q o → X
both_field P Q X f None h k = absurd h
both_field P Q X f (Some d) h k = f d h k

mutual
  one_of_form : (t : TestTree) (form : Option TestForm) (d : Source) (u : TestTree) → IsOfForm form d t → IsOfForm form d u → t ≡ u
  one_of_form (all_of ts) (Some And) d (all_of us) h k =
      ap all_of (both_items (λ ds. TestsAre ds ts) (λ ds. TestsAre ds us) (ts ≡ us) (λ ds a b. one_items ts ds us a b) (option_and_then as_array (get (codes "And") d)) h k)
  one_of_form (any_of ts) (Some Or) d (any_of us) h k =
      ap any_of (both_items (λ ds. TestsAre ds ts) (λ ds. TestsAre ds us) (ts ≡ us) (λ ds a b. one_items ts ds us a b) (option_and_then as_array (get (codes "Or") d)) h k)
  one_of_form (negation t) (Some Not) d (negation u) h k =
      ap negation (both_field (λ e. IsTest at.Test e t) (λ e. IsTest at.Test e u) (t ≡ u) (λ e a b. one_of_form t (test_form_of e) e u a.1 b.1) (get (codes "Not") d) h k)
  one_of_form (compare p c) (Some Compare) d (compare q b) h k =
      let paths : Some p ≡ Some q = one_path (get (codes "Variable") d) (Some p) (Some q) h.0 k.0 in
      let path : p ≡ q = cc in
      let comparisons : Some c ≡ Some b = sym h.1 ∙ k.1 in
      let comparison : c ≡ b = cc in
      ap₂ compare path comparison
  one_of_form t None d u h k = absurd h
  one_of_form (all_of ts) (Some And) d (any_of us) h k = absurd k
  one_of_form (all_of ts) (Some And) d (negation u) h k = absurd k
  one_of_form (all_of ts) (Some And) d (compare q b) h k = absurd k
  one_of_form (any_of ts) (Some And) d u h k = absurd h
  one_of_form (negation t) (Some And) d u h k = absurd h
  one_of_form (compare p c) (Some And) d u h k = absurd h
  one_of_form (all_of ts) (Some Or) d u h k = absurd h
  one_of_form (any_of ts) (Some Or) d (all_of us) h k = absurd k
  one_of_form (any_of ts) (Some Or) d (negation u) h k = absurd k
  one_of_form (any_of ts) (Some Or) d (compare q b) h k = absurd k
  one_of_form (negation t) (Some Or) d u h k = absurd h
  one_of_form (compare p c) (Some Or) d u h k = absurd h
  one_of_form (all_of ts) (Some Not) d u h k = absurd h
  one_of_form (any_of ts) (Some Not) d u h k = absurd h
  one_of_form (negation t) (Some Not) d (all_of us) h k = absurd k
  one_of_form (negation t) (Some Not) d (any_of us) h k = absurd k
  one_of_form (negation t) (Some Not) d (compare q b) h k = absurd k
  one_of_form (compare p c) (Some Not) d u h k = absurd h
  one_of_form (all_of ts) (Some Compare) d u h k = absurd h
  one_of_form (any_of ts) (Some Compare) d u h k = absurd h
  one_of_form (negation t) (Some Compare) d u h k = absurd h
  one_of_form (compare p c) (Some Compare) d (all_of us) h k = absurd k
  one_of_form (compare p c) (Some Compare) d (any_of us) h k = absurd k
  one_of_form (compare p c) (Some Compare) d (negation u) h k = absurd k

  one_items : (ts : TestTrees) (ds : Items) (us : TestTrees) → TestsAre ds ts → TestsAre ds us → ts ≡ us
  one_items no_tests no_items no_tests h k = refl
  one_items (test t ts) (item d ds) (test u us) h k = ap₂ test (one_of_form t (test_form_of d) d u h.0.1 k.0.1) (one_items ts ds us h.1 k.1)
  one_items no_tests no_items (test u us) h k = absurd k
  one_items (test t ts) (item d ds) no_tests h k = absurd k
  one_items no_tests (item d ds) us h k = absurd h
  one_items (test t ts) no_items us h k = absurd h

one_test : (place : Place) (d : Source) (t u : TestTree) → IsTest place d t → IsTest place d u → t ≡ u
one_test place d t u h k = one_of_form t (test_form_of d) d u h.1 k.1

-- ---- rules

one_rule : (d : Source) (r s : Rule) → IsRule d r → IsRule d s → r ≡ s
one_rule d r s h k =
    let same_test : r.test ≡ s.test = test_of-inj r.test s.test (one_test at.Rule d (test_of r.test) (test_of s.test) h.0 k.0) in
    let both : Some r.next ≡ Some s.next = sym h.1 ∙ k.1 in
    let same_next : r.next ≡ s.next = cc in
    let make : Test → List ℕ → Rule = λ t n. record { test = t; next = n } in
    ap (λ t. make t r.next) same_test ∙ ap (λ n. make s.test n) same_next

one_rules : (ds : Items) (before rs ss : List Rule) → RulesAre ds before rs → RulesAre ds before ss → rs ≡ ss
one_rules no_items before rs ss h k = h ∙ sym k
one_rules (item d ds) before rs ss h k =
    let same : k.0 ≡ h.0 = one_rule d k.0 h.0 k.1 h.1 in
    one_rules ds (before ++ h.0 ∷ []) rs ss h.2 (subst (λ (r : Rule). RulesAre ds (before ++ r ∷ []) ss) same k.2)

pub rules_are_one : (d : Source) (rs ss : List Rule) → AreRules d rs → AreRules d ss → rs ≡ ss
rules_are_one d rs ss h k =
    both_items (λ ds. RulesAre ds [] rs) (λ ds. RulesAre ds [] ss) (rs ≡ ss) (λ ds a b. one_rules ds [] rs ss a b) (option_and_then as_array (get (codes "Choices") d)) h k
