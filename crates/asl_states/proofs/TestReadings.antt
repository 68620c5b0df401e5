-- Tests that are read one after another, how deep they lie, and the faults of one of them.
use Rattle.std.proofs.Common.{◌≡◌, ℕ, zero, suc, max, ◌+◌, ◌*◌, ◌<◌, ◌≤◌, ◌==◌, Bool, true, false, List, [], ◌∷◌, ◌++◌, length, get_or, drop, Option, Some, None, Result, Ok, Err, IfOk, IfErr, option_and_then, Ordering, Less, Equal, Greater, codes, ap, inl, inr, arith, append_assoc, append-nil, add-one, drop-cons, refl, subst, sym, ◌∙◌}
use Rattle.std.proofs.lemmas.List.{map-append, drop_all}
use Rattle.std.specs.Result.{IsErrAnd}
use Rattle.std.specs.Cmp.Lexicographic.{slice_cmp}
use Rattle.std.specs.Ordering.{nat_cmp, match_ordering}
use Rattle.serde_json.specs.Data.{Data as Source, null, boolean, number, string, array, object, Items, no_items, item, Members, no_members, member, depth, items_depth, members_depth}
use Rattle.serde_json.specs.Find.{get, get_member, as_array, as_object}
use Rattle.serde_json.specs.View.{view, items_view}
use Rattle.serde_json.specs.declared.value.Value.{Value}
use Rattle.asl_fields.specs.PathStep.{PathStep}
use Rattle.asl_fields.proofs.OneField.{one_path}
use Rattle.asl_fields.specs.FieldFaults.{FieldsFault}
use Rattle.asl_fields.specs.Refusal.{RefusesForFault}
use Rattle.asl_fields.specs.Values.{IsPathField}
use Rattle.asl_fields.specs.declared.fault.MachineFault.{MachineFault}
use Rattle.asl_fields.specs.declared.fault.MachineFault.TheVariants.{Missing, UnknownField, Unsupported, BadField, NoTarget, NextAndEnd, StatesAllPlace, TooDeep, Memory}
use Rattle.asl_fields.specs.declared.fields.Place.{Place}
use Rattle.asl_fields.specs.declared.fields.Place.TheVariants as at
use Rattle.asl_states.specs.TestFaults.{SomeTestFault, ListedTestsFault, TestsFieldFault, NotFault, CompareFault, FormFault, ObjectTestFault, TestFaultWithin, TestFault, RuleFault, SomeRuleFault, ListedRulesFault, ChoicesFault}
use Rattle.asl_states.specs.TestFields.{Asked, is_often, test_form_of, OnItems, IsTest, TestsAre}
use Rattle.asl_states.specs.TestTree.{TestTree, test_trees}
use Rattle.asl_states.specs.TestView.{test_of, tests_of}
use Rattle.asl_states.specs.declared.choice.Test.{Test}
use Rattle.asl_states.specs.declared.test_readers.TestForm.{TestForm}
use Rattle.asl_states.specs.declared.test_readers.TestForm.TheVariants.{And, Or, Not, Compare}

pub null_is_no_path : (d : Option Source) (p : List PathStep) → IsPathField d None → IsPathField d (Some p) → ⊥
null_is_no_path d p h k = let no : None ≡ Some p = one_path d None (Some p) h k in cc

pub refuses_map : (e : MachineFault) (P Q : Type 0) → (P → Q) → RefusesForFault e P → RefusesForFault e Q
refuses_map (Missing field) P Q f h = f h
refuses_map (UnknownField field) P Q f h = f h
refuses_map (Unsupported field) P Q f h = f h
refuses_map (BadField field) P Q f h = f h
refuses_map (NoTarget state) P Q f h = f h
refuses_map (NextAndEnd state) P Q f h = f h
refuses_map StatesAllPlace P Q f h = f h
refuses_map TooDeep P Q f h = f h
refuses_map Memory P Q f h = h

pub err_map : {A : Type 0} (r : Result A MachineFault) (P Q : MachineFault → Type 0) → ((e : MachineFault) → P e → Q e) → IfErr r (λ e. RefusesForFault e (P e)) → IfErr r (λ e. RefusesForFault e (Q e))
err_map (Ok x) P Q f h = h
err_map (Err e) P Q f h = refuses_map e (P e) (Q e) (f e) h

-- ---- how deep values lie

member_falls : (k : List ℕ) (ms : Members) (x : Source) → get_member k ms ≡ Some x → depth x ≤ members_depth ms
member_falls k no_members x is = cc is
member_falls k (member l e ms) x is =
    elim (slice_cmp nat_cmp k l) as (λ o. match_ordering o (get_member k ms) (Some e) (get_member k ms) ≡ Some x → depth x ≤ max (depth e) (members_depth ms)) [
      | Less ↦ λ h. omega (arith, member_falls k ms x h)
      | Equal ↦ λ h. let same : e ≡ x = cc in subst (λ (d : Source). depth d ≤ max (depth e) (members_depth ms)) same (omega arith)
      | Greater ↦ λ h. omega (arith, member_falls k ms x h)
    ]
    is

pub field_falls : (k : List ℕ) (d x : Source) → get k d ≡ Some x → depth x < depth d
field_falls k null x is = cc is
field_falls k (boolean b) x is = cc is
field_falls k (number n) x is = cc is
field_falls k (string s) x is = cc is
field_falls k (array ds) x is = cc is
field_falls k (object ms) x is = omega (arith, member_falls k ms x is)

pub list_falls : (d : Source) (ds : Items) → as_array d ≡ Some ds → items_depth ds < depth d
list_falls null ds is = cc is
list_falls (boolean b) ds is = cc is
list_falls (number n) ds is = cc is
list_falls (string s) ds is = cc is
list_falls (array es) ds is = let same : es ≡ ds = cc in subst (λ (fs : Items). items_depth fs < suc (items_depth es)) same (omega arith)
list_falls (object ms) ds is = cc is

value_depth : (from : List Value) (i : ℕ) (v : Value) → i < length from → depth (view (get_or from i v)) ≤ items_depth (items_view from)
value_depth [] i v within = absurd (omega (arith, within))
value_depth (w ∷ from) zero v within = omega arith
value_depth (w ∷ from) (suc i) v within = omega (arith, value_depth from i v (omega (arith, within)))

pub value_falls : (from : List Value) (i : ℕ) (v : Value) → v ≡ get_or from i v → i < length from → depth (view v) ≤ items_depth (items_view from)
value_falls from i v is within = subst (λ (w : Value). depth (view w) ≤ items_depth (items_view from)) (sym is) (value_depth from i v within)

-- ---- what is read so far, and then what is read of the rest, is what is read of all

abbrev pub TestsSoFar : Items → List Test → List Value → Type 0
TestsSoFar all done left = (rest : List TestTree) → TestsAre (items_view left) (test_trees rest) → TestsAre all (test_trees (tests_of done ++ rest))

pub next_value : (from : List Value) (i : ℕ) (v : Value) → v ≡ get_or from i v → i < length from → drop i from ≡ v ∷ drop (i + 1) from
next_value from i v is within = drop-cons from i v within ∙ rw (← is, add-one)

pub tests_step : (all : Items) (from : List Value) (i : ℕ) (v : Value) (done done' : List Test) (t : Test) → v ≡ get_or from i v → i < length from → IsTest at.Test (view v) (test_of t) → done' ≡ done ++ t ∷ []
    → TestsSoFar all done (drop i from) → TestsSoFar all done' (drop (i + 1) from)
tests_step all from i v done done' t is within reads grown before rest h =
    let made : tests_of done' ++ rest ≡ tests_of done ++ test_of t ∷ rest =
    ap (λ (ts : List Test). tests_of ts ++ rest) grown ∙ ap (λ (us : List TestTree). us ++ rest) (map-append test_of done (t ∷ [])) ∙ append_assoc (tests_of done) (test_of t ∷ []) rest in
    let next : TestsAre (items_view (drop i from)) (test_trees (test_of t ∷ rest)) =
    subst (λ (vs : List Value). TestsAre (items_view vs) (test_trees (test_of t ∷ rest))) (sym (next_value from i v is within)) (reads, h) in
    subst (λ (us : List TestTree). TestsAre all (test_trees us)) (sym made) (before (test_of t ∷ rest) next)

pub tests_end : (all : Items) (from : List Value) (i : ℕ) (done : List Test) → length from ≤ i → TestsSoFar all done (drop i from) → TestsAre all (test_trees (tests_of done))
tests_end all from i done past before =
    let none : TestsAre (items_view (drop i from)) (test_trees []) = subst (λ (vs : List Value). TestsAre (items_view vs) (test_trees [])) (sym (drop_all i from past)) tt in
    subst (λ (us : List TestTree). TestsAre all (test_trees us)) (append-nil (tests_of done)) (before [] none)

pub test_refuses : (field : List ℕ) (from : List Value) (i : ℕ) (v : Value) (e : MachineFault) → v ≡ get_or from i v → i < length from
    → ((n : ℕ) (f : MachineFault) → SomeTestFault (TestFaultWithin n) field (items_view (drop i from)) f → SomeTestFault (TestFaultWithin n) field (items_view from) f)
    → RefusesForFault e (TestFault at.Test field (view v) e) → RefusesForFault e ((n : ℕ) × SomeTestFault (TestFaultWithin n) field (items_view from) e)
test_refuses field from i v e is within later fault =
    refuses_map e (TestFault at.Test field (view v) e) ((n : ℕ) × SomeTestFault (TestFaultWithin n) field (items_view from) e)
    (λ f. (f.0, later f.0 e (subst (λ (vs : List Value). SomeTestFault (TestFaultWithin f.0) field (items_view vs) e) (sym (next_value from i v is within)) (inl f.1)))) fault

-- ---- a field's tests

listed_refuse : (F : Place → List ℕ → Source → MachineFault → Type 0) (field : List ℕ) (vs : List Value) (e : MachineFault) → SomeTestFault F field (items_view vs) e → ListedTestsFault F field (Some (items_view vs)) e
listed_refuse F field [] e h = absurd h
listed_refuse F field (v ∷ vs) e h = h

pub tests_refuse : {A : Type 0} (field : List ℕ) (found : Option Source) (d : Source) (vs : List Value) (r : Result A MachineFault) → Some d ≡ found → Some (items_view vs) ≡ as_array d
    → IfErr r (λ e. RefusesForFault e ((n : ℕ) × SomeTestFault (TestFaultWithin n) field (items_view vs) e)) → IfErr r (λ e. RefusesForFault e ((n : ℕ) × TestsFieldFault (TestFaultWithin n) field found e))
tests_refuse field found d vs r is listed h =
    err_map r (λ e. (n : ℕ) × SomeTestFault (TestFaultWithin n) field (items_view vs) e) (λ e. (n : ℕ) × TestsFieldFault (TestFaultWithin n) field found e)
    (λ e f. (f.0, subst (λ (o : Option Source). TestsFieldFault (TestFaultWithin f.0) field o e) is (subst (λ (o : Option Items). ListedTestsFault (TestFaultWithin f.0) field o e) listed (listed_refuse (TestFaultWithin f.0) field vs e f.1)))) h

listed_read : (P : Items → Type 0) (vs : List Value) → (length vs == 0) ≡ false → P (items_view vs) → OnItems P (Some (items_view vs))
listed_read P [] some h = cc some
listed_read P (v ∷ vs) some h = h

pub items_read : {A : Type 0} (P : Items → A → Type 0) (found : Option Source) (d : Source) (vs : List Value) (r : Result A MachineFault) → Some d ≡ found → Some (items_view vs) ≡ as_array d → (length vs == 0) ≡ false
    → IfOk r (P (items_view vs)) → IfOk r (λ x. OnItems (λ ds. P ds x) (option_and_then as_array found))
items_read P found d vs (Ok x) is listed some h =
    subst (λ (o : Option Source). OnItems (λ ds. P ds x) (option_and_then as_array o)) is (subst (λ (o : Option Items). OnItems (λ ds. P ds x) o) listed (listed_read (λ ds. P ds x) vs some h))
items_read P found d vs (Err e) is listed some h = h

rules_listed : (vs : List Value) (e : MachineFault) → SomeRuleFault (items_view vs) e → ListedRulesFault (Some (items_view vs)) e
rules_listed [] e h = absurd h
rules_listed (v ∷ vs) e h = h

pub rules_refuse : {A : Type 0} (found : Option Source) (d : Source) (vs : List Value) (r : Result A MachineFault) → Some d ≡ found → Some (items_view vs) ≡ as_array d
    → IfErr r (λ e. RefusesForFault e (SomeRuleFault (items_view vs) e)) → IfErr r (λ e. RefusesForFault e (ChoicesFault found e))
rules_refuse found d vs r is listed h =
    err_map r (SomeRuleFault (items_view vs)) (ChoicesFault found)
    (λ e f. subst (λ (o : Option Source). ChoicesFault o e) is (subst (λ (o : Option Items). ListedRulesFault o e) listed (rules_listed vs e f))) h

-- ---- a test's own object

pub own_fault : (place : Place) (field : List ℕ) (d : Source) (ms : Members) (e : MachineFault) → Some ms ≡ as_object d → FieldsFault place d e → TestFault place field d e
own_fault place field d ms e is fault = (zero, subst (λ (o : Option Members). ObjectTestFault (λ _ _ _ _. ⊥) place field d o e) is (inl fault))

pub inner_fault : (n : ℕ) (place : Place) (field : List ℕ) (d : Source) (ms : Members) (form : Option TestForm) (e : MachineFault) → Some ms ≡ as_object d → form ≡ test_form_of d → FormFault (TestFaultWithin n) form d e
    → TestFault place field d e
inner_fault n place field d ms form e is formed fault =
    (suc n, subst (λ (o : Option Members). ObjectTestFault (TestFaultWithin n) place field d o e) is (inr (subst (λ (o : Option TestForm). FormFault (TestFaultWithin n) o d e) formed fault)))

-- ---- comparisons

-- whether several stand, where one was seen or none
abbrev pub often_after : Bool → List Asked → Bool
often_after true [] = false
often_after true (a ∷ rest) = true
often_after false rest = is_often rest

-- an error that is passed on
pub passed_on : {T E : Type 0} (r : Result T E) (e : E) (P : E → Type 0) → IsErrAnd r (λ x. x ≡ e) → P e → IfErr r P
passed_on (Ok x) e P is h = tt
passed_on (Err x) e P is h = subst P (sym is) h

pub rule_refuses : (from : List Value) (i : ℕ) (v : Value) (e : MachineFault) → v ≡ get_or from i v → i < length from → ((f : MachineFault) → SomeRuleFault (items_view (drop i from)) f → SomeRuleFault (items_view from) f)
    → RefusesForFault e (RuleFault (view v) e) → RefusesForFault e (SomeRuleFault (items_view from) e)
rule_refuses from i v e is within later fault =
    refuses_map e (RuleFault (view v) e) (SomeRuleFault (items_view from) e)
    (λ f. later e (subst (λ (vs : List Value). SomeRuleFault (items_view vs) e) (sym (next_value from i v is within)) (inl f))) fault

pub form_refuses : (G : ℕ → MachineFault → Type 0) (place : Place) (field : List ℕ) (d : Source) (ms : Members) (form : TestForm) (e : MachineFault) → Some ms ≡ as_object d → Some form ≡ test_form_of d
    → ((n : ℕ) → G n e → FormFault (TestFaultWithin n) (Some form) d e) → RefusesForFault e ((n : ℕ) × G n e) → RefusesForFault e (TestFault place field d e)
form_refuses G place field d ms form e is formed told fault =
    refuses_map e ((n : ℕ) × G n e) (TestFault place field d e) (λ f. inner_fault f.0 place field d ms (Some form) e is formed (told f.0 f.1)) fault

pub later_step : (field : List ℕ) (from : List Value) (i : ℕ) (v : Value) → v ≡ get_or from i v → i < length from
    → ((n : ℕ) (f : MachineFault) → SomeTestFault (TestFaultWithin n) field (items_view (drop i from)) f → SomeTestFault (TestFaultWithin n) field (items_view from) f)
    → (n : ℕ) (f : MachineFault) → SomeTestFault (TestFaultWithin n) field (items_view (drop (i + 1) from)) f → SomeTestFault (TestFaultWithin n) field (items_view from) f
later_step field from i v is within later n f fault =
    later n f (subst (λ (vs : List Value). SomeTestFault (TestFaultWithin n) field (items_view vs) f) (sym (next_value from i v is within)) (inr fault))
