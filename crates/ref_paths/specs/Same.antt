-- Equality of paths and of templates: that of their steps, and of what stands at each place.
use Rattle.std.specs.Prelude.{◌≡◌, ℕ, Bool, true, false, ◌&&◌, List, [], ◌∷◌, Option, Some, None, ◌==◌, refl}
use Rattle.std.proofs.Common.{ap, subst, sym, ◌∙◌}
use Rattle.std.proofs.lemmas.Slice.Eq.{bytes_eq-Decides, slice_eq-Decides}
use Rattle.std.specs.Bool.{Decides}
use Rattle.std.specs.Cmp.Derive.{both_true}
use Rattle.std.specs.Cmp.{IsEquivalence, Equal-is, both_ways, tied_itself, unsigned_Decides}
use Rattle.std.specs.Option.{option_eq}
use Rattle.std.specs.Ordering.{eq_by_cmp, is_eq}
use lib.Pointwise.{pointwise}
use Rattle.json_tree.proofs.Same.{data_same}
use Rattle.json_tree.specs.Data.{Data}
use Rattle.json_tree.specs.Order.{data_cmp, data_cmp_total}
use Rattle.ref_paths.specs.Templates.{Payload, constant, from_input, item_index, from_item, list, fields, Payloads, no_payloads, payload, NamedPayloads, no_named, named}
use Rattle.ref_paths.specs.declared.path.PathStep.{PathStep}
use Rattle.ref_paths.specs.declared.path.PathStep.TheVariants.{Name, Index}

abbrev pub same_text : List ℕ → List ℕ → Bool
same_text = pointwise ◌==◌

abbrev pub same_data : Data → Data → Bool
same_data = eq_by_cmp data_cmp

abbrev pub same_path_step : PathStep → PathStep → Bool
same_path_step (Name s) (Name t) = same_text s t
same_path_step (Name s) (Index j) = false
same_path_step (Index i) (Name t) = false
same_path_step (Index i) (Index j) = i == j

abbrev pub same_payload_path : List PathStep → List PathStep → Bool
same_payload_path = pointwise same_path_step

abbrev mutual
  pub same_payload : Payload → Payload → Bool
  same_payload (constant d) (constant e) = same_data d e
  same_payload (from_input p) (from_input q) = same_payload_path p q
  same_payload item_index item_index = true
  same_payload (from_item p) (from_item q) = same_payload_path p q
  same_payload (list ps) (list qs) = same_payloads ps qs
  same_payload (fields fs) (fields gs) = same_fields fs gs
  same_payload _ _ = false

  pub same_payloads : Payloads → Payloads → Bool
  same_payloads no_payloads no_payloads = true
  same_payloads no_payloads (payload q qs) = false
  same_payloads (payload p ps) no_payloads = false
  same_payloads (payload p ps) (payload q qs) = same_payload p q && same_payloads ps qs

  pub same_fields : NamedPayloads → NamedPayloads → Bool
  same_fields no_named no_named = true
  same_fields no_named (named l q gs) = false
  same_fields (named k p fs) no_named = false
  same_fields (named k p fs) (named l q gs) = same_text k l && (same_payload p q && same_fields fs gs)

-- ---- a test that holds of equal values and of no others

abbrev pub IsExact : {A : Type 0} → (A → A → Bool) → Type 0
IsExact {A} E = (x y : A) → Decides (E x y) (x ≡ y)

-- it is enough that it holds of each value with itself, and of no two
pub exact : {A : Type 0} (E : A → A → Bool) → ((x y : A) → E x y ≡ true → x ≡ y) → ((x : A) → E x x ≡ true) → IsExact E
exact E one itself x y = (one x y, λ same. subst (λ z. E x z ≡ true) same (itself x))

pub exact_equiv : {A : Type 0} (E : A → A → Bool) → IsExact E → IsEquivalence E
exact_equiv E e = record {
  refl = λ x. (e x x).1 refl;
  symm = λ x y. both_ways (E x y) (E y x) (λ h. (e y x).1 (sym ((e x y).0 h))) (λ h. (e x y).1 (sym ((e y x).0 h)));
  congr = λ x y z h. ap (λ w. E w z) ((e x y).0 h);
}

pub first_true : (a b : Bool) → a && b ≡ true → a ≡ true
first_true true b h = refl
first_true false b h = h

pub second_true : (a b : Bool) → a && b ≡ true → b ≡ true
second_true true b h = h
second_true false b h = cc

pub text_exact : IsExact same_text
text_exact = bytes_eq-Decides

pub data_exact : IsExact same_data
data_exact = exact same_data (λ d e h. data_same d e ((Equal-is (data_cmp d e)).0 h)) (λ d. ap is_eq (tied_itself data_cmp_total d))

step_one : (a b : PathStep) → same_path_step a b ≡ true → a ≡ b
step_one (Name s) (Name t) h = ap Name ((text_exact s t).0 h)
step_one (Name s) (Index j) h = cc
step_one (Index i) (Name t) h = cc
step_one (Index i) (Index j) h = ap Index ((unsigned_Decides i j).0 h)

step_itself : (a : PathStep) → same_path_step a a ≡ true
step_itself (Name s) = (text_exact s s).1 refl
step_itself (Index i) = (unsigned_Decides i i).1 refl

pub path_step_exact : IsExact same_path_step
path_step_exact = exact same_path_step step_one step_itself

pub list_exact : {A : Type 0} (E : A → A → Bool) → IsExact E → IsExact (pointwise E)
list_exact E e xs ys = slice_eq-Decides e xs ys (pointwise E xs ys) refl

option_one : {A : Type 0} (E : A → A → Bool) → IsExact E → (x y : Option A) → option_eq E x y ≡ true → x ≡ y
option_one E e None None h = refl
option_one E e None (Some y) h = cc
option_one E e (Some x) None h = cc
option_one E e (Some x) (Some y) h = ap Some ((e x y).0 h)

option_itself : {A : Type 0} (E : A → A → Bool) → IsExact E → (x : Option A) → option_eq E x x ≡ true
option_itself E e None = refl
option_itself E e (Some x) = (e x x).1 refl

pub option_exact : {A : Type 0} (E : A → A → Bool) → IsExact E → IsExact (option_eq E)
option_exact E e = exact (option_eq E) (option_one E e) (option_itself E e)

pub path_exact : IsExact same_payload_path
path_exact = list_exact same_path_step path_step_exact

mutual
  payload_one : (p q : Payload) → same_payload p q ≡ true → p ≡ q
  payload_one (constant d) (constant e) h = ap constant ((data_exact d e).0 h)
  payload_one (from_input p) (from_input q) h = ap from_input ((path_exact p q).0 h)
  payload_one item_index item_index h = refl
  payload_one (from_item p) (from_item q) h = ap from_item ((path_exact p q).0 h)
  payload_one (list ps) (list qs) h = ap list (payloads_one ps qs h)
  payload_one (fields fs) (fields gs) h = ap fields (fields_one fs gs h)
  payload_one _ _ h = cc

  payloads_one : (ps qs : Payloads) → same_payloads ps qs ≡ true → ps ≡ qs
  payloads_one no_payloads no_payloads h = refl
  payloads_one no_payloads (payload q qs) h = cc
  payloads_one (payload p ps) no_payloads h = cc
  payloads_one (payload p ps) (payload q qs) h =
      let first : p ≡ q = payload_one p q (first_true _ _ h) in
      let rest : ps ≡ qs = payloads_one ps qs (second_true (same_payload p q) _ h) in
      cc

  fields_one : (fs gs : NamedPayloads) → same_fields fs gs ≡ true → fs ≡ gs
  fields_one no_named no_named h = refl
  fields_one no_named (named l q gs) h = cc
  fields_one (named k p fs) no_named h = cc
  fields_one (named k p fs) (named l q gs) h =
      let later = second_true (same_text k l) _ h in
      let name : k ≡ l = (text_exact k l).0 (first_true _ _ h) in
      let first : p ≡ q = payload_one p q (first_true _ _ later) in
      let rest : fs ≡ gs = fields_one fs gs (second_true (same_payload p q) _ later) in
      cc

mutual
  payload_itself : (p : Payload) → same_payload p p ≡ true
  payload_itself (constant d) = (data_exact d d).1 refl
  payload_itself (from_input p) = (path_exact p p).1 refl
  payload_itself item_index = refl
  payload_itself (from_item p) = (path_exact p p).1 refl
  payload_itself (list ps) = payloads_itself ps
  payload_itself (fields fs) = fields_itself fs

  payloads_itself : (ps : Payloads) → same_payloads ps ps ≡ true
  payloads_itself no_payloads = refl
  payloads_itself (payload p ps) = both_true (payload_itself p) (payloads_itself ps)

  fields_itself : (fs : NamedPayloads) → same_fields fs fs ≡ true
  fields_itself no_named = refl
  fields_itself (named k p fs) = both_true ((text_exact k k).1 refl) (both_true (payload_itself p) (fields_itself fs))

pub payload_exact : IsExact same_payload
payload_exact = exact same_payload payload_one payload_itself
