-- A tree of numbers for each template, and no tree for two: by it a proof tells templates apart.
use base.Stored.{Gv, gnil, gnum, gcons}
use Rattle.std.specs.Prelude.{◌≡◌, ℕ, List, refl}
use Rattle.std.specs.Coded.{Coded, coded_ℕ, coded_list, coded×}
use Rattle.std.proofs.Common.{ap, ap₂}
use Rattle.json_tree.specs.DataCode.{data_code}
use Rattle.ref_paths.specs.Templates.{Payload, constant, from_input, item_index, from_item, list, fields, Payloads, no_payloads, payload, NamedPayloads, no_named, named}
use Rattle.ref_paths.specs.contracts.path.PathStep as path_step
use Rattle.ref_paths.specs.declared.path.PathStep.{PathStep}

abbrev pub steps_code : Coded (List PathStep)
steps_code = coded_list path_step.the_row.coded

abbrev mutual
  pub payload_gv : Payload → Gv
  payload_gv (constant d) = gcons (gnum 0) (data_code.code d)
  payload_gv (from_input path) = gcons (gnum 1) (steps_code.code path)
  payload_gv item_index = gcons (gnum 2) gnil
  payload_gv (from_item path) = gcons (gnum 3) (steps_code.code path)
  payload_gv (list ps) = gcons (gnum 4) (payloads_gv ps)
  payload_gv (fields fs) = gcons (gnum 5) (named_gv fs)

  pub payloads_gv : Payloads → Gv
  payloads_gv no_payloads = gnil
  payloads_gv (payload p ps) = gcons (payload_gv p) (payloads_gv ps)

  pub named_gv : NamedPayloads → Gv
  named_gv no_named = gnil
  named_gv (named k p fs) = gcons ((coded_list coded_ℕ).code k) (gcons (payload_gv p) (named_gv fs))

abbrev first_of : Gv → Gv
first_of gnil = gnil
first_of (gnum n) = gnil
first_of (gcons a b) = a

abbrev rest_of : Gv → Gv
rest_of gnil = gnil
rest_of (gnum n) = gnil
rest_of (gcons a b) = b

mutual
  pub payload_inj : (p q : Payload) → payload_gv p ≡ payload_gv q → p ≡ q
  payload_inj (constant d) (constant e) h = ap constant (data_code.inj d e (ap rest_of h))
  payload_inj (from_input p) (from_input q) h = ap from_input (steps_code.inj p q (ap rest_of h))
  payload_inj item_index item_index h = refl
  payload_inj (from_item p) (from_item q) h = ap from_item (steps_code.inj p q (ap rest_of h))
  payload_inj (list ps) (list qs) h = ap list (payloads_inj ps qs (ap rest_of h))
  payload_inj (fields fs) (fields gs) h = ap fields (named_inj fs gs (ap rest_of h))
  payload_inj _ _ h = cc

  pub payloads_inj : (ps qs : Payloads) → payloads_gv ps ≡ payloads_gv qs → ps ≡ qs
  payloads_inj no_payloads no_payloads h = refl
  payloads_inj (payload p ps) (payload q qs) h = ap₂ payload (payload_inj p q (ap first_of h)) (payloads_inj ps qs (ap rest_of h))
  payloads_inj _ _ h = cc

  pub named_inj : (fs gs : NamedPayloads) → named_gv fs ≡ named_gv gs → fs ≡ gs
  named_inj no_named no_named h = refl
  named_inj (named k p fs) (named l q gs) h =
      let same_name : k ≡ l = (coded_list coded_ℕ).inj k l (ap first_of h) in
      let same_value : p ≡ q = payload_inj p q (ap (λ g. first_of (rest_of g)) h) in
      let same_rest : fs ≡ gs = named_inj fs gs (ap (λ g. rest_of (rest_of g)) h) in
      cc
  named_inj _ _ h = cc

abbrev pub payload_code : Coded Payload
payload_code = record { code = payload_gv; inj = payload_inj }

abbrev pub payload_list_code : Coded (List Payload)
payload_list_code = coded_list payload_code

abbrev pub payload_fields_code : Coded (List (List ℕ × Payload))
payload_fields_code = coded_list (coded× (coded_list coded_ℕ) payload_code)
