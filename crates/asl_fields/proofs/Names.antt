-- Members that may stand, and their faults, one after another.
use Rattle.std.proofs.Common.{◌≡◌, inl, inr, ℕ, List, ◌∷◌, Some, Bool, true, false, ◌&&◌, if◌then◌else◌, String, Global, string_bytes, refl, sym, ap, subst, ◌∙◌}
use Rattle.serde_json.specs.View.{view, members_view}
use Rattle.serde_json.specs.declared.value.Value.{Value}
use Rattle.asl_fields.specs.FieldFaults.{name_fault, fault_of_status, NamesFault}
use Rattle.asl_fields.specs.Fields.{is_known, is_left_out, all_known, field_status}
use Rattle.asl_fields.specs.declared.fault.MachineFault.{MachineFault}
use Rattle.asl_fields.specs.declared.fault.MachineFault.TheVariants.{Unsupported as LeftOut, UnknownField}
use Rattle.asl_fields.specs.declared.fields.Place.{Place}
use Rattle.asl_fields.specs.declared.fields.FieldStatus.{FieldStatus}
use Rattle.asl_fields.specs.declared.fields.FieldStatus.TheVariants.{Known, Unsupported, Unknown}

abbrev stands : Bool → Bool → FieldStatus
stands known left_out = if known then Known else (if left_out then Unsupported else Unknown)

when_known : (k l : Bool) → Known ≡ stands k l → k ≡ true
when_known true l h = refl
when_known false true h = cc h
when_known false false h = cc h

when_unsupported : (k l : Bool) → Unsupported ≡ stands k l → k ≡ false
when_unsupported true l h = cc h
when_unsupported false l h = refl

when_unknown : (k l : Bool) → Unknown ≡ stands k l → k ≡ false
when_unknown true l h = cc h
when_unknown false l h = refl

first_is : (place : Place) (from rest : List (String Global × Value)) (name : String Global) (value : Value) (text : List ℕ) (known : Bool) → from ≡ (name, value) ∷ rest
    → text ≡ string_bytes name → is_known place text ≡ known → all_known place (members_view from) ≡ (known && all_known place (members_view rest))
first_is place from rest name value text known is named knows =
    ap (λ ms. all_known place (members_view ms)) is ∙ ap (λ b. b && all_known place (members_view rest)) (ap (is_known place) (sym named) ∙ knows)

pub names_step : (place : Place) (from rest : List (String Global × Value)) (name : String Global) (value : Value) (text : List ℕ) (all : Bool) → from ≡ (name, value) ∷ rest → text ≡ string_bytes name
    → Known ≡ field_status place text → all_known place (members_view from) ≡ all → all_known place (members_view rest) ≡ all
names_step place from rest name value text all is named known before =
    sym (first_is place from rest name value text true is named (when_known (is_known place text) (is_left_out text) known)) ∙ before

pub names_unsupported : (place : Place) (from rest : List (String Global × Value)) (name : String Global) (value : Value) (text : List ℕ) (all : Bool) → from ≡ (name, value) ∷ rest → text ≡ string_bytes name
    → Unsupported ≡ field_status place text → all_known place (members_view from) ≡ all → all ≡ false
names_unsupported place from rest name value text all is named left_out before =
    sym before ∙ first_is place from rest name value text false is named (when_unsupported (is_known place text) (is_left_out text) left_out)

pub names_unknown : (place : Place) (from rest : List (String Global × Value)) (name : String Global) (value : Value) (text : List ℕ) (all : Bool) → from ≡ (name, value) ∷ rest → text ≡ string_bytes name
    → Unknown ≡ field_status place text → all_known place (members_view from) ≡ all → all ≡ false
names_unknown place from rest name value text all is named unknown before =
    sym before ∙ first_is place from rest name value text false is named (when_unknown (is_known place text) (is_left_out text) unknown)

-- ---- a fault of a name

pub names_later : (place : Place) (from rest : List (String Global × Value)) (name : String Global) (value : Value) (e : MachineFault) → from ≡ (name, value) ∷ rest
    → NamesFault place (members_view rest) e → NamesFault place (members_view from) e
names_later place from rest name value e is fault = subst (λ ms. NamesFault place (members_view ms) e) (sym is) (inr fault)

names_first : (place : Place) (from rest : List (String Global × Value)) (name : String Global) (value : Value) (e : MachineFault) → from ≡ (name, value) ∷ rest
    → name_fault place (string_bytes name) ≡ Some e → NamesFault place (members_view from) e
names_first place from rest name value e is fault = subst (λ ms. NamesFault place (members_view ms) e) (sym is) (inl fault)

pub unsupported_first : (place : Place) (from rest : List (String Global × Value)) (name : String Global) (value : Value) (text told : List ℕ) → from ≡ (name, value) ∷ rest → text ≡ string_bytes name
    → Unsupported ≡ field_status place text → told ≡ text → NamesFault place (members_view from) (LeftOut told)
unsupported_first place from rest name value text told is named left_out same =
    names_first place from rest name value (LeftOut told) is
    (ap (name_fault place) (sym named) ∙ ap (λ s. fault_of_status s text) (sym left_out) ∙ ap (λ t. Some (LeftOut t)) (sym same))

pub unknown_first : (place : Place) (from rest : List (String Global × Value)) (name : String Global) (value : Value) (text told : List ℕ) → from ≡ (name, value) ∷ rest → text ≡ string_bytes name
    → Unknown ≡ field_status place text → told ≡ text → NamesFault place (members_view from) (UnknownField told)
unknown_first place from rest name value text told is named unknown same =
    names_first place from rest name value (UnknownField told) is
    (ap (name_fault place) (sym named) ∙ ap (λ s. fault_of_status s text) (sym unknown) ∙ ap (λ t. Some (UnknownField t)) (sym same))
