-- A member that an object has may stand there, where all that it has may.
use Rattle.std.proofs.Common.{◌≡◌, ℕ, List, Option, Some, None, Bool, true, ◌&&◌, Ordering, Less, Equal, Greater, refl, sym, subst, codes}
use Rattle.std.proofs.lemmas.Bool.{and_parts}
use Rattle.std.specs.Ordering.{nat_cmp, match_ordering}
use Rattle.std.specs.Cmp.Lexicographic.{slice_cmp}
use Rattle.serde_json.specs.Data.{Data as Source, null, boolean, number, string, array, object, Members, no_members, member}
use Rattle.serde_json.specs.Find.{get, get_member}
use Rattle.json_tree.proofs.Same.{text_same}
use Rattle.asl_fields.specs.FieldFaults.{query_language_fault, LanguageFault}
use Rattle.asl_fields.specs.Fields.{is_known, all_known, has_known_fields}
use Rattle.asl_fields.specs.declared.fault.MachineFault.{MachineFault}
use Rattle.asl_fields.specs.declared.fields.Place.{Place}

known_at : (o : Ordering) (place : Place) (k l : List ℕ) (x d : Source) (ms : Members) → slice_cmp nat_cmp k l ≡ o → (is_known place l && all_known place ms) ≡ true
    → match_ordering o (get_member k ms) (Some x) (get_member k ms) ≡ Some d → (all_known place ms ≡ true → get_member k ms ≡ Some d → is_known place k ≡ true) → is_known place k ≡ true
known_at Less place k l x d ms same all is rest = rest (and_parts (is_known place l) (all_known place ms) all).1 is
known_at Equal place k l x d ms same all is rest = subst (λ n. is_known place n ≡ true) (sym (text_same k l same)) (and_parts (is_known place l) (all_known place ms) all).0
known_at Greater place k l x d ms same all is rest = rest (and_parts (is_known place l) (all_known place ms) all).1 is

known_member : (place : Place) (k : List ℕ) (ms : Members) (d : Source) → all_known place ms ≡ true → get_member k ms ≡ Some d → is_known place k ≡ true
known_member place k no_members d all is = cc is
known_member place k (member l x ms) d all is = known_at (slice_cmp nat_cmp k l) place k l x d ms refl all is (known_member place k ms d)

known_language : (place : Place) (o : Option Source) (e : MachineFault) → ((d : Source) → o ≡ Some d → is_known place (codes "QueryLanguage") ≡ true) → query_language_fault o ≡ Some e → is_known place (codes "QueryLanguage") ≡ true
known_language place None e known fault = cc fault
known_language place (Some d) e known fault = known d refl

-- an object with a query language that isn't read may name one
pub named_language : (place : Place) (d : Source) (e : MachineFault) → has_known_fields place d ≡ true → query_language_fault (get (codes "QueryLanguage") d) ≡ Some e → LanguageFault place d e
named_language place null e all fault = cc fault
named_language place (boolean b) e all fault = cc fault
named_language place (number n) e all fault = cc fault
named_language place (string s) e all fault = cc fault
named_language place (array ds) e all fault = cc fault
named_language place (object ms) e all fault = (known_language place (get_member (codes "QueryLanguage") ms) e (λ d is. known_member place (codes "QueryLanguage") ms d all is) fault, fault)
