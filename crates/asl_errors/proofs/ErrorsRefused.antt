-- Where `Retry` or `Catch` has a fault, it says nothing.
use Rattle.std.proofs.Common.{◌≡◌, ℕ, List, [], ◌==◌, length, Option, Some, None, Bool, true, false, option_and_then, inl, inr, sym, ap, ◌∙◌, codes}
use Rattle.serde_json.specs.Data.{Data as Source, null, boolean, number, string, array, object, Items, no_items, item}
use Rattle.serde_json.specs.Find.{get, as_str, as_array}
use Rattle.asl_fields.proofs.FieldsRefused.{fields_refused, required_refused}
use Rattle.asl_fields.specs.declared.fault.MachineFault.{MachineFault}
use Rattle.asl_fields.specs.declared.fields.Place.TheVariants as at
use Rattle.asl_errors.proofs.OneErrors.{one_names, one_retriers, one_catchers}
use Rattle.asl_errors.specs.ErrorFaults.{SomeNoText, NoNames, NamesFieldFault, AttemptsFault, RetrierFault, RetriersFault, RetryItemsFault, RetryFault, CatcherFault, CatchersFault, CatchItemsFault, CatchFault, ErrorHandlingFault}
use Rattle.asl_errors.specs.ErrorFields.{NamesAre, SomeNamesAre, AreErrorNames, in_place, retrier_names, catcher_names, IsRetrier, IsCatcher, RetriersAre, CatchersAre, ItemsRetry, ItemsCatch, IsRetry, IsCatch, IsErrorHandling}
use Rattle.asl_errors.specs.declared.errors.Catcher.{Catcher}
use Rattle.asl_errors.specs.declared.errors.ErrorHandling.{ErrorHandling}
use Rattle.asl_errors.specs.declared.errors.Retrier.{Retrier}

no_text_refused : (ds : Items) (before names : List (List ℕ)) → SomeNoText ds → NamesAre ds before names → ⊥
no_text_refused no_items before names fault is = fault
no_text_refused (item d ds) before names fault is =
    elim fault [ inl h ↦ let no : None ≡ Some is.0 = sym h ∙ is.1 in cc | inr h ↦ no_text_refused ds _ names h is.2 ]

list_refused : (ds : Option Items) (names : List (List ℕ)) → NoNames ds → SomeNamesAre ds names → ⊥
list_refused None names fault is = is
list_refused (Some ds) names fault is =
    elim fault [
      | inl h ↦ no_text_refused ds [] names h is.0
      | inr h ↦
          let same : h.0 ≡ names = one_names ds [] h.0 names h.1 is.0 in
          let no : true ≡ false = sym h.2 ∙ ap (λ (ns : List (List ℕ)). length ns == 0) same ∙ is.1 in
          cc
    ]

names_refused : (found : Option Source) (names : List (List ℕ)) (e : MachineFault) → NamesFieldFault found e → SomeNamesAre (option_and_then as_array found) names → ⊥
names_refused None names e fault is = is
names_refused (Some ns) names e fault is = list_refused (as_array ns) names fault.1 is

attempts_refused : (n : Option ℕ) (m : ℕ) → n ≡ None → n ≡ Some m → ⊥
attempts_refused n m none some = let no : None ≡ Some m = sym none ∙ some in cc

retrier_refused : (d : Source) (r : Retrier) (e : MachineFault) → RetrierFault d e → IsRetrier d r → ⊥
retrier_refused null r e fault is = let no : false ≡ true = is.0.0 in cc
retrier_refused (boolean b) r e fault is = let no : false ≡ true = is.0.0 in cc
retrier_refused (number n) r e fault is = let no : false ≡ true = is.0.0 in cc
retrier_refused (string s) r e fault is = let no : false ≡ true = is.0.0 in cc
retrier_refused (array ds) r e fault is = let no : false ≡ true = is.0.0 in cc
retrier_refused (object ms) r e fault is =
    let d = object ms in
    elim fault [
      | inl h ↦ fields_refused at.Retrier d e h is.0
      | inr a ↦
          elim a [ inl h ↦ names_refused (get (codes "ErrorEquals") d) r.errors e h is.1 | inr h ↦ attempts_refused _ r.max_attempts h.1 is.2 ]
    ]

catcher_refused : (d : Source) (c : Catcher) (e : MachineFault) → CatcherFault d e → IsCatcher d c → ⊥
catcher_refused null c e fault is = let no : false ≡ true = is.0.0 in cc
catcher_refused (boolean b) c e fault is = let no : false ≡ true = is.0.0 in cc
catcher_refused (number n) c e fault is = let no : false ≡ true = is.0.0 in cc
catcher_refused (string s) c e fault is = let no : false ≡ true = is.0.0 in cc
catcher_refused (array ds) c e fault is = let no : false ≡ true = is.0.0 in cc
catcher_refused (object ms) c e fault is =
    let d = object ms in
    elim fault [
      | inl h ↦ fields_refused at.Catcher d e h is.0
      | inr a ↦
          elim a [
            | inl h ↦ names_refused (get (codes "ErrorEquals") d) c.errors e h is.1
            | inr b ↦
                elim b [ inl h ↦ required_refused (codes "Next") (get (codes "Next") d) c.next e h is.2 | inr h ↦ h.1 c.result_path is.3 ]
          ]
    ]

retriers_refused : (ds : Items) (before rs : List Retrier) (e : MachineFault) → RetriersFault ds e → RetriersAre ds before rs → ⊥
retriers_refused no_items before rs e fault is = fault
retriers_refused (item d ds) before rs e fault is =
    elim fault [ inl h ↦ retrier_refused d is.0 e h is.1 | inr h ↦ retriers_refused ds _ rs e h is.2 ]

catchers_refused : (ds : Items) (before cs : List Catcher) (e : MachineFault) → CatchersFault ds e → CatchersAre ds before cs → ⊥
catchers_refused no_items before cs e fault is = fault
catchers_refused (item d ds) before cs e fault is =
    elim fault [ inl h ↦ catcher_refused d is.0 e h is.1 | inr h ↦ catchers_refused ds _ cs e h is.2 ]

retry_items_refused : (ds : Option Items) (rs : List Retrier) (e : MachineFault) → RetryItemsFault ds e → ItemsRetry ds rs → ⊥
retry_items_refused None rs e fault is = is
retry_items_refused (Some ds) rs e fault is =
    elim fault [
      | inl h ↦ retriers_refused ds [] rs e h is.0
      | inr h ↦
          let same : h.0 ≡ rs = one_retriers ds [] h.0 rs h.1 is.0 in
          let no : false ≡ true = sym h.2 ∙ ap (λ (us : List Retrier). in_place false (retrier_names us)) same ∙ is.1 in
          cc
    ]

catch_items_refused : (ds : Option Items) (cs : List Catcher) (e : MachineFault) → CatchItemsFault ds e → ItemsCatch ds cs → ⊥
catch_items_refused None cs e fault is = is
catch_items_refused (Some ds) cs e fault is =
    elim fault [
      | inl h ↦ catchers_refused ds [] cs e h is.0
      | inr h ↦
          let same : h.0 ≡ cs = one_catchers ds [] h.0 cs h.1 is.0 in
          let no : false ≡ true = sym h.2 ∙ ap (λ (us : List Catcher). in_place false (catcher_names us)) same ∙ is.1 in
          cc
    ]

retry_refused : (d : Option Source) (rs : List Retrier) (e : MachineFault) → RetryFault d e → IsRetry d rs → ⊥
retry_refused None rs e fault is = fault
retry_refused (Some d) rs e fault is = retry_items_refused (as_array d) rs e fault is

catch_refused : (d : Option Source) (cs : List Catcher) (e : MachineFault) → CatchFault d e → IsCatch d cs → ⊥
catch_refused None cs e fault is = fault
catch_refused (Some d) cs e fault is = catch_items_refused (as_array d) cs e fault is

pub error_handling_refused : (d : Source) (h : ErrorHandling) (e : MachineFault) → ErrorHandlingFault d e → IsErrorHandling d h → ⊥
error_handling_refused d h e fault is =
    elim fault [ inl f ↦ retry_refused (get (codes "Retry") d) h.retriers e f is.0 | inr f ↦ catch_refused (get (codes "Catch") d) h.catchers e f is.1 ]
