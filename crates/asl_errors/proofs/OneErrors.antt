-- What a state does with errors is one thing at most.
use Rattle.std.proofs.Common.{◌≡◌, ℕ, List, [], ◌∷◌, ◌++◌, Option, Some, None, sym, ap, subst, ◌∙◌, codes, option_and_then}
use Rattle.serde_json.specs.Data.{Data as Source, Items, no_items, item}
use Rattle.serde_json.specs.Find.{get, as_str, as_array}
use Rattle.asl_fields.specs.PathStep.{PathStep}
use Rattle.asl_fields.proofs.OneField.{one_path}
use Rattle.asl_errors.specs.ErrorFields.{NamesAre, SomeNamesAre, AreErrorNames, attempts_of, IsRetrier, IsCatcher, RetriersAre, CatchersAre, ItemsRetry, ItemsCatch, IsRetry, IsCatch, IsErrorHandling}
use Rattle.asl_errors.specs.declared.errors.Catcher.{Catcher}
use Rattle.asl_errors.specs.declared.errors.ErrorHandling.{ErrorHandling}
use Rattle.asl_errors.specs.declared.errors.Retrier.{Retrier}

pub one_names : (ds : Items) (before names others : List (List ℕ)) → NamesAre ds before names → NamesAre ds before others → names ≡ others
one_names no_items before names others h k = h ∙ sym k
one_names (item d ds) before names others h k =
    let both : Some k.0 ≡ Some h.0 = sym k.1 ∙ h.1 in
    let same : k.0 ≡ h.0 = cc in
    one_names ds (before ++ h.0 ∷ []) names others h.2 (subst (λ (name : List ℕ). NamesAre ds (before ++ name ∷ []) others) same k.2)

one_list : (ds : Option Items) (names others : List (List ℕ)) → SomeNamesAre ds names → SomeNamesAre ds others → names ≡ others
one_list None names others h k = absurd h
one_list (Some ds) names others h k = one_names ds [] names others h.0 k.0

one_error_names : (d : Source) (names others : List (List ℕ)) → AreErrorNames d names → AreErrorNames d others → names ≡ others
one_error_names d names others h k = one_list (option_and_then as_array (get (codes "ErrorEquals") d)) names others h k

one_retrier : (d : Source) (r s : Retrier) → IsRetrier d r → IsRetrier d s → r ≡ s
one_retrier d r s h k =
    let errors : r.errors ≡ s.errors = one_error_names d r.errors s.errors h.1 k.1 in
    let both : Some r.max_attempts ≡ Some s.max_attempts = sym h.2 ∙ k.2 in
    let attempts : r.max_attempts ≡ s.max_attempts = cc in
    let make : List (List ℕ) → ℕ → Retrier = λ a b. record { errors = a; max_attempts = b } in
    ap (λ a. make a r.max_attempts) errors ∙ ap (λ b. make s.errors b) attempts

one_catcher : (d : Source) (c s : Catcher) → IsCatcher d c → IsCatcher d s → c ≡ s
one_catcher d c s h k =
    let errors : c.errors ≡ s.errors = one_error_names d c.errors s.errors h.1 k.1 in
    let both : Some c.next ≡ Some s.next = sym h.2 ∙ k.2 in
    let next : c.next ≡ s.next = cc in
    let path : c.result_path ≡ s.result_path = one_path (get (codes "ResultPath") d) c.result_path s.result_path h.3 k.3 in
    let make : List (List ℕ) → List ℕ → Option (List PathStep) → Catcher = λ a b p. record { errors = a; next = b; result_path = p } in
    ap (λ a. make a c.next c.result_path) errors ∙ ap (λ b. make s.errors b c.result_path) next ∙ ap (λ p. make s.errors s.next p) path

pub one_retriers : (ds : Items) (before rs ss : List Retrier) → RetriersAre ds before rs → RetriersAre ds before ss → rs ≡ ss
one_retriers no_items before rs ss h k = h ∙ sym k
one_retriers (item d ds) before rs ss h k =
    let same : k.0 ≡ h.0 = one_retrier d k.0 h.0 k.1 h.1 in
    one_retriers ds (before ++ h.0 ∷ []) rs ss h.2 (subst (λ (r : Retrier). RetriersAre ds (before ++ r ∷ []) ss) same k.2)

pub one_catchers : (ds : Items) (before cs ss : List Catcher) → CatchersAre ds before cs → CatchersAre ds before ss → cs ≡ ss
one_catchers no_items before cs ss h k = h ∙ sym k
one_catchers (item d ds) before cs ss h k =
    let same : k.0 ≡ h.0 = one_catcher d k.0 h.0 k.1 h.1 in
    one_catchers ds (before ++ h.0 ∷ []) cs ss h.2 (subst (λ (c : Catcher). CatchersAre ds (before ++ c ∷ []) ss) same k.2)

items_retry : (ds : Option Items) (rs ss : List Retrier) → ItemsRetry ds rs → ItemsRetry ds ss → rs ≡ ss
items_retry None rs ss h k = absurd h
items_retry (Some ds) rs ss h k = one_retriers ds [] rs ss h.0 k.0

items_catch : (ds : Option Items) (cs ss : List Catcher) → ItemsCatch ds cs → ItemsCatch ds ss → cs ≡ ss
items_catch None cs ss h k = absurd h
items_catch (Some ds) cs ss h k = one_catchers ds [] cs ss h.0 k.0

one_retry : (d : Option Source) (rs ss : List Retrier) → IsRetry d rs → IsRetry d ss → rs ≡ ss
one_retry None rs ss h k = h ∙ sym k
one_retry (Some d) rs ss h k = items_retry (as_array d) rs ss h k

one_catch : (d : Option Source) (cs ss : List Catcher) → IsCatch d cs → IsCatch d ss → cs ≡ ss
one_catch None cs ss h k = h ∙ sym k
one_catch (Some d) cs ss h k = items_catch (as_array d) cs ss h k

pub one_error_handling : (d : Source) (a b : ErrorHandling) → IsErrorHandling d a → IsErrorHandling d b → a ≡ b
one_error_handling d a b h k =
    let retriers : a.retriers ≡ b.retriers = one_retry (get (codes "Retry") d) a.retriers b.retriers h.0 k.0 in
    let catchers : a.catchers ≡ b.catchers = one_catch (get (codes "Catch") d) a.catchers b.catchers h.1 k.1 in
    let make : List Retrier → List Catcher → ErrorHandling = λ r c. record { retriers = r; catchers = c } in
    ap (λ r. make r a.catchers) retriers ∙ ap (λ c. make b.retriers c) catchers
