-- Equality of what states do with errors: that of the names, the counts, the states and the paths.
use Rattle.std.specs.Prelude.{◌≡◌, ℕ, Bool, true, ◌&&◌, List, ◌==◌, refl}
use Rattle.std.specs.Cmp.{unsigned_Decides}
use Rattle.std.specs.Cmp.Derive.{both_true}
use Rattle.std.specs.Option.{option_eq}
use lib.Pointwise.{pointwise}
use Rattle.asl_fields.specs.Same.{same_text, same_payload_path, IsExact, exact, first_true, second_true, text_exact, path_exact, list_exact, option_exact}
use Rattle.asl_errors.specs.declared.errors.Catcher.{Catcher}
use Rattle.asl_errors.specs.declared.errors.ErrorHandling.{ErrorHandling}
use Rattle.asl_errors.specs.declared.errors.Retrier.{Retrier}

abbrev pub same_names : List (List ℕ) → List (List ℕ) → Bool
same_names = pointwise same_text

abbrev pub same_retrier : Retrier → Retrier → Bool
same_retrier r s = same_names r.errors s.errors && r.max_attempts == s.max_attempts

abbrev pub same_catcher : Catcher → Catcher → Bool
same_catcher c d = same_names c.errors d.errors && (same_text c.next d.next && option_eq same_payload_path c.result_path d.result_path)

abbrev pub same_handling : ErrorHandling → ErrorHandling → Bool
same_handling a b = pointwise same_retrier a.retriers b.retriers && pointwise same_catcher a.catchers b.catchers

pub names_exact : IsExact same_names
names_exact = list_exact same_text text_exact

retrier_one : (r s : Retrier) → same_retrier r s ≡ true → r ≡ s
retrier_one r s h =
    let errors : r.errors ≡ s.errors = (names_exact r.errors s.errors).0 (first_true _ _ h) in
    let attempts : r.max_attempts ≡ s.max_attempts = (unsigned_Decides r.max_attempts s.max_attempts).0 (second_true (same_names r.errors s.errors) _ h) in
    λ i. record { errors = errors i; max_attempts = attempts i }

pub retrier_exact : IsExact same_retrier
retrier_exact = exact same_retrier retrier_one (λ r. both_true ((names_exact r.errors r.errors).1 refl) ((unsigned_Decides r.max_attempts r.max_attempts).1 refl))

catcher_one : (c d : Catcher) → same_catcher c d ≡ true → c ≡ d
catcher_one c d h =
    let later = second_true (same_names c.errors d.errors) _ h in
    let errors : c.errors ≡ d.errors = (names_exact c.errors d.errors).0 (first_true _ _ h) in
    let next : c.next ≡ d.next = (text_exact c.next d.next).0 (first_true _ _ later) in
    let path : c.result_path ≡ d.result_path = (option_exact same_payload_path path_exact c.result_path d.result_path).0 (second_true (same_text c.next d.next) _ later) in
    λ i. record { errors = errors i; next = next i; result_path = path i }

pub catcher_exact : IsExact same_catcher
catcher_exact = exact same_catcher catcher_one
    (λ c. both_true ((names_exact c.errors c.errors).1 refl) (both_true ((text_exact c.next c.next).1 refl) ((option_exact same_payload_path path_exact c.result_path c.result_path).1 refl)))

pub retriers_exact : IsExact (pointwise same_retrier)
retriers_exact = list_exact same_retrier retrier_exact

pub catchers_exact : IsExact (pointwise same_catcher)
catchers_exact = list_exact same_catcher catcher_exact

handling_one : (a b : ErrorHandling) → same_handling a b ≡ true → a ≡ b
handling_one a b h =
    let retriers : a.retriers ≡ b.retriers = (retriers_exact a.retriers b.retriers).0 (first_true _ _ h) in
    let catchers : a.catchers ≡ b.catchers = (catchers_exact a.catchers b.catchers).0 (second_true (pointwise same_retrier a.retriers b.retriers) _ h) in
    λ i. record { retriers = retriers i; catchers = catchers i }

pub handling_exact : IsExact same_handling
handling_exact = exact same_handling handling_one (λ a. both_true ((retriers_exact a.retriers a.retriers).1 refl) ((catchers_exact a.catchers a.catchers).1 refl))
