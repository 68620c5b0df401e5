-- Marks of the numbers that have a receipt.
use Rattle.std.proofs.Common.{◌≡◌, ◌<◌, ◌≤◌, ◌+◌, ◌-◌, ℕ, List, [], ◌∷◌, ◌++◌, Bool, true, false, length, take, Option, Some, None, get_or, set, replicate, MatchOption, refl, sym, ap, subst, ◌∙◌, arith, inl, inr, ◌⊎◌, ◌==◌, ◌||◌}
use Rattle.std.specs.Prelude.{if◌then◌else◌, nat_lt}
use Rattle.std.proofs.lemmas.Bool.Decides.{nat_tests}
use Rattle.std.proofs.lemmas.Bool.{cases_eq, eq-eqb, ne_eqb}
use Rattle.std.proofs.lemmas.List.{take_more, get_or-set_other, get_or-replicate, length-replicate}
use Rattle.std.proofs.lemmas.Grind.{get_or-set_at}
use borrow.Author.Tests.{ltb-true}
use Rattle.shared_book.specs.Closed.{all_receipts, receipt_times, is_marked}
use Rattle.shared_book.specs.Views.{PassView}
use Rattle.shared_book.specs.declared.receipt.Receipt.{Receipt}
use Rattle.shared_book.proofs.Counts.{all_receipts_more}

-- ---- one mark

or_true : (b c : Bool) → c ≡ true → true ≡ (b || c)
or_true true c e = refl
or_true false c e = sym e

or_false : (b c : Bool) → c ≡ false → b ≡ (b || c)
or_false true c e = refl
or_false false c e = sym e

mark_at : (marks : List Bool) (first n j : ℕ) → first ≤ n → n - first < length marks → (j ≡ n - first) ⊎ (j ≡ n - first → ⊥)
    → get_or (set marks (n - first) true) j false ≡ (get_or marks j false || (n == first + j))
mark_at marks first n j low inside (inl same) = get_or-set_at marks (n - first) j true false same inside ∙ or_true (get_or marks j false) (n == first + j) (eq-eqb n (first + j) (omega (arith, same)))
mark_at marks first n j low inside (inr other) =
    get_or-set_other marks (n - first) j true false other ∙ or_false (get_or marks j false) (n == first + j) (ne_eqb n (first + j) (λ e. other (omega (arith, e))))

-- of a number in the row, of one before it and of one past it
pub mark_here : (marks : List Bool) (first n j : ℕ) → first ≤ n → n - first < length marks → get_or (set marks (n - first) true) j false ≡ (get_or marks j false || (n == first + j))
mark_here marks first n j low inside = mark_at marks first n j low inside (cases_eq j (n - first))

pub mark_below : (marks : List Bool) (first n j : ℕ) → n < first → get_or marks j false ≡ (get_or marks j false || (n == first + j))
mark_below marks first n j low = or_false (get_or marks j false) (n == first + j) (ne_eqb n (first + j) (λ e. absurd (omega (arith, e))))

pub mark_past : (marks : List Bool) (first n j : ℕ) → first ≤ n → length marks ≤ n - first → j < length marks → get_or marks j false ≡ (get_or marks j false || (n == first + j))
mark_past marks first n j low past inside = or_false (get_or marks j false) (n == first + j) (ne_eqb n (first + j) (λ e. absurd (omega (arith, e))))

-- ---- those of receipts

times_more : (k : ℕ) (xs ys : List Receipt) → receipt_times k (xs ++ ys) ≡ receipt_times k xs + receipt_times k ys
times_more k [] ys = omega arith
times_more k (x ∷ xs) ys = let h = times_more k xs ys in omega (arith, h)

times_take : (k : ℕ) (rs : List Receipt) (i : ℕ) (d : Receipt) → i < length rs → receipt_times k (take (i + 1) rs) ≡ receipt_times k (take i rs) + (if (get_or rs i d).number == k then 1 else 0)
times_take k rs i d inside = ap (receipt_times k) (take_more rs i d inside) ∙ (let e = times_more k (take i rs) (get_or rs i d ∷ []) in omega (arith, e))

mark_or : (was b : Bool) (n : ℕ) → (was || nat_lt 0 (n + (if b then 1 else 0))) ≡ ((was || nat_lt 0 n) || b)
mark_or was b n = grind (arith, nat_tests)

is_marked_more : (was : Bool) (k : ℕ) (rs : List Receipt) (i : ℕ) (d : Receipt) → i < length rs → is_marked was k (take (i + 1) rs) ≡ (is_marked was k (take i rs) || ((get_or rs i d).number == k))
is_marked_more was k rs i d inside = ap (λ (n : ℕ). was || nat_lt 0 n) (times_take k rs i d inside) ∙ mark_or was ((get_or rs i d).number == k) (receipt_times k (take i rs))

pub mark_more : (b now was : Bool) (k : ℕ) (rs : List Receipt) (i : ℕ) (d : Receipt) → i < length rs → now ≡ (b || ((get_or rs i d).number == k)) → b ≡ is_marked was k (take i rs)
    → now ≡ is_marked was k (take (i + 1) rs)
mark_more b now was k rs i d inside step so_far = step ∙ ap (λ (x : Bool). x || ((get_or rs i d).number == k)) so_far ∙ sym (is_marked_more was k rs i d inside)

or_or : (was : Bool) (m n : ℕ) → ((was || nat_lt 0 m) || nat_lt 0 n) ≡ (was || nat_lt 0 (m + n))
or_or was m n = grind (arith, nat_tests)

pub mark_all_more : (b now was : Bool) (k : ℕ) (ps : List PassView) (i : ℕ) (d : PassView) → i < length ps → now ≡ is_marked b k (get_or ps i d).receipts → b ≡ is_marked was k (all_receipts (take i ps))
    → now ≡ is_marked was k (all_receipts (take (i + 1) ps))
mark_all_more b now was k ps i d inside step so_far =
    step ∙ ap (λ (x : Bool). is_marked x k (get_or ps i d).receipts) so_far ∙ or_or was (receipt_times k (all_receipts (take i ps))) (receipt_times k (get_or ps i d).receipts)
    ∙ ap (λ (n : ℕ). was || nat_lt 0 n)
    (sym (ap (receipt_times k) (ap all_receipts (take_more ps i d inside) ∙ all_receipts_more (take i ps) (get_or ps i d)) ∙ times_more k (all_receipts (take i ps)) (get_or ps i d).receipts))

-- ---- what the marks tell

none_is : (n : ℕ) → nat_lt 0 n ≡ false → n ≡ 0
none_is n e = grind (arith, nat_tests)

found_none : (first end : ℕ) (marks : List Bool) (rs : List Receipt) → first ≤ end → length marks ≡ end - first
    → ((j : ℕ) → j < length marks → get_or marks j false ≡ nat_lt 0 (receipt_times (first + j) rs))
    → ((j : ℕ) → j < length marks → get_or marks j false ≡ true) → (k : ℕ) → first ≤ k → k < end → 0 < receipt_times k rs
found_none first end marks rs fit long marked all k low high =
    let here : k - first < length marks = omega (arith, long) in
    let some = ltb-true 0 (receipt_times (first + (k - first)) rs) (sym (marked (k - first) here) ∙ all (k - first) here) in
    let same : first + (k - first) ≡ k = omega arith in
    subst (λ (n : ℕ). 0 < receipt_times n rs) same some

found : (o : Option ℕ) (first end : ℕ) (marks : List Bool) (rs : List Receipt) → first ≤ end → length marks ≡ end - first
    → ((j : ℕ) → j < length marks → get_or marks j false ≡ nat_lt 0 (receipt_times (first + j) rs))
    → MatchOption o ((j : ℕ) → j < length marks → get_or marks j false ≡ true) (λ n. (j : ℕ) × (j < length marks) × (n ≡ first + j) × (get_or marks j false ≡ false))
    → MatchOption o ((k : ℕ) → first ≤ k → k < end → 0 < receipt_times k rs) (λ n. (first ≤ n) × (n < end) × (receipt_times n rs ≡ 0))
found None first end marks rs fit long marked all = λ k low high. found_none first end marks rs fit long marked all k low high
found (Some n) first end marks rs fit long marked there =
    let unmarked = none_is (receipt_times (first + there.0) rs) (sym (marked there.0 there.1) ∙ there.3) in
    (omega (arith, there.2), omega (arith, there.1, there.2, long), ap (λ (m : ℕ). receipt_times m rs) there.2 ∙ unmarked)

pub found_new : (o : Option ℕ) (first end : ℕ) (marks now : List Bool) (rs : List Receipt) → first ≤ end → marks ≡ replicate (end - first) false → length now ≡ length marks
    → ((j : ℕ) → j < length marks → get_or now j false ≡ is_marked (get_or marks j false) (first + j) rs)
    → MatchOption o ((j : ℕ) → j < length now → get_or now j false ≡ true) (λ n. (j : ℕ) × (j < length now) × (n ≡ first + j) × (get_or now j false ≡ false))
    → MatchOption o ((k : ℕ) → first ≤ k → k < end → 0 < receipt_times k rs) (λ n. (first ≤ n) × (n < end) × (receipt_times n rs ≡ 0))
found_new o first end marks now rs fit is same marked there =
    let long : length marks ≡ end - first = ap length is ∙ length-replicate (end - first) false in
    found o first end now rs fit (same ∙ long)
    (λ j here.
    let h : j < length marks = omega (arith, same) in
    let blank : get_or marks j false ≡ false = ap (λ (l : List Bool). get_or l j false) is ∙ get_or-replicate (end - first) j false false (omega (arith, long)) in
    marked j h ∙ ap (λ (b : Bool). is_marked b (first + j) rs) blank)
    there
