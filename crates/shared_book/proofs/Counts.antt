-- Where each number of a row has a receipt, and there are no more receipts than numbers, each number has one.
use Rattle.std.proofs.Common.{◌≡◌, ◌<◌, ◌≤◌, ◌+◌, ℕ, zero, suc, List, [], ◌∷◌, ◌++◌, Bool, true, false, length, take, append-nil, append_assoc, get_or, length-append, refl, sym, ap, ◌∙◌, arith, inl, inr, ◌⊎◌, ◌==◌, ◌&&◌}
use Rattle.std.specs.Prelude.{if◌then◌else◌, nat_le, nat_lt}
use Rattle.std.proofs.lemmas.Bool.Decides.{nat_tests}
use Rattle.std.proofs.lemmas.List.{take_more}
use borrow.Author.Tests.{ltb-true}
use Rattle.book_log.specs.Log.{Log}
use Rattle.book_log.specs.declared.entry.Entry.{Entry}
use Rattle.shared_book.specs.Closed.{all_receipts, receipt_times, AllAreLogged, once_within, IsClosed, IsSettled}
use Rattle.shared_book.specs.Numbers.{IsLogged}
use Rattle.shared_book.specs.Views.{PassView, IsCounted}
use Rattle.shared_book.specs.declared.receipt.Receipt.{Receipt}

-- ---- a row of m numbers from a on

-- how many receipts have a number of the row
within : ℕ → ℕ → List Receipt → ℕ
within a m [] = 0
within a m (r ∷ rs) = once_within a (a + m) r.number + within a m rs

once_more : (a m x : ℕ) → once_within a (a + (m + 1)) x ≡ once_within a (a + m) x + (if x == a + m then 1 else 0)
once_more a m x = grind (arith, nat_tests)

within_more : (a m : ℕ) (rs : List Receipt) → within a (m + 1) rs ≡ within a m rs + receipt_times (a + m) rs
unfolding within
within_more a m [] = refl
within_more a m (r ∷ rs) = let h = within_more a m rs in let e = once_more a m r.number in omega (arith, h, e)

within_few : (a m : ℕ) (rs : List Receipt) → within a m rs ≤ length rs
unfolding within
within_few a m [] = omega arith
within_few a m (r ∷ rs) = let h = within_few a m rs in let e : once_within a (a + m) r.number ≤ 1 = grind (arith, nat_tests) in omega (arith, h, e)

-- where each number of the row has a receipt, there are as many at least
row_counts : (a m : ℕ) (rs : List Receipt) → ((k : ℕ) → a ≤ k → k < a + m → 0 < receipt_times k rs) → m ≤ within a m rs
row_counts a zero rs all = omega arith
row_counts a (suc m) rs all =
    let h = row_counts a m rs (λ k low high. all k low (omega arith)) in
    let one = all (a + m) (omega arith) (omega arith) in
    let e = within_more a m rs in
    let next : suc m ≡ m + 1 = omega arith in
    rw next (omega (arith, h, one, e))

-- and one of the numbers counts as often as it has a receipt
one_more : (a m : ℕ) (rs : List Receipt) (k : ℕ) (b : Bool) → nat_lt k (a + m) ≡ b → k < a + (m + 1) → (k < a + m → m + receipt_times k rs ≤ within a m rs + 1)
    → m ≤ within a m rs → 0 < receipt_times (a + m) rs → (m + 1) + receipt_times k rs ≤ within a (m + 1) rs + 1
one_more a m rs k true is high here many one = let h = here (ltb-true k (a + m) is) in let e = within_more a m rs in omega (arith, h, one, e)
one_more a m rs k false is high here many one =
    let last : k ≡ a + m = grind (arith, nat_tests) in
    let same = ap (λ (j : ℕ). receipt_times j rs) last in
    let e = within_more a m rs in
    omega (arith, many, same, e)

row_counts_one : (a m : ℕ) (rs : List Receipt) (k : ℕ) → ((j : ℕ) → a ≤ j → j < a + m → 0 < receipt_times j rs) → a ≤ k → k < a + m → m + receipt_times k rs ≤ within a m rs + 1
row_counts_one a zero rs k all low high = absurd (omega arith)
row_counts_one a (suc m) rs k all low high =
    let less : (j : ℕ) → a ≤ j → j < a + m → 0 < receipt_times j rs = λ j lo hi. all j lo (omega arith) in
    let next : suc m ≡ m + 1 = omega arith in
    rw next (one_more a m rs k (nat_lt k (a + m)) refl (omega arith) (λ near. row_counts_one a m rs k less low near) (row_counts a m rs less) (all (a + m) (omega arith) (omega arith)))

-- a number outside of the row has receipts beside those of the row
apart : (a m k x : ℕ) → once_within a (a + m) k ≡ 0 → once_within a (a + m) x + (if x == k then 1 else 0) ≤ 1
apart a m k x out = grind (arith, nat_tests)

outside : (a m : ℕ) (rs : List Receipt) (k : ℕ) → once_within a (a + m) k ≡ 0 → within a m rs + receipt_times k rs ≤ length rs
unfolding within
outside a m [] k out = omega arith
outside a m (r ∷ rs) k out = let h = outside a m rs k out in let e = apart a m k r.number out in omega (arith, h, e)

once_or_not : (a b k : ℕ) (t : Bool) → (nat_le a k && nat_lt k b) ≡ t → ((once_within a b k ≡ 1) × (a ≤ k) × (k < b)) ⊎ (once_within a b k ≡ 0)
once_or_not a b k true is = inl (rw is refl, grind (arith, nat_tests), grind (arith, nat_tests))
once_or_not a b k false is = inr (rw is refl)

at_number : (a m : ℕ) (rs : List Receipt) (k : ℕ) → ((j : ℕ) → a ≤ j → j < a + m → 0 < receipt_times j rs) → length rs ≤ m
    → ((once_within a (a + m) k ≡ 1) × (a ≤ k) × (k < a + m)) ⊎ (once_within a (a + m) k ≡ 0) → receipt_times k rs ≡ once_within a (a + m) k
at_number a m rs k all few (inl (is, low, high)) =
    let h = row_counts_one a m rs k all low high in let f = within_few a m rs in let one = all k low high in omega (arith, h, f, one, is, few)
at_number a m rs k all few (inr out) =
    let h = row_counts a m rs all in let f = outside a m rs k out in omega (arith, h, f, out, few)

-- the passes' receipts are no more than were handed out, and each number has one: so each has one, and no more
pub closed : (begun now : Log) (first total : ℕ) (ps : List PassView) → IsSettled now.entries first ps → IsCounted begun now first total → length (all_receipts ps) ≤ total → IsClosed begun now (all_receipts ps)
closed begun now first total ps settled counted few =
    let rs = all_receipts ps in
    let all : (j : ℕ) → first ≤ j → j < first + total → 0 < receipt_times j rs = λ j low high. settled.all j low (omega (arith, high, counted.counted)) in
    let many = row_counts first total rs all in
    let some = within_few first total rs in
    let as_many : length rs ≡ total = omega (arith, many, some, few) in
    let once : (k : ℕ) → receipt_times k rs ≡ once_within first (first + total) k = λ k. at_number first total rs k all few (once_or_not first (first + total) k _ refl) in
    record {
      goes = counted.goes;
      stand = settled.stand;
      as_many = omega (arith, as_many, counted.counted, counted.is_first);
      once = λ k. once k ∙ (λ i. once_within (counted.is_first i) (counted.counted i) k);
    }

-- ---- the receipts of passes, one more after another

pub all_stand_more : (entries : List Entry) (xs ys : List Receipt) → AllAreLogged entries xs → AllAreLogged entries ys → AllAreLogged entries (xs ++ ys)
all_stand_more entries [] ys a b = b
all_stand_more entries (x ∷ xs) ys a b = (a.0, all_stand_more entries xs ys a.1 b)

pub all_receipts_more : (ps : List PassView) (p : PassView) → all_receipts (ps ++ p ∷ []) ≡ all_receipts ps ++ p.receipts
all_receipts_more [] p = append-nil p.receipts
all_receipts_more (x ∷ ps) p = ap (λ (l : List Receipt). x.receipts ++ l) (all_receipts_more ps p) ∙ sym (append_assoc x.receipts (all_receipts ps) p.receipts)

pub stand_more : (entries : List Entry) (rs : List Receipt) (i : ℕ) (d : Receipt) → i < length rs → AllAreLogged entries (take i rs) → IsLogged entries (get_or rs i d) → AllAreLogged entries (take (i + 1) rs)
stand_more entries rs i d inside all one = rw (take_more rs i d inside) (all_stand_more entries (take i rs) (get_or rs i d ∷ []) all (one, tt))

pub stand_all_more : (entries : List Entry) (ps : List PassView) (i : ℕ) (d : PassView) → i < length ps → AllAreLogged entries (all_receipts (take i ps)) → AllAreLogged entries (get_or ps i d).receipts → AllAreLogged entries (all_receipts (take (i + 1) ps))
stand_all_more entries ps i d inside all one =
    rw (take_more ps i d inside, all_receipts_more (take i ps) (get_or ps i d)) (all_stand_more entries (all_receipts (take i ps)) (get_or ps i d).receipts all one)

pub length_all_more : (ps : List PassView) (p : PassView) → length (all_receipts (ps ++ p ∷ [])) ≡ length (all_receipts ps) + length p.receipts
length_all_more ps p = ap length (all_receipts_more ps p) ∙ length-append (all_receipts ps) p.receipts
