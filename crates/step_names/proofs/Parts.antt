-- Texts cut at a separator, and the numbers in them.
use Rattle.std.proofs.Common.{arith, suc, get_or, ◌<◌, ◌≡◌, ◌≢◌, ℕ, Bool, true, false, not, ◌&&◌, List, [], ◌∷◌, ◌++◌, refl, sym, ap, ◌∙◌, length, ◌==◌, eq-eqb, MatchOption, Option, Some, None, Bor}
use Rattle.std.specs.List.{slice_split, list_all}
use Rattle.std.specs.Str.{all_ascii_digits}
use Rattle.std.specs.Char.{is_ascii_digit}
use Rattle.std.proofs.lemmas.Str.Pattern.{IsSplitOnceResult, split_parts}
use Rattle.std.proofs.lemmas.Bool.{and_parts, and_from, not-true, ne_eqb}

abbrev pub is_at : ℕ → ℕ → Bool
is_at c b = b == c

-- no byte of it is c
abbrev pub lacks : ℕ → List ℕ → Bool
lacks c bs = list_all (λ b. not (b == c)) bs

not_at : (b c : ℕ) → b ≢ c → not (b == c) ≡ true
not_at b c h = rw (ne_eqb b c h)

pub lacks_by_index : (c : ℕ) (bs : List ℕ) → ((i : ℕ) → i < length bs → get_or bs i 0 ≢ c) → lacks c bs ≡ true
lacks_by_index c [] h = refl
lacks_by_index c (b ∷ bs) h = rw (not_at b c (h 0 (omega arith)), lacks_by_index c bs (λ i l. h (suc i) (omega arith)))

pub lacks_split : (c : ℕ) (bs : List ℕ) → lacks c bs ≡ true → slice_split (λ b. b == c) bs ≡ bs ∷ []
lacks_split c [] h = refl
lacks_split c (b ∷ bs) h =
    let s = and_parts (not (b == c)) (lacks c bs) h in
    rw (not-true (b == c) s.0, lacks_split c bs s.1)

pub lacks_split_at : (c : ℕ) (xs ys : List ℕ) → lacks c xs ≡ true → slice_split (λ b. b == c) (xs ++ c ∷ ys) ≡ xs ∷ slice_split (λ b. b == c) ys
lacks_split_at c [] ys h = rw (eq-eqb c c refl)
lacks_split_at c (x ∷ xs) ys h =
    let s = and_parts (not (x == c)) (lacks c xs) h in
    rw (not-true (x == c) s.0, lacks_split_at c xs ys s.1)

-- what `split_once` gives
pub cut_parts : (c : ℕ) (bs : List ℕ) (r : Option (Bor (List ℕ) × Bor (List ℕ))) → IsSplitOnceResult c bs r → c < 128
    → MatchOption r (slice_split (λ b. b == c) bs ≡ bs ∷ []) (λ x. slice_split (λ b. b == c) bs ≡ x.0.now ∷ slice_split (λ b. b == c) x.1.now)
cut_parts c bs None h low = lacks_split c bs (lacks_by_index c bs (split_parts c bs None h low))
cut_parts c bs (Some x) h low =
    let k = split_parts c bs (Some x) h low in
    ap (slice_split (λ b. b == c)) k.0 ∙ lacks_split_at c x.0.now x.1.now (lacks_by_index c x.0.now k.1)

-- a list of bytes that pass a test lacks each byte that does not
pub passing_lacks : (p : ℕ → Bool) (c : ℕ) (bs : List ℕ) → p c ≡ false → list_all p bs ≡ true → lacks c bs ≡ true
passing_lacks p c [] h k = refl
passing_lacks p c (b ∷ bs) h k =
    let s = and_parts (p b) (list_all p bs) k in
    rw (not_at b c (λ e. let q : p b ≡ p c = ap p e in cc), passing_lacks p c bs h s.1)

pub digits_pass : (bs : List ℕ) → all_ascii_digits bs ≡ list_all is_ascii_digit bs
digits_pass [] = refl
digits_pass (b ∷ bs) = ap (λ (r : Bool). is_ascii_digit b && r) (digits_pass bs)

pub digits_lack : (c : ℕ) (bs : List ℕ) → is_ascii_digit c ≡ false → all_ascii_digits bs ≡ true → lacks c bs ≡ true
digits_lack c bs h k = passing_lacks is_ascii_digit c bs h (sym (digits_pass bs) ∙ k)

pub lacks-append : (c : ℕ) (xs ys : List ℕ) → lacks c xs ≡ true → lacks c ys ≡ true → lacks c (xs ++ ys) ≡ true
lacks-append c [] ys h k = k
lacks-append c (x ∷ xs) ys h k =
    let s = and_parts (not (x == c)) (lacks c xs) h in
    and_from (not (x == c)) (lacks c (xs ++ ys)) s.0 (lacks-append c xs ys s.1 k)
