-- A text spells one path.
use Rattle.std.proofs.Common.{◌≡◌, ℕ, ◌<◌, ◌^◌, Bool, true, false, ◌&&◌, List, [], ◌∷◌, ◌++◌, length, get_or, Some, append_assoc, arith, refl, sym, ap, ◌∙◌, inl, inr}
use Rattle.std.proofs.lemmas.Bool.{and_parts}
use Rattle.std.proofs.lemmas.Fmt.{digits_decimal, decimal_nonempty}
use Rattle.std.proofs.lemmas.Str.Parse.{IsNumeralModel, numerals_by_value, tells_all_ascii_digits}
use Rattle.std.specs.Char.{is_ascii_digit}
use Rattle.std.specs.Str.{all_ascii_digits}
use Rattle.std.specs.Str.Parse.{digits_value}
use Rattle.std.specs.Fmt.{decimal}
use Rattle.std.specs.List.{list_all}
use Rattle.ref_paths.specs.Grammar.{is_path_name_byte, is_quotable, SpellsStep, SpellsSteps}
use Rattle.ref_paths.specs.Laws.{TextsSpellOnePath}
use Rattle.ref_paths.specs.Scanner.{bracketed, indexed, scan}
use Rattle.ref_paths.specs.declared.path.PathStep.{PathStep}
use Rattle.ref_paths.specs.declared.path.PathStep.TheVariants.{Name, Index}
use Rattle.ref_paths.proofs.Scans.{decimal_scan}

-- what begins with no byte that passes
abbrev Ends : (ℕ → Bool) → List ℕ → Type 0
Ends p [] = Unit {0}
Ends p (c ∷ cs) = p c ≡ false

cut_one : (p : ℕ → Bool) (a b x y : List ℕ) → list_all p a ≡ true → list_all p b ≡ true → Ends p x → Ends p y → a ++ x ≡ b ++ y → (a ≡ b) × (x ≡ y)
cut_one p [] [] x y ha hb hx hy e = (refl, e)
cut_one p [] (c ∷ b) [] y ha hb hx hy e = cc
cut_one p [] (c ∷ b) (d ∷ x) y ha hb hx hy e =
    let same : d ≡ c = cc in
    let s = and_parts (p c) (list_all p b) hb in
    let no : true ≡ false = sym s.0 ∙ ap p (sym same) ∙ hx in
    cc no
cut_one p (c ∷ a) [] x [] ha hb hx hy e = cc
cut_one p (c ∷ a) [] x (d ∷ y) ha hb hx hy e =
    let same : c ≡ d = cc in
    let s = and_parts (p c) (list_all p a) ha in
    let no : true ≡ false = sym s.0 ∙ ap p same ∙ hy in
    cc no
cut_one p (c ∷ a) (d ∷ b) x y ha hb hx hy e =
    let same : c ≡ d = cc in
    let rest : a ++ x ≡ b ++ y = cc in
    let r = cut_one p a b x y (and_parts (p c) (list_all p a) ha).1 (and_parts (p d) (list_all p b) hb).1 hx hy rest in
    let front : a ≡ b = r.0 in
    (cc, r.1)

-- steps begin with no byte of a name
front_ends : (step : PathStep) (front rest : List ℕ) → SpellsStep step front → Ends is_path_name_byte (front ++ rest)
front_ends (Name n) front rest (inl h) = rw h.2 refl
front_ends (Name n) front rest (inr h) = rw h.1 refl
front_ends (Index n) front rest h = rw h.1 refl

steps_end : (path : List PathStep) (text : List ℕ) → SpellsSteps path text → Ends is_path_name_byte text
steps_end [] text h = rw h tt
steps_end (step ∷ path) text h = rw h.4 (front_ends step h.0 h.1 h.2)

own : IsNumeralModel (λ ds. all_ascii_digits ds ≡ true) (digits_value 10)
own = numerals_by_value (λ ds. all_ascii_digits ds ≡ true) tells_all_ascii_digits

digits_pass : (bs : List ℕ) → all_ascii_digits bs ≡ list_all is_ascii_digit bs
digits_pass [] = refl
digits_pass (b ∷ bs) = ap (λ (r : Bool). is_ascii_digit b && r) (digits_pass bs)

decimal_digits : (n : ℕ) → n < 2 ^ 32 → list_all is_ascii_digit (decimal n) ≡ true
decimal_digits n h = sym (digits_pass (decimal n)) ∙ digits_decimal own n (omega arith)

no_quote : (ds z w : List ℕ) → list_all is_ascii_digit ds ≡ true → 0 < length ds → 39 ∷ w ≡ ds ++ z → ⊥
no_quote [] z w h some e = absurd (omega arith)
no_quote (d ∷ ds) z w h some e =
    let same : 39 ≡ d = cc in
    let no : true ≡ false = sym (and_parts (is_ascii_digit d) (list_all is_ascii_digit ds) h).0 ∙ ap is_ascii_digit (sym same) in
    cc no

same_head : (a b : List ℕ) → a ≡ b → get_or a 0 0 ≡ get_or b 0 0
same_head a b e = ap (λ x. get_or x 0 0) e

index_text : (n : ℕ) (x : List ℕ) → 91 ∷ ((decimal n ++ 93 ∷ []) ++ x) ≡ 91 ∷ (decimal n ++ 93 ∷ x)
index_text n x = ap (λ z. 91 ∷ z) (append_assoc (decimal n) (93 ∷ []) x)

quoted_text : (n x : List ℕ) → 91 ∷ 39 ∷ ((n ++ 39 ∷ 93 ∷ []) ++ x) ≡ 91 ∷ 39 ∷ (n ++ 39 ∷ 93 ∷ x)
quoted_text n x = ap (λ z. 91 ∷ 39 ∷ z) (append_assoc n (39 ∷ 93 ∷ []) x)

one_step : (s t : PathStep) (a b x y : List ℕ) → SpellsStep s a → SpellsStep t b → Ends is_path_name_byte x → Ends is_path_name_byte y → a ++ x ≡ b ++ y → (s ≡ t) × (x ≡ y)
one_step (Name n) (Name m) a b x y (inl h) (inl g) hx hy e =
    let whole : 46 ∷ (n ++ x) ≡ 46 ∷ (m ++ y) = ap (λ z. z ++ x) (sym h.2) ∙ e ∙ ap (λ z. z ++ y) g.2 in
    let rest : n ++ x ≡ m ++ y = cc in
    let r = cut_one is_path_name_byte n m x y h.1 g.1 hx hy rest in
    (ap Name r.0, r.1)
one_step (Name n) (Name m) a b x y (inl h) (inr g) hx hy e =
    let whole : 46 ∷ (n ++ x) ≡ 91 ∷ 39 ∷ ((m ++ 39 ∷ 93 ∷ []) ++ y) = ap (λ z. z ++ x) (sym h.2) ∙ e ∙ ap (λ z. z ++ y) g.1 in
    absurd (omega (arith, same_head _ _ whole))
one_step (Name n) (Name m) a b x y (inr h) (inl g) hx hy e =
    let whole : 91 ∷ 39 ∷ ((n ++ 39 ∷ 93 ∷ []) ++ x) ≡ 46 ∷ (m ++ y) = ap (λ z. z ++ x) (sym h.1) ∙ e ∙ ap (λ z. z ++ y) g.2 in
    absurd (omega (arith, same_head _ _ whole))
one_step (Name n) (Name m) a b x y (inr h) (inr g) hx hy e =
    let whole : 91 ∷ 39 ∷ (n ++ 39 ∷ 93 ∷ x) ≡ 91 ∷ 39 ∷ (m ++ 39 ∷ 93 ∷ y) = sym (quoted_text n x) ∙ ap (λ z. z ++ x) (sym h.1) ∙ e ∙ ap (λ z. z ++ y) g.1 ∙ quoted_text m y in
    let rest : n ++ 39 ∷ 93 ∷ x ≡ m ++ 39 ∷ 93 ∷ y = cc in
    let r = cut_one is_quotable n m (39 ∷ 93 ∷ x) (39 ∷ 93 ∷ y) h.0 g.0 refl refl rest in
    let tail : 39 ∷ 93 ∷ x ≡ 39 ∷ 93 ∷ y = r.1 in
    (ap Name r.0, cc)
one_step (Name n) (Index m) a b x y (inl h) g hx hy e =
    let whole : 46 ∷ (n ++ x) ≡ 91 ∷ ((decimal m ++ 93 ∷ []) ++ y) = ap (λ z. z ++ x) (sym h.2) ∙ e ∙ ap (λ z. z ++ y) g.1 in
    absurd (omega (arith, same_head _ _ whole))
one_step (Name n) (Index m) a b x y (inr h) g hx hy e =
    let whole : 91 ∷ 39 ∷ ((n ++ 39 ∷ 93 ∷ []) ++ x) ≡ 91 ∷ (decimal m ++ 93 ∷ y) = ap (λ z. z ++ x) (sym h.1) ∙ e ∙ ap (λ z. z ++ y) g.1 ∙ index_text m y in
    let rest : 39 ∷ ((n ++ 39 ∷ 93 ∷ []) ++ x) ≡ decimal m ++ 93 ∷ y = cc in
    absurd (no_quote (decimal m) (93 ∷ y) ((n ++ 39 ∷ 93 ∷ []) ++ x) (decimal_digits m g.0) (decimal_nonempty m (omega (arith, g.0))) rest)
one_step (Index n) (Name m) a b x y h (inl g) hx hy e =
    let whole : 91 ∷ ((decimal n ++ 93 ∷ []) ++ x) ≡ 46 ∷ (m ++ y) = ap (λ z. z ++ x) (sym h.1) ∙ e ∙ ap (λ z. z ++ y) g.2 in
    absurd (omega (arith, same_head _ _ whole))
one_step (Index n) (Name m) a b x y h (inr g) hx hy e =
    let whole : 91 ∷ 39 ∷ ((m ++ 39 ∷ 93 ∷ []) ++ y) ≡ 91 ∷ (decimal n ++ 93 ∷ x) = sym (ap (λ z. z ++ y) g.1) ∙ sym e ∙ ap (λ z. z ++ x) h.1 ∙ index_text n x in
    let rest : 39 ∷ ((m ++ 39 ∷ 93 ∷ []) ++ y) ≡ decimal n ++ 93 ∷ x = cc in
    absurd (no_quote (decimal n) (93 ∷ x) ((m ++ 39 ∷ 93 ∷ []) ++ y) (decimal_digits n h.0) (decimal_nonempty n (omega (arith, h.0))) rest)
one_step (Index n) (Index m) a b x y h g hx hy e =
    let whole : 91 ∷ (decimal n ++ 93 ∷ x) ≡ 91 ∷ (decimal m ++ 93 ∷ y) = sym (index_text n x) ∙ ap (λ z. z ++ x) (sym h.1) ∙ e ∙ ap (λ z. z ++ y) g.1 ∙ index_text m y in
    let rest : decimal n ++ 93 ∷ x ≡ decimal m ++ 93 ∷ y = cc in
    let r = cut_one is_ascii_digit (decimal n) (decimal m) (93 ∷ x) (93 ∷ y) (decimal_digits n h.0) (decimal_digits m g.0) refl refl rest in
    let places : Some (indexed n) ≡ Some (indexed m) = sym (decimal_scan n h.0) ∙ ap (λ z. scan z (Some bracketed)) r.0 ∙ decimal_scan m g.0 in
    let number : n ≡ m = cc in
    let tail : 93 ∷ x ≡ 93 ∷ y = r.1 in
    (ap Index number, cc)

some_front : (s : PathStep) (a x : List ℕ) → SpellsStep s a → [] ≡ a ++ x → ⊥
some_front (Name n) a x (inl h) e = absurd (omega (arith, ap length (e ∙ ap (λ z. z ++ x) h.2)))
some_front (Name n) a x (inr h) e = absurd (omega (arith, ap length (e ∙ ap (λ z. z ++ x) h.1)))
some_front (Index n) a x h e = absurd (omega (arith, ap length (e ∙ ap (λ z. z ++ x) h.1)))

steps_one : (p q : List PathStep) (a b : List ℕ) → SpellsSteps p a → SpellsSteps q b → a ≡ b → p ≡ q
steps_one [] [] a b h g e = refl
steps_one [] (t ∷ q) a b h g e = absurd (some_front t g.0 g.1 g.2 (sym h ∙ e ∙ g.4))
steps_one (s ∷ p) [] a b h g e = absurd (some_front s h.0 h.1 h.2 (sym g ∙ sym e ∙ h.4))
steps_one (s ∷ p) (t ∷ q) a b h g e =
    let r = one_step s t h.0 g.0 h.1 g.1 h.2 g.2 (steps_end p h.1 h.3) (steps_end q g.1 g.3) (sym h.4 ∙ e ∙ g.4) in
    let first : s ≡ t = r.0 in
    let rest : p ≡ q = steps_one p q h.1 g.1 h.3 g.3 r.1 in
    cc

pub texts_spell_one_path : TextsSpellOnePath
texts_spell_one_path text p q h g =
    let e : 36 ∷ h.0 ≡ 36 ∷ g.0 = sym h.2 ∙ g.2 in
    let rest : h.0 ≡ g.0 = cc in
    steps_one p q h.0 g.0 h.1 g.1 rest
