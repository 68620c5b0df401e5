-- Tests of which one of a list passes.
use Rattle.std.proofs.Common.{◌≡◌, Bool, true, false, cond, List, [], ◌∷◌, ◌++◌, refl, ap, ap₂, sym, ◌∙◌}
use Rattle.std.specs.Prelude.{◌||◌}
use Rattle.std.specs.List.{list_any}
use Rattle.std.proofs.lemmas.List.Folds.{list_any-append}

pub same_bool : (a b : Bool) → (a ≡ true → b ≡ true) → (b ≡ true → a ≡ true) → a ≡ b
same_bool true b f g = sym (f refl)
same_bool false true f g = g refl
same_bool false false f g = refl

or_four : (a b c d : Bool) → ((a || b) || (c || d)) ≡ ((a || c) || (b || d))
or_four true b c d = refl
or_four false true true d = refl
or_four false true false d = refl
or_four false false c d = refl

pub or_false : (a : Bool) → (a || false) ≡ a
or_false true = refl
or_false false = refl

or_cond : (a b : Bool) → cond a true b ≡ (b || a)
or_cond true true = refl
or_cond true false = refl
or_cond false b = sym (or_false b)

-- which of three is true
pub or_first : (a b c : Bool) → a ≡ true → true ≡ (a || (b || c))
or_first a b c h = sym (ap (λ x. x || (b || c)) h)

pub or_second : (a b c : Bool) → b ≡ true → true ≡ (a || (b || c))
or_second true b c h = refl
or_second false b c h = sym (ap (λ x. x || c) h)

pub or_third : (a b c x : Bool) → a ≡ false → b ≡ false → x ≡ c → x ≡ (a || (b || c))
or_third a b c x h k e = e ∙ sym (ap₂ (λ y z. y || (z || c)) h k)

module _ {A : Type 0} where
  pub any_same : (p q : A → Bool) (xs : List A) → ((x : A) → p x ≡ q x) → list_any p xs ≡ list_any q xs
  any_same p q [] e = refl
  any_same p q (x ∷ xs) e = ap₂ (λ (a b : Bool). a || b) (e x) (any_same p q xs e)

  pub any_never : (p : A → Bool) (xs : List A) → ((x : A) → p x ≡ false) → list_any p xs ≡ false
  any_never p [] e = refl
  any_never p (x ∷ xs) e = ap₂ (λ (a b : Bool). a || b) (e x) (any_never p xs e)

  pub any_or : (p q : A → Bool) (xs : List A) → list_any (λ x. p x || q x) xs ≡ (list_any p xs || list_any q xs)
  any_or p q [] = refl
  any_or p q (x ∷ xs) = ap (λ b. (p x || q x) || b) (any_or p q xs) ∙ or_four (p x) (q x) (list_any p xs) (list_any q xs)

  -- one more, that passes or doesn't
  pub any_more : (p : A → Bool) (xs : List A) (x : A) → list_any p (xs ++ x ∷ []) ≡ (list_any p xs || p x)
  any_more p xs x = list_any-append p xs (x ∷ []) ∙ ap (λ b. list_any p xs || b) (or_false (p x))

  pub put_more : (p : A → Bool) (xs : List A) (x : A) (b : Bool) → b ≡ list_any p xs → cond (p x) true b ≡ list_any p (xs ++ x ∷ [])
  put_more p xs x b e = or_cond (p x) b ∙ ap (λ c. c || p x) e ∙ sym (any_more p xs x)

  pub not_more : (p : A → Bool) (xs : List A) (x : A) (b : Bool) → p x ≡ false → b ≡ list_any p xs → b ≡ list_any p (xs ++ x ∷ [])
  not_more p xs x b none e = e ∙ sym (or_false (list_any p xs)) ∙ ap (λ c. list_any p xs || c) (sym none) ∙ sym (any_more p xs x)

-- for one of some, one of others passes
pub any_swap : {A B : Type 0} (r : A → B → Bool) (xs : List A) (ys : List B) → list_any (λ x. list_any (r x) ys) xs ≡ list_any (λ y. list_any (λ x. r x y) xs) ys
any_swap r [] ys = sym (any_never (λ y. false) ys (λ y. refl))
any_swap r (x ∷ xs) ys = ap (λ b. list_any (r x) ys || b) (any_swap r xs ys) ∙ sym (any_or (r x) (λ y. list_any (λ z. r z y) xs) ys)

or_deep : (a b c : Bool) → ((a || b) || c) ≡ (a || (b || c))
or_deep true b c = refl
or_deep false b c = refl

-- what is told of some, and of one more
pub or_more : {A : Type 0} (p : A → Bool) (xs : List A) (x : A) (a o n : Bool) → n ≡ (o || p x) → o ≡ (a || list_any p xs) → n ≡ (a || list_any p (xs ++ x ∷ []))
or_more p xs x a o n e is = e ∙ ap (λ b. b || p x) is ∙ or_deep a (list_any p xs) (p x) ∙ ap (λ b. a || b) (sym (any_more p xs x))

again_first : (a l b : Bool) → a ≡ b → ((a || l) || b) ≡ (a || l)
again_first true l b e = refl
again_first false l true e = absurd (let k : false ≡ true = e in cc)
again_first false l false e = or_false l

-- one more adds nothing where each of those of which one is there tells what it does
pub any_again : {A : Type 0} (q p : A → Bool) (b : Bool) (xs : List A) → list_any q xs ≡ true → ((x : A) → q x ≡ true → p x ≡ b) → (list_any p xs || b) ≡ list_any p xs
any_again q p b [] h same = absurd (let k : false ≡ true = h in cc)
any_again q p b (x ∷ xs) h same = by (q x) refl (λ k. any_again q p b xs k same)
  where
    by : (c : Bool) → q x ≡ c → (list_any q xs ≡ true → (list_any p xs || b) ≡ list_any p xs) → ((p x || list_any p xs) || b) ≡ (p x || list_any p xs)
    by true e rest = again_first (p x) (list_any p xs) b (same x e)
    by false e rest = or_deep (p x) (list_any p xs) b ∙ ap (λ c. p x || c) (rest (sym (ap (λ c. c || list_any q xs) e) ∙ h))
