-- Functions that are changed at one number, and the two orders of numbers.
use Rattle.std.proofs.Common.{◌≡◌, ◌≢◌, ◌<◌, arith, ℕ, refl, inl, inr, ◌⊎◌}
use Rattle.std.proofs.lemmas.Bool.{cases_lt}
use Rattle.std.proofs.lemmas.Bool.Decides.{eqb_tells}
use Rattle.linked_classes.specs.Linked.{updated, Rises, Falls}

pub updated_here : {A : Type 0} (f : ℕ → A) (i : ℕ) (v : A) (k : ℕ) → k ≡ i → updated i f v k ≡ v
updated_here f i v k e = elim (eqb_tells k i) [ inl w ↦ rw w.0 refl | inr w ↦ absurd (w.1 e) ]

pub updated_elsewhere : {A : Type 0} (f : ℕ → A) (i : ℕ) (v : A) (k : ℕ) → k ≢ i → updated i f v k ≡ f k
updated_elsewhere f i v k e = elim (eqb_tells k i) [ inl w ↦ absurd (e w.1) | inr w ↦ rw w.0 refl ]

-- an order in which of two numbers one is before the other
pub record IsOrder (R : ℕ → ℕ → Type 0) : Type 0 where
  pub strict : (a : ℕ) → R a a → ⊥
  pub trans : (a b c : ℕ) → R a b → R b c → R a c
  pub total : (a b : ℕ) → a ≢ b → R a b ⊎ R b a

in_order : (a b : ℕ) → a ≢ b → (a < b) ⊎ (b < a)
in_order a b e = elim (cases_lt a b) [
  | inl w ↦ inl w
  | inr w ↦ elim (cases_lt b a) [ inl v ↦ inr v | inr v ↦ absurd (e (omega (arith, w, v))) ]
]

pub rising : IsOrder Rises
rising = record { strict = λ a h. omega (arith, h); trans = λ a b c h k. omega (arith, h, k); total = λ a b e. in_order a b e }

pub falling : IsOrder Falls
falling = record { strict = λ a h. omega (arith, h); trans = λ a b c h k. omega (arith, h, k); total = λ a b e. elim (in_order a b e) [ inl w ↦ inr w | inr w ↦ inl w ] }
