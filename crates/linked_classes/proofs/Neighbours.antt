-- Each number has one neighbour on each side, and each class one end.
use Rattle.std.proofs.Common.{◌≡◌, ℕ, Option, None, Some, refl, ap, inl, inr}
use Rattle.linked_classes.specs.Linked.{IsNearest, IsForemost, IsNext, IsBefore, IsFirst, IsLast, Rises, Falls}
use Rattle.linked_classes.proofs.Gets.{one_or_other}
use Rattle.linked_classes.proofs.Updates.{IsOrder, rising, falling}

module _ (R : ℕ → ℕ → Type 0) (o : IsOrder R) (f : ℕ → Option ℕ) (c : ℕ) where
  nearest_one : (i : ℕ) (r s : Option ℕ) → IsNearest R f c i r → IsNearest R f c i s → r ≡ s
  nearest_one i None None a b = refl
  nearest_one i None (Some k) a b = absurd (a k b.0 b.1)
  nearest_one i (Some j) None a b = absurd (b j a.0 a.1)
  nearest_one i (Some j) (Some k) a b = elim (one_or_other j k) [ inl w ↦ ap Some w | inr w ↦ absurd (elim (o.total j k w) [ inl v ↦ b.2 j a.0 v a.1 | inr v ↦ a.2 k b.0 v b.1 ]) ]

  foremost_one : (r s : Option ℕ) → IsForemost R f c r → IsForemost R f c s → r ≡ s
  foremost_one None None a b = refl
  foremost_one None (Some k) a b = absurd (a k b.0)
  foremost_one (Some j) None a b = absurd (b j a.0)
  foremost_one (Some j) (Some k) a b = elim (one_or_other j k) [ inl w ↦ ap Some w | inr w ↦ absurd (elim (o.total j k w) [ inl v ↦ b.1 j v a.0 | inr v ↦ a.1 k v b.0 ]) ]

pub next_is_one : (f : ℕ → Option ℕ) (c i : ℕ) (r s : Option ℕ) → IsNext f c i r → IsNext f c i s → r ≡ s
next_is_one = nearest_one Rises rising

pub before_is_one : (f : ℕ → Option ℕ) (c i : ℕ) (r s : Option ℕ) → IsBefore f c i r → IsBefore f c i s → r ≡ s
before_is_one = nearest_one Falls falling

pub first_is_one : (f : ℕ → Option ℕ) (c : ℕ) (r s : Option ℕ) → IsFirst f c r → IsFirst f c s → r ≡ s
first_is_one = foremost_one Rises rising

pub last_is_one : (f : ℕ → Option ℕ) (c : ℕ) (r s : Option ℕ) → IsLast f c r → IsLast f c s → r ≡ s
last_is_one = foremost_one Falls falling
