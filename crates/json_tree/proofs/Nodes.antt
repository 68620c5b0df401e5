-- What a shared node holds, and what an owner that writes to it starts from.
use Rattle.std.proofs.Common.{◌≡◌, ◌<◌, ◌⊎◌, inl, inr, ℕ, zero, suc, List, [], ◌∷◌, length, get_or, slice_get, Some, Result, Ok, Err, OnOk, OnErr, is_ok, if◌then◌else◌, refl, ap, ap₂, arith}
use Rattle.std.specs.List.{AllZip}
use Rattle.std.specs.Vec.{vec_len}
use Rattle.std.specs.declared.vec.Vec.{Vec}

same_clones : {X : Type 0} (xs ys : List X) → AllZip (λ a b. b ≡ a) xs ys → ys ≡ xs
same_clones [] [] h = refl
same_clones [] (y ∷ ys) h = absurd h
same_clones (x ∷ xs) [] h = absurd h
same_clones (x ∷ xs) (y ∷ ys) h = ap₂ (λ a rest. a ∷ rest) h.0 (same_clones xs ys h.1)

-- what an owner gets to write to is what the node held
pub same_items : {X A : Type 0} (v w : Vec X A) → (w ≡ v) ⊎ (AllZip (λ a b. b ≡ a) v.items w.items × (vec_len w ≡ vec_len v)) → w.items ≡ v.items
same_items v w (inl same) = ap (λ u. u.items) same
same_items v w (inr clones) = same_clones v.items w.items clones.0

-- a call that grows a list leaves it grown, or as it was
pub grown : {T E X : Type 0} {P : Type 0} (r : Result T E) (xs more before : List X) → xs ≡ (if is_ok r then more else before) → (xs ≡ more → P) → OnOk r P
grown (Ok t) xs more before h k = k h
grown (Err e) xs more before h k = tt

pub not_grown : {T E X : Type 0} {P : Type 0} (r : Result T E) (xs more before : List X) → xs ≡ (if is_ok r then more else before) → (xs ≡ before → P) → OnErr r P
not_grown (Ok t) xs more before h k = tt
not_grown (Err e) xs more before h k = k h

pub get_within : {X : Type 0} (xs : List X) (i : ℕ) (d : X) → i < length xs → slice_get xs i ≡ Some (get_or xs i d)
get_within [] i d h = absurd (omega arith)
get_within (x ∷ xs) zero d h = refl
get_within (x ∷ xs) (suc i) d h = get_within xs i d (omega arith)
