-- A class is opened: the walk back through it puts its later places to those that are due.
use Rattle.std.proofs.Common.{◌≡◌, ◌==◌, ◌<◌, ◌≤◌, arith, ℕ, Bool, true, false, cond, List, Option, None, Some, eq-eqb, eqb-true, length, refl, ap, sym, subst, ◌∙◌, inl, inr, ◌⊎◌}
use Rattle.std.specs.Prelude.{◌||◌, IfSome, option_map}
use Rattle.std.proofs.lemmas.Option.{IfSome_then, slice_get_within}
use Rattle.linked_classes.specs.Cells.{cell_at}
use Rattle.linked_classes.specs.Linked.{IsBefore, IsLast}
use Rattle.linked_classes.specs.Places.{IsNumber, place_in}
use Rattle.step_index.specs.Due.{IsBehind, IsGrown, Keeps}
use Rattle.step_index.proofs.Sought.{IsAbove, between, has_class}

-- ---- what holds of a number's place

pub mapped : (f : ℕ → ℕ) (P : ℕ → Type 0) (r : Option ℕ) → IfSome r (λ n. P (f n)) → IfSome (option_map f r) P
mapped f P None h = tt
mapped f P (Some n) h = h

pub places_within : (ns : List ℕ) (count : ℕ) → length ns ≡ count → (r : Option ℕ) → IfSome r (IsNumber ns) → IfSome (option_map (place_in ns) r) (λ k. k < count)
places_within ns count many None h = tt
places_within ns count many (Some n) h = let l = slice_get_within ns (place_in ns n) n h in omega (arith, l, many)

-- ---- sets of places

pub or_cond : (a b : Bool) → (a || b) ≡ cond a true b
or_cond true b = refl
or_cond false b = refl

pub grown_same : (P : ℕ → Type 0) (due : ℕ → Bool) → IsGrown P due due
grown_same P due = record { kept = λ k h. h; others = λ k h. inl h }

pub grown_trans : (P : ℕ → Type 0) (a b c : ℕ → Bool) → IsGrown P a b → IsGrown P b c → IsGrown P a c
grown_trans P a b c f g = record {
  kept = λ k h. g.kept k (f.kept k h);
  others = λ k h. elim (g.others k h) [ inl x ↦ f.others k x | inr x ↦ inr x ];
}

pub grown_more : (P Q : ℕ → Type 0) (a b : ℕ → Bool) → ((k : ℕ) → P k → Q k) → IsGrown P a b → IsGrown Q a b
grown_more P Q a b more g = record {
  kept = g.kept;
  others = λ k h. elim (g.others k h) [ inl x ↦ inl x | inr x ↦ inr (more k x) ];
}

-- what a set has after one more came
module _ (n : ℕ) (test old new : ℕ → Bool) (updated : (k : ℕ) → new k ≡ cond (test k) true (old k)) where
  pub came_kept : Keeps old new
  came_kept k h = updated k ∙ by (test k)
    where
      by : (b : Bool) → cond b true (old k) ≡ true
      by true = refl
      by false = h

  pub came_or_was : (k : ℕ) → new k ≡ true → (test k ≡ true) ⊎ (old k ≡ true)
  came_or_was k h = by (test k) refl
    where
      by : (b : Bool) → test k ≡ b → (test k ≡ true) ⊎ (old k ≡ true)
      by true e = inl e
      by false e = inr (sym (updated k ∙ ap (λ b. cond b true (old k)) e) ∙ h)

-- ---- the walk back

-- a walk is at a place of a class, and those of the class that it passed are due
pub record IsPut (classes : List (Option ℕ)) (c at : ℕ) (last : Option ℕ) (old due : ℕ → Bool) : Type 0 where
  pub here : IfSome last (λ n. cell_at classes n ≡ Some c)
  pub within : IfSome last (λ n. n < length classes)
  pub passed : (k : ℕ) → at < k → cell_at classes k ≡ Some c → IsAbove k last → due k ≡ true
  pub grown : IsGrown (IsBehind classes c at) old due

module _ (classes : List (Option ℕ)) (c at : ℕ) (old : ℕ → Bool) where
  pub put_none : (last : Option ℕ) → IsLast (cell_at classes) c last → IfSome last (λ n. n < length classes) → IsPut classes c at last old old
  put_none None h w = record { here = tt; within = tt; passed = λ k l is a. absurd (h k is); grown = grown_same (IsBehind classes c at) old }
  put_none (Some n) h w = record { here = h.0; within = w; passed = λ k l is a. absurd (h.1 k a is); grown = grown_same (IsBehind classes c at) old }

  pub put_all : (due : ℕ → Bool) → IsPut classes c at None old due → (k : ℕ) → at < k → cell_at classes k ≡ Some c → due k ≡ true
  put_all due h = λ k l is. h.passed k l is tt

  pub put_beyond : (n : ℕ) (due : ℕ → Bool) → n ≤ at → IsPut classes c at (Some n) old due → (k : ℕ) → at < k → cell_at classes k ≡ Some c → due k ≡ true
  put_beyond n due w h = λ k l is. h.passed k l is (omega (arith, w, l))

  pub put_more : (n : ℕ) (due more : ℕ → Bool) (last : Option ℕ) → at < n → IsPut classes c at (Some n) old due → ((k : ℕ) → more k ≡ (n == k || due k))
      → IsBefore (cell_at classes) c n last → IfSome last (λ k. k < n) → IsPut classes c at last old more
  put_more n due more last far h updated before earlier = record {
    here = has_class (cell_at classes) c n last before;
    within = IfSome_then last earlier (λ k l. let w = h.within in omega (arith, l, w));
    passed = λ k l is a. elim (between (cell_at classes) c n last before k is a) [ inl e ↦ ap more e ∙ updated n ∙ ap (λ b. b || due n) (eq-eqb n n refl) | inr w ↦ came_kept n (λ k. n == k) due more as_cond k (h.passed k l is w) ];
    grown = grown_trans (IsBehind classes c at) old due more h.grown (record {
      kept = came_kept n (λ k. n == k) due more as_cond;
      others = λ k l. elim (came_or_was n (λ k. n == k) due more as_cond k l) [ inl e ↦ inr (subst (IsBehind classes c at) (eqb-true n k e) (far, h.within, h.here)) | inr x ↦ inl x ];
    });
  }
    where
      as_cond : (k : ℕ) → more k ≡ cond (n == k) true (due k)
      as_cond k = updated k ∙ or_cond (n == k) (due k)
