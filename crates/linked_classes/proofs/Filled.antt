-- Values at rising numbers: how they are listed, and what becomes of them.
use Rattle.std.proofs.Common.{◌≡◌, ◌≢◌, ◌≤◌, ◌+◌, arith, ℕ, zero, suc, List, [], ◌∷◌, ◌++◌, Option, None, Some, IsSome, true, false, length, refl, ap, ap₂, sym, subst, ◌∙◌, inl, inr}
use Rattle.std.specs.Prelude.{slice_get}
use Rattle.std.specs.List.{remove}
use Rattle.std.proofs.lemmas.Option.{same_Some}
use Rattle.linked_classes.specs.Cells.{cell_at}
use Rattle.linked_classes.specs.Linked.{updated}
use Rattle.linked_classes.specs.Listed.{AreFilled, values_at, with_first}
use Rattle.linked_classes.specs.Places.{IsRising}
use Rattle.linked_classes.proofs.Gets.{one_or_other, older, newest}
use Rattle.linked_classes.proofs.Numbered.{apart, less_rises, more_below, more_rises, was, was_apart}
use Rattle.linked_classes.proofs.Updates.{updated_here, updated_elsewhere}

-- the number of a place that is left isn't the one that went
pub other_than_gone : (ns : List ℕ) → IsRising ns → (at number : ℕ) → slice_get ns at ≡ Some number → (i n : ℕ) → slice_get (remove ns at) i ≡ Some n → n ≢ number
other_than_gone ns rise at number here i n is = let w = was ns at i n is in apart ns rise w.place at n number w.is here (was_apart ns at i n w)

pub nothing : false ≡ true → ⊥
nothing h = cc

module _ {T : Type 0} where
  first_length : (o : Option T) (xs : List T) → IsSome o → length (with_first o xs) ≡ suc (length xs)
  first_length None xs h = absurd (nothing h)
  first_length (Some x) xs h = refl

  first_here : (o : Option T) (xs : List T) → IsSome o → slice_get (with_first o xs) 0 ≡ o
  first_here None xs h = absurd (nothing h)
  first_here (Some x) xs h = refl

  first_behind : (o : Option T) (xs : List T) (i : ℕ) → IsSome o → slice_get (with_first o xs) (suc i) ≡ slice_get xs i
  first_behind None xs i h = absurd (nothing h)
  first_behind (Some x) xs i h = refl

  first_append : (o : Option T) (xs ys : List T) → with_first o (xs ++ ys) ≡ with_first o xs ++ ys
  first_append None xs ys = refl
  first_append (Some x) xs ys = refl

  first_gone : (o : Option T) (xs : List T) → IsSome o → xs ≡ remove (with_first o xs) 0
  first_gone None xs h = absurd (nothing h)
  first_gone (Some x) xs h = refl

  first_kept : (o : Option T) (xs : List T) (at : ℕ) → IsSome o → with_first o (remove xs at) ≡ remove (with_first o xs) (suc at)
  first_kept None xs at h = absurd (nothing h)
  first_kept (Some x) xs at h = refl

  pub value_count : (f : ℕ → Option T) (ns : List ℕ) → ((i n : ℕ) → slice_get ns i ≡ Some n → IsSome (f n)) → length (values_at f ns) ≡ length ns
  value_count f [] h = refl
  value_count f (n ∷ ns) h = first_length (f n) (values_at f ns) (h 0 n refl) ∙ ap suc (value_count f ns (λ i m. h (suc i) m))

  pub value_here : (f : ℕ → Option T) (ns : List ℕ) → ((i n : ℕ) → slice_get ns i ≡ Some n → IsSome (f n)) → (i n : ℕ) → slice_get ns i ≡ Some n → slice_get (values_at f ns) i ≡ f n
  value_here f [] h i n is = absurd (let e : None ≡ Some n = is in cc)
  value_here f (m ∷ ms) h zero n is = first_here (f m) (values_at f ms) (h 0 m refl) ∙ ap f (same_Some m n is)
  value_here f (m ∷ ms) h (suc i) n is = first_behind (f m) (values_at f ms) i (h 0 m refl) ∙ value_here f ms (λ j k. h (suc j) k) i n is

  values_same : (f g : ℕ → Option T) (ns : List ℕ) → ((i n : ℕ) → slice_get ns i ≡ Some n → g n ≡ f n) → values_at g ns ≡ values_at f ns
  values_same f g [] h = refl
  values_same f g (n ∷ ns) h = ap₂ with_first (h 0 n refl) (values_same f g ns (λ i m. h (suc i) m))

  values_more : (f : ℕ → Option T) (ns : List ℕ) (e : ℕ) (x : T) → f e ≡ Some x → values_at f (ns ++ e ∷ []) ≡ values_at f ns ++ x ∷ []
  values_more f [] e x h = ap (λ (o : Option T). with_first o []) h
  values_more f (n ∷ ns) e x h = ap (with_first (f n)) (values_more f ns e x h) ∙ first_append (f n) (values_at f ns) (x ∷ [])

  values_less : (f : ℕ → Option T) (ns : List ℕ) (at : ℕ) → ((i n : ℕ) → slice_get ns i ≡ Some n → IsSome (f n)) → values_at f (remove ns at) ≡ remove (values_at f ns) at
  values_less f [] zero h = refl
  values_less f [] (suc at) h = refl
  values_less f (n ∷ ns) zero h = first_gone (f n) (values_at f ns) (h 0 n refl)
  values_less f (n ∷ ns) (suc at) h = ap (with_first (f n)) (values_less f ns at (λ i m. h (suc i) m)) ∙ first_kept (f n) (values_at f ns) at (h 0 n refl)

  module _ (ns : List ℕ) (end : ℕ) (cells : List (Option T)) (h : AreFilled ns end cells) where
    -- ---- a value comes

    module _ (new : List (Option T)) (x : T) (put : cell_at new ≡ updated end (cell_at cells) (Some x)) where
      put_here : cell_at new end ≡ Some x
      put_here = ap (λ f. f end) put ∙ updated_here (cell_at cells) end (Some x) end refl

      put_elsewhere : (i n : ℕ) → slice_get ns i ≡ Some n → cell_at new n ≡ cell_at cells n
      put_elsewhere i n is = ap (λ f. f n) put ∙ updated_elsewhere (cell_at cells) end (Some x) n (λ e. let l = h.below i n is in omega (arith, l, e))

      pub filled_more : length new ≤ end + 1 → AreFilled (ns ++ end ∷ []) (end + 1) new
      filled_more far = record {
        rising = more_rises ns end h.rising h.below;
        below = more_below ns end h.below;
        filled = λ i n is. elim (one_or_other i (length ns)) [
          | inl w ↦
              let e = same_Some end n (sym (newest ns end) ∙ ap (slice_get (ns ++ end ∷ [])) (sym w) ∙ is) in
              subst IsSome (sym put_here ∙ ap (cell_at new) e) refl
          | inr w ↦ let old = sym (older ns end i w) ∙ is in subst IsSome (sym (put_elsewhere i n old)) (h.filled i n old)
        ];
        reaches = far;
      }

      pub items_more : values_at (cell_at new) (ns ++ end ∷ []) ≡ values_at (cell_at cells) ns ++ x ∷ []
      items_more = values_more (cell_at new) ns end x put_here ∙ ap (λ (l : List T). l ++ x ∷ []) (values_same (cell_at cells) (cell_at new) ns put_elsewhere)

    -- ---- a value goes

    module _ (new : List (Option T)) (at number : ℕ) (here : slice_get ns at ≡ Some number) (gone : cell_at new ≡ updated number (cell_at cells) None) where
      left_alone : (i n : ℕ) → slice_get (remove ns at) i ≡ Some n → cell_at new n ≡ cell_at cells n
      left_alone i n is = ap (λ f. f n) gone ∙ updated_elsewhere (cell_at cells) number None n (other_than_gone ns h.rising at number here i n is)

      pub filled_less : length new ≤ end → AreFilled (remove ns at) end new
      filled_less far = record {
        rising = less_rises ns at h.rising;
        below = λ i n is. let w = was ns at i n is in h.below w.place n w.is;
        filled = λ i n is. let w = was ns at i n is in subst IsSome (sym (left_alone i n is)) (h.filled w.place n w.is);
        reaches = far;
      }

      pub items_less : values_at (cell_at new) (remove ns at) ≡ remove (values_at (cell_at cells) ns) at
      items_less = values_same (cell_at cells) (cell_at new) (remove ns at) left_alone ∙ values_less (cell_at cells) ns at h.filled
