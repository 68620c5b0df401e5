-- Values that come and go, and the classes of their slots.
use Rattle.std.proofs.Common.{◌≡◌, ◌≢◌, ◌<◌, ◌≤◌, ◌+◌, ◌*◌, ◌-◌, arith, ℕ, List, [], ◌∷◌, ◌++◌, Option, None, Some, length, map, refl, ap, ap₂, sym, ◌∙◌, inl, inr}
use Rattle.std.specs.Prelude.{slice_get}
use Rattle.std.specs.List.{remove}
use Rattle.std.proofs.lemmas.Bool.{cases_lt}
use Rattle.std.proofs.lemmas.List.{length-append, map-append}
use Rattle.std.proofs.lemmas.List.Edits.{length-remove}
use Rattle.std.proofs.lemmas.Option.{none-some, same_Some, slice_get_within}
use Rattle.linked_classes.specs.Cells.{cell_at}
use Rattle.linked_classes.specs.Linked.{updated}
use Rattle.linked_classes.specs.Sets.{AreSets, IsInClass, IsPut, in_slot, out_of_slot, set_class}
use Rattle.linked_classes.proofs.Filled.{other_than_gone}
use Rattle.linked_classes.proofs.Gets.{one_or_other, older, newest}
use Rattle.linked_classes.proofs.Numbered.{less_rises, map_remove, map_same, more_below, more_rises, still, was}
use Rattle.linked_classes.proofs.Slots.{out_again}
use Rattle.linked_classes.proofs.Updates.{updated_here, updated_elsewhere}

-- ---- slot after slot

pub put_none : (f : ℕ → Option ℕ) (n : ℕ) (classes : List (Option ℕ)) → IsPut f f n 0 classes
put_none f n classes = record { done = λ set l. absurd (omega (arith, l)); before = λ s l. refl; behind = λ s l. refl }

pub put_more : (f g h : ℕ → Option ℕ) (n j : ℕ) (classes : List (Option ℕ)) → IsPut f g n j classes → ((s : ℕ) → h s ≡ updated (6 * n + j) g (in_slot j (cell_at classes j)) s) → IsPut f h n (j + 1) classes
put_more f g h n j classes old put = record {
  done = λ set l. elim (one_or_other set j) [
    | inl w ↦ put (6 * n + set) ∙ updated_here g (6 * n + j) (in_slot j (cell_at classes j)) (6 * n + set) (omega (arith, w)) ∙ ap (λ k. in_slot k (cell_at classes k)) (sym w)
    | inr w ↦ put (6 * n + set) ∙ updated_elsewhere g (6 * n + j) (in_slot j (cell_at classes j)) (6 * n + set) (λ e. w (omega (arith, e))) ∙ old.done set (let k : set < j = in_order set l w in k)
  ];
  before = λ s l. put s ∙ updated_elsewhere g (6 * n + j) (in_slot j (cell_at classes j)) s (λ e. omega (arith, e, l)) ∙ old.before s l;
  behind = λ s l. put s ∙ updated_elsewhere g (6 * n + j) (in_slot j (cell_at classes j)) s (λ e. omega (arith, e, l)) ∙ old.behind s (omega (arith, l));
}
  where
    in_order : (set : ℕ) → set < j + 1 → set ≢ j → set < j
    in_order set l w = elim (cases_lt set j) [ inl x ↦ x | inr x ↦ absurd (w (omega (arith, l, x))) ]

-- ---- a value comes

module _ (ns : List ℕ) (f g : ℕ → Option ℕ) (end count reached : ℕ) (h : AreSets ns f end count reached) (classes : List (Option ℕ)) (put : IsPut f g end 6 classes) where
  still_there : (s d : ℕ) → IsInClass ns s d → IsInClass (ns ++ end ∷ []) s d
  still_there s d x = record {
    place = x.place;
    number = x.number;
    set = x.set;
    class = x.class;
    at = older ns end x.place (λ e. let l = slice_get_within ns x.place x.number x.at in omega (arith, l, e)) ∙ x.at;
    few = x.few;
    slot = x.slot;
    known = x.known;
  }

  here : (s d set : ℕ) → set < 6 → s ≡ 6 * end + set → g s ≡ Some d → IsInClass (ns ++ end ∷ []) s d
  here s d set few slot is = by (cell_at classes set) refl
    where
      told : Some d ≡ in_slot set (cell_at classes set)
      told = sym is ∙ ap g slot ∙ put.done set few

      by : (o : Option ℕ) → cell_at classes set ≡ o → IsInClass (ns ++ end ∷ []) s d
      by None e = absurd (none-some d (sym (told ∙ ap (in_slot set) e)))
      by (Some c) e = record {
        place = length ns;
        number = end;
        set = set;
        class = c;
        at = newest ns end;
        few = few;
        slot = slot;
        known = same_Some d (6 * c + set) (told ∙ ap (in_slot set) e);
      }

  pub pushed : (more now : ℕ) → more ≡ count + 1 → now ≤ 6 * end + 6 → end < 715827882 → AreSets (ns ++ end ∷ []) g (end + 1) more now
  pushed more now counted far small = record {
    rising = more_rises ns end h.rising h.below;
    below = more_below ns end h.below;
    many = let e = length-append ns (end ∷ []) in let m = h.many in omega (arith, e, m, counted);
    stand = λ s d is. elim (cases_lt s (6 * end)) [
      | inl w ↦ still_there s d (h.stand s d (sym (put.before s w) ∙ is))
      | inr w ↦ elim (cases_lt s (6 * end + 6)) [
        | inl v ↦ here s d (s - 6 * end) (omega (arith, w, v)) (omega (arith, w, v)) is
        | inr v ↦ still_there s d (h.stand s d (sym (put.behind s v) ∙ is))
      ]
    ];
    reaches = omega (arith, far);
    small = omega (arith, small);
  }

  pub pushed_seen : (set : ℕ) → set < 6 → map (set_class g set) (ns ++ end ∷ []) ≡ map (set_class f set) ns ++ cell_at classes set ∷ []
  pushed_seen set few =
      map-append (set_class g set) ns (end ∷ [])
      ∙ ap₂ (λ (xs : List (Option ℕ)) (x : Option ℕ). xs ++ x ∷ [])
      (map_same ns (set_class f set) (set_class g set) (λ i n is. ap out_of_slot (put.before (6 * n + set) (let l = h.below i n is in omega (arith, l, few)))))
      (ap out_of_slot (put.done set few) ∙ out_again set (cell_at classes set) few)

-- ---- a value goes

module _ (ns : List ℕ) (f g : ℕ → Option ℕ) (end count reached : ℕ) (h : AreSets ns f end count reached) (at number : ℕ) (is_at : slice_get ns at ≡ Some number) (put : IsPut f g number 6 []) where
  left_there : (s d : ℕ) → (x : IsInClass ns s d) → x.number ≢ number → IsInClass (remove ns at) s d
  left_there s d x other =
      let j = still ns at x.place x.number x.at (λ e. other (same_Some x.number number (sym x.at ∙ ap (slice_get ns) e ∙ is_at))) in
      record { place = j.0; number = x.number; set = x.set; class = x.class; at = j.1; few = x.few; slot = x.slot; known = x.known }

  before_it : (s d : ℕ) → s < 6 * number → f s ≡ Some d → IsInClass (remove ns at) s d
  before_it s d w is = let x = h.stand s d is in left_there s d x (λ e. let q = x.slot in omega (arith, q, e, w))

  behind_it : (s d : ℕ) → 6 * number + 6 ≤ s → f s ≡ Some d → IsInClass (remove ns at) s d
  behind_it s d w is = let x = h.stand s d is in left_there s d x (λ e. let q = x.slot in let l = x.few in omega (arith, q, e, w, l))

  gone : (s d : ℕ) → 6 * number ≤ s → s < 6 * number + 6 → g s ≡ Some d → ⊥
  gone s d w v is =
      let set = s - 6 * number in
      let e : s ≡ 6 * number + set = omega (arith, w) in
      none-some d (sym (put.done set (omega (arith, w, v))) ∙ ap g (sym e) ∙ is)

  pub taken : (less now : ℕ) → less + 1 ≡ count → now ≤ reached → AreSets (remove ns at) g end less now
  taken less now counted far = record {
    rising = less_rises ns at h.rising;
    below = λ i n is. let w = was ns at i n is in h.below w.place n w.is;
    many = let e = length-remove ns at (slice_get_within ns at number is_at) in let m = h.many in omega (arith, e, m, counted);
    stand = λ s d is. elim (cases_lt s (6 * number)) [
      | inl w ↦ before_it s d w (sym (put.before s w) ∙ is)
      | inr w ↦ elim (cases_lt s (6 * number + 6)) [ inl v ↦ absurd (gone s d w v is) | inr v ↦ behind_it s d v (sym (put.behind s v) ∙ is) ]
    ];
    reaches = let r = h.reaches in omega (arith, r, far);
    small = h.small;
  }

  pub taken_seen : (set : ℕ) → set < 6 → map (set_class g set) (remove ns at) ≡ remove (map (set_class f set) ns) at
  taken_seen set few = map_same (remove ns at) (set_class f set) (set_class g set) (λ i n is. ap out_of_slot (alike n (other_than_gone ns h.rising at number is_at i n is))) ∙ map_remove ns at (set_class f set)
    where
      alike : (n : ℕ) → n ≢ number → g (6 * n + set) ≡ f (6 * n + set)
      alike n other = elim (cases_lt n number) [
        | inl w ↦ put.before (6 * n + set) (omega (arith, w, few))
        | inr w ↦ elim (cases_lt number n) [ inl v ↦ put.behind (6 * n + set) (omega (arith, v)) | inr v ↦ absurd (other (omega (arith, w, v))) ]
      ]
