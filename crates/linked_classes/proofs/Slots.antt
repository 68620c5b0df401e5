-- Slots: what is said of their classes, for the numbers of a set and for the places.
use Rattle.std.proofs.Common.{◌≡◌, ◌<◌, ◌+◌, ◌*◌, ◌/◌, arith, ℕ, List, Option, None, Some, length, map, refl, ap, sym, subst, ◌∙◌}
use Rattle.std.specs.Prelude.{option_map, IfSome}
use Rattle.std.proofs.lemmas.Option.{none-some, same_Some, slice_get_within}
use Rattle.linked_classes.specs.Cells.{cell_at}
use Rattle.linked_classes.specs.Linked.{IsNearest, IsForemost, IsNext, IsBefore, IsFirst, IsLast, Rises, Falls}
use Rattle.linked_classes.specs.Places.{IsNumber, IsRising, place_in}
use Rattle.linked_classes.specs.Sets.{IsInClass, in_slot, out_of_slot, set_class}
use Rattle.linked_classes.proofs.Numbered.{class_here, first_none, first_place, last_none, last_place, next_none, next_place, before_none, before_place}
use Rattle.linked_classes.proofs.Placed.{is_number}

pub out_again : (set : ℕ) (o : Option ℕ) → set < 6 → out_of_slot (in_slot set o) ≡ o
out_again set None few = refl
out_again set (Some c) few = ap Some (let e : (6 * c + set) / 6 ≡ c = omega (arith, few) in e)

abbrev pub halves : Option ℕ → Option ℕ
halves r = option_map (λ s. s / 6) r

module _ (ns : List ℕ) (f : ℕ → Option ℕ) (stand : (s d : ℕ) → f s ≡ Some d → IsInClass ns s d) where
  pub in_set : (set n c : ℕ) → set < 6 → set_class f set n ≡ Some c → f (6 * n + set) ≡ Some (6 * c + set)
  in_set set n c few is = by (f (6 * n + set)) refl
    where
      by : (o : Option ℕ) → f (6 * n + set) ≡ o → f (6 * n + set) ≡ Some (6 * c + set)
      by None e = absurd (none-some c (sym (ap out_of_slot e) ∙ is))
      by (Some d) e =
          let w = stand (6 * n + set) d e in
          let a = w.few in
          let b = w.slot in
          let k = w.known in
          let same : d / 6 ≡ c = same_Some (d / 6) c (sym (ap out_of_slot e) ∙ is) in
          e ∙ ap Some (let q : d ≡ 6 * c + set = omega (arith, a, b, k, same, few) in q)

  pub set_in : (set n c : ℕ) → set < 6 → f (6 * n + set) ≡ Some (6 * c + set) → set_class f set n ≡ Some c
  set_in set n c few is = ap out_of_slot is ∙ out_again set (Some c) few

  pub none_in : (set n : ℕ) → set_class f set n ≡ None → f (6 * n + set) ≡ None
  none_in set n is = by (f (6 * n + set)) refl
    where
      by : (o : Option ℕ) → f (6 * n + set) ≡ o → f (6 * n + set) ≡ None
      by None e = e
      by (Some d) e = absurd (none-some (d / 6) (sym is ∙ ap out_of_slot e))

  -- the slot of a class of a set is one of that set
  of_set : (set c s : ℕ) → set < 6 → f s ≡ Some (6 * c + set) → s ≡ 6 * (s / 6) + set
  of_set set c s few is =
      let w = stand s (6 * c + set) is in
      let a = w.few in
      let b = w.slot in
      let k = w.known in
      omega (arith, a, b, k, few)

  module _ (rise : IsRising ns) where
    pub numbered : (s d : ℕ) → f s ≡ Some d → IsNumber ns (s / 6)
    numbered s d is =
        let w = stand s d is in
        let a = w.few in
        let b = w.slot in
        subst (IsNumber ns) (let e : w.number ≡ s / 6 = omega (arith, a, b) in e) (is_number ns rise w.place w.number w.at)

    pub foremost_known : (R : ℕ → ℕ → Type 0) (d : ℕ) (r : Option ℕ) → IsForemost R f d r → IfSome (halves r) (IsNumber ns)
    foremost_known R d None h = tt
    foremost_known R d (Some s) h = numbered s d h.0

    pub nearest_known : (R : ℕ → ℕ → Type 0) (a : ℕ) (r : Option ℕ) → ((d : ℕ) → f a ≡ Some d → IsNearest R f d a r) → (f a ≡ None → r ≡ None) → IfSome (halves r) (IsNumber ns)
    nearest_known R a None some none = tt
    nearest_known R a (Some s) some none = by (f a) refl
      where
        by : (o : Option ℕ) → f a ≡ o → IsNumber ns (s / 6)
        by None e = absurd (none-some s (sym (none e)))
        by (Some d) e = numbered s d (some d e).1

  module _ (R : ℕ → ℕ → Type 0) (up : (a b set : ℕ) → R a b → R (6 * a + set) (6 * b + set)) (back : (a b set : ℕ) → R (6 * a + set) (6 * b + set) → R a b) (set c : ℕ) (few : set < 6) where
    foremost_of : (r : Option ℕ) → IsForemost R f (6 * c + set) r → IsForemost R (set_class f set) c (halves r)
    foremost_of None h = λ k is. h (6 * k + set) (in_set set k c few is)
    foremost_of (Some s) h =
        let e = of_set set c s few h.0 in (
          set_in set (s / 6) c few (ap f (sym e) ∙ h.0),
          λ k below is. h.1 (6 * k + set) (subst (R (6 * k + set)) (sym e) (up k (s / 6) set below)) (in_set set k c few is),
        )

    nearest_of : (n : ℕ) (r : Option ℕ) → IsNearest R f (6 * c + set) (6 * n + set) r → IsNearest R (set_class f set) c n (halves r)
    nearest_of n None h = λ k beyond is. h (6 * k + set) (up n k set beyond) (in_set set k c few is)
    nearest_of n (Some s) h =
        let e = of_set set c s few h.1 in (
          back n (s / 6) set (subst (R (6 * n + set)) e h.0),
          set_in set (s / 6) c few (ap f (sym e) ∙ h.1),
          λ k beyond below is. h.2 (6 * k + set) (up n k set beyond) (subst (R (6 * k + set)) (sym e) (up k (s / 6) set below)) (in_set set k c few is),
        )

rises : (a b set : ℕ) → Rises a b → Rises (6 * a + set) (6 * b + set)
rises a b set h = omega (arith, h)

rises_back : (a b set : ℕ) → Rises (6 * a + set) (6 * b + set) → Rises a b
rises_back a b set h = omega (arith, h)

falls : (a b set : ℕ) → Falls a b → Falls (6 * a + set) (6 * b + set)
falls a b set h = omega (arith, h)

falls_back : (a b set : ℕ) → Falls (6 * a + set) (6 * b + set) → Falls a b
falls_back a b set h = omega (arith, h)

-- ---- of places

abbrev pub placed_in : List ℕ → Option ℕ → Option ℕ
placed_in ns r = option_map (place_in ns) (halves r)

module _ (ns : List ℕ) (f : ℕ → Option ℕ) (stand : (s d : ℕ) → f s ≡ Some d → IsInClass ns s d) (rise : IsRising ns) (set : ℕ) (few : set < 6) where
  classes : List (Option ℕ)
  classes = map (set_class f set) ns

  pub first_in : (c : ℕ) (r : Option ℕ) → IsFirst f (6 * c + set) r → IsFirst (cell_at (map (set_class f set) ns)) c (placed_in ns r)
  first_in c None h = first_none ns rise (set_class f set) c (foremost_of ns f stand Rises rises rises_back set c few None h)
  first_in c (Some s) h =
      first_place ns rise (set_class f set) c (place_in ns (s / 6)) (s / 6) (numbered ns f stand rise s (6 * c + set) h.0) (foremost_of ns f stand Rises rises rises_back set c few (Some s) h)

  pub last_in : (c : ℕ) (r : Option ℕ) → IsLast f (6 * c + set) r → IsLast (cell_at (map (set_class f set) ns)) c (placed_in ns r)
  last_in c None h = last_none ns rise (set_class f set) c (foremost_of ns f stand Falls falls falls_back set c few None h)
  last_in c (Some s) h =
      last_place ns rise (set_class f set) c (place_in ns (s / 6)) (s / 6) (numbered ns f stand rise s (6 * c + set) h.0) (foremost_of ns f stand Falls falls falls_back set c few (Some s) h)

  module _ (n : ℕ) (there : IsNumber ns n) where
    own_class : (c : ℕ) → cell_at (map (set_class f set) ns) (place_in ns n) ≡ Some c → f (6 * n + set) ≡ Some (6 * c + set)
    own_class c is = in_set ns f stand set n c few (sym (class_here ns (set_class f set) (place_in ns n) n there) ∙ is)

    pub no_class : cell_at (map (set_class f set) ns) (place_in ns n) ≡ None → f (6 * n + set) ≡ None
    no_class is = none_in ns f stand set n (sym (class_here ns (set_class f set) (place_in ns n) n there) ∙ is)

    next_of : (c : ℕ) (r : Option ℕ) → IsNext f (6 * c + set) (6 * n + set) r → IsNext (cell_at (map (set_class f set) ns)) c (place_in ns n) (placed_in ns r)
    next_of c None h = next_none ns rise (set_class f set) c (place_in ns n) n there (nearest_of ns f stand Rises rises rises_back set c few n None h)
    next_of c (Some s) h =
        next_place ns rise (set_class f set) c (place_in ns n) n (place_in ns (s / 6)) (s / 6) there (numbered ns f stand rise s (6 * c + set) h.1) (nearest_of ns f stand Rises rises rises_back set c few n (Some s) h)

    before_of : (c : ℕ) (r : Option ℕ) → IsBefore f (6 * c + set) (6 * n + set) r → IsBefore (cell_at (map (set_class f set) ns)) c (place_in ns n) (placed_in ns r)
    before_of c None h = before_none ns rise (set_class f set) c (place_in ns n) n there (nearest_of ns f stand Falls falls falls_back set c few n None h)
    before_of c (Some s) h =
        before_place ns rise (set_class f set) c (place_in ns n) n (place_in ns (s / 6)) (s / 6) there (numbered ns f stand rise s (6 * c + set) h.1) (nearest_of ns f stand Falls falls falls_back set c few n (Some s) h)

    module _ (r : Option ℕ) where
      pub next_in : ((d : ℕ) → f (6 * n + set) ≡ Some d → IsNext f d (6 * n + set) r) → (c : ℕ) → cell_at (map (set_class f set) ns) (place_in ns n) ≡ Some c
          → IsNext (cell_at (map (set_class f set) ns)) c (place_in ns n) (placed_in ns r)
      next_in some c is = next_of c r (some (6 * c + set) (own_class c is))

      pub before_in : ((d : ℕ) → f (6 * n + set) ≡ Some d → IsBefore f d (6 * n + set) r) → (c : ℕ) → cell_at (map (set_class f set) ns) (place_in ns n) ≡ Some c
          → IsBefore (cell_at (map (set_class f set) ns)) c (place_in ns n) (placed_in ns r)
      before_in some c is = before_of c r (some (6 * c + set) (own_class c is))

      pub later_in : ((d : ℕ) → f (6 * n + set) ≡ Some d → IsNext f d (6 * n + set) r) → (f (6 * n + set) ≡ None → r ≡ None) → IfSome (halves r) (λ m. place_in ns n < place_in ns m)
      later_in some none = by (cell_at (map (set_class f set) ns) (place_in ns n)) r refl refl
        where
          by : (o t : Option ℕ) → cell_at (map (set_class f set) ns) (place_in ns n) ≡ o → r ≡ t → IfSome (halves t) (λ m. place_in ns n < place_in ns m)
          by o None e k = tt
          by None (Some s) e k = absurd (none-some s (sym (none (no_class e)) ∙ k))
          by (Some c) (Some s) e k = (next_of c (Some s) (subst (IsNext f (6 * c + set) (6 * n + set)) k (some (6 * c + set) (own_class c e)))).0

      pub earlier_in : ((d : ℕ) → f (6 * n + set) ≡ Some d → IsBefore f d (6 * n + set) r) → (f (6 * n + set) ≡ None → r ≡ None) → IfSome (halves r) (λ m. place_in ns m < place_in ns n)
      earlier_in some none = by (cell_at (map (set_class f set) ns) (place_in ns n)) r refl refl
        where
          by : (o t : Option ℕ) → cell_at (map (set_class f set) ns) (place_in ns n) ≡ o → r ≡ t → IfSome (halves t) (λ m. place_in ns m < place_in ns n)
          by o None e k = tt
          by None (Some s) e k = absurd (none-some s (sym (none (no_class e)) ∙ k))
          by (Some c) (Some s) e k = (before_of c (Some s) (subst (IsBefore f (6 * c + set) (6 * n + set)) k (some (6 * c + set) (own_class c e)))).0

-- a number that is there has a place within
pub within_all : (ns : List ℕ) (count : ℕ) → length ns ≡ count → (r : Option ℕ) → IfSome r (IsNumber ns) → IfSome r (λ n. place_in ns n < count)
within_all ns count many None h = tt
within_all ns count many (Some n) h = let l = slice_get_within ns (place_in ns n) n h in omega (arith, l, many)
