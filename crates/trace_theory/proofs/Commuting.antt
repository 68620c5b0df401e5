-- Steps that no other depends on go to the end of a run, and those that depend on no other to its front.
use Rattle.std.proofs.Common.{◌≡◌, false, List, [], ◌∷◌, ◌++◌, refl, sym, subst, inl, inr}
use Rattle.trace_theory.specs.Traces.{Machine, Occurrence, In, IsRun, Takes, needs, undone, IsReversible, Square, Loop}
use Rattle.trace_theory.specs.Footprints.{IsReached}
use Rattle.trace_theory.proofs.Runs.{Runs, from_run, to_run, Runs-append, Runs-split, reached_by, reached_next, reached_here}

module _ {W N F S : Type 0} (m : Machine W N F S) (base : W) (law : IsReversible m base) where
  pub to_end : (t : Occurrence N F S) (ts : List (Occurrence N F S)) (w v : W) → IsReached m base w → ((y : Occurrence N F S) → In y ts → needs m t y ≡ false) → Runs m w (t ∷ ts) v → (x : W) × Runs m w ts x × Takes m x t v
  to_end t [] w v r a h = (w, refl, subst (λ (x : W). Takes m w t x) h.2 h.1)
  to_end t (g ∷ ts) w v r a h =
      let s = law.swapped r.0 w h.0 h.2.0 t g r.1 h.1 h.2.1 (a g (inl refl)) in
      let k = to_end t ts s.0 v (reached_next m base w s.0 g r s.1) (λ y i. a y (inr i)) (h.2.0, s.2, h.2.2) in
      (k.0, (s.0, s.1, k.1), k.2)

  pub to_front : (t : Occurrence N F S) (front back : List (Occurrence N F S)) (w v : W) → IsReached m base w → ((y : Occurrence N F S) → In y front → needs m y t ≡ false) → Runs m w (front ++ t ∷ back) v → Runs m w (t ∷ front ++ back) v
  to_front t [] back w v r a h = h
  to_front t (g ∷ front) back w v r a h =
      let k = to_front t front back h.0 v (reached_next m base w h.0 g r h.1) (λ y i. a y (inr i)) h.2 in
      let s = law.swapped r.0 w h.0 k.0 g t r.1 h.1 k.1 (a g (inl refl)) in
      (s.0, s.1, (k.0, s.2, k.2))

  pub neighbours_swap : Square m base
  neighbours_swap v front back a b h d =
      let k = Runs-split m front (a ∷ b ∷ back) base v (from_run m (front ++ a ∷ b ∷ back) base v h) in
      let r = reached_by m base base k.0 front (reached_here m base) k.1 in
      let s = law.swapped r.0 k.0 k.2.0 k.2.2.0 a b r.1 k.2.1 k.2.2.1 d in
      to_run m (front ++ b ∷ a ∷ back) base v (Runs-append m front (b ∷ a ∷ back) base k.0 v k.1 (s.0, s.1, (k.2.2.0, s.2, k.2.2.2)))

  -- a step that no later one depends on stands last, too
  pub stands_last : (v : W) (front back : List (Occurrence N F S)) (t : Occurrence N F S) → IsRun m base (front ++ t ∷ back) v → ((y : Occurrence N F S) → In y back → needs m t y ≡ false) → (x : W) × IsRun m base (front ++ back) x × Takes m x t v
  stands_last v front back t h a =
      let k = Runs-split m front (t ∷ back) base v (from_run m (front ++ t ∷ back) base v h) in
      let r = reached_by m base base k.0 front (reached_here m base) k.1 in
      let e = to_end t back k.0 v r a k.2 in
      (e.0, to_run m (front ++ back) base e.0 (Runs-append m front back base k.0 e.0 k.1 e.1), e.2)

  pub free_steps_undo : Loop m base
  free_steps_undo v front back t h a =
      let e = stands_last v front back t h a in
      let back_is : undone m v t ≡ e.0 = law.taken_back (front ++ back) e.0 v t e.1 e.2 in (
        subst (λ (x : W). IsRun m base (front ++ back) x) (sym back_is) e.1,
        subst (λ (x : W). Takes m x t v) (sym back_is) e.2,
        to_run m (front ++ back ++ t ∷ []) base v (Runs-append m (front ++ back) (t ∷ []) base e.0 v (from_run m (front ++ back) base e.0 e.1) (v, e.2, refl)),
      )
