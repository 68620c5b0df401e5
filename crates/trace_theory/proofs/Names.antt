-- That a run has each name once, from what a world tells of the names that were taken.
use Rattle.std.proofs.Common.{◌≡◌, false, List, [], ◌∷◌, ap, ◌∙◌, inl, inr, Some}
use Rattle.trace_theory.specs.Traces.{Machine, Occurrence, In, Before, IsRun}
use Rattle.trace_theory.specs.Footprints.{IsReached}
use Rattle.trace_theory.proofs.Runs.{Runs, from_run, reached_next, reached_here}

module _ {W N F S : Type 0} (m : Machine W N F S) (base : W) (Was : W → N → Type 0)
    (new : (w v : W) (n k : N) (f : F) → IsReached m base w → m.take w n ≡ Some (v, f) → Was w k → m.is_same k n ≡ false)
    (marked : (w v : W) (n : N) (f : F) → IsReached m base w → m.take w n ≡ Some (v, f) → Was v n)
    (stays : (w v : W) (n k : N) (f : F) → IsReached m base w → m.take w n ≡ Some (v, f) → Was w k → Was v k) where
  new_later : (ts : List (Occurrence N F S)) (w v : W) (k : N) (y : Occurrence N F S) → IsReached m base w → Was w k → Runs m w ts v → In y ts → m.is_same k y.step ≡ false
  new_later [] w v k y r was h i = absurd i
  new_later (t ∷ ts) w v k y r was h (inl e) = ap (λ (x : Occurrence N F S). m.is_same k x.step) e ∙ new w h.0 t.step k t.fact r h.1.0 was
  new_later (t ∷ ts) w v k y r was h (inr i) = new_later ts h.0 v k y (reached_next m base w h.0 t r h.1) (stays w h.0 t.step k t.fact r h.1.0 was) h.2 i

  once_from : (ts : List (Occurrence N F S)) (w v : W) (x y : Occurrence N F S) → IsReached m base w → Runs m w ts v → Before x y ts → m.is_same x.step y.step ≡ false
  once_from [] w v x y r h b = absurd b
  once_from (t ∷ ts) w v x y r h (inl b) = ap (λ (z : Occurrence N F S). m.is_same z.step y.step) b.0 ∙ new_later ts h.0 v t.step y (reached_next m base w h.0 t r h.1) (marked w h.0 t.step t.fact r h.1.0) h.2 b.1
  once_from (t ∷ ts) w v x y r h (inr b) = once_from ts h.0 v x y (reached_next m base w h.0 t r h.1) h.2 b

  pub names_once : (ts : List (Occurrence N F S)) (v : W) (x y : Occurrence N F S) → IsRun m base ts v → Before x y ts → m.is_same x.step y.step ≡ false
  names_once ts v x y h b = once_from ts base v x y (reached_here m base) (from_run m ts base v h) b
