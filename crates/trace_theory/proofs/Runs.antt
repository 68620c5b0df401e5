-- Runs step by step, taken apart and put together.
use Rattle.std.proofs.Common.{◌≡◌, List, [], ◌∷◌, ◌++◌, refl, ap, ap₂, sym, subst, ◌∙◌, Option, None, Some}
use Rattle.std.specs.Prelude.{option_map, option_and_then}
use Rattle.std.proofs.lemmas.Option.{same_Some}
use Rattle.trace_theory.specs.Traces.{Machine, Occurrence, run, names_of, IsRun, Takes}
use Rattle.trace_theory.specs.Footprints.{IsReached}

pub and_then_some : {A B : Type 0} (k : A → Option B) (o : Option A) (b : B) → option_and_then k o ≡ Some b → (a : A) × (o ≡ Some a) × (k a ≡ Some b)
and_then_some k None b h = cc
and_then_some k (Some a) b h = (a, refl, h)

pub map_some : {A B : Type 0} (k : A → B) (o : Option A) (b : B) → option_map k o ≡ Some b → (a : A) × (o ≡ Some a) × (k a ≡ b)
map_some k None b h = cc
map_some k (Some a) b h = (a, refl, same_Some _ _ h)

module _ {W N F S : Type 0} (m : Machine W N F S) where
  abbrev pub Runs : W → List (Occurrence N F S) → W → Type 0
  Runs w [] v = w ≡ v
  Runs w (t ∷ ts) v = (u : W) × Takes m w t u × Runs u ts v

  pub from_run : (ts : List (Occurrence N F S)) (w v : W) → IsRun m w ts v → Runs w ts v
  from_run [] w v h = ap (λ (p : W × List (Occurrence N F S)). p.0) (same_Some _ _ h)
  from_run (t ∷ ts) w v h =
      let a = and_then_some _ (m.take w t.step) (v, t ∷ ts) h in
      let b = map_some (λ (q : W × List (Occurrence N F S)). (q.0, record { step = t.step; fact = a.0.1; saved = m.saved w a.0.1 } ∷ q.1)) (run m a.0.0 (names_of m ts)) (v, t ∷ ts) a.2 in
      let taken : Occurrence N F S = record { step = t.step; fact = a.0.1; saved = m.saved w a.0.1 } in
      let all : taken ∷ b.0.1 ≡ t ∷ ts = ap (λ (p : W × List (Occurrence N F S)). p.1) b.2 in
      let head : taken ≡ t = cc in
      let tail : b.0.1 ≡ ts = cc in
      let fact : a.0.1 ≡ t.fact = ap (λ (x : Occurrence N F S). x.fact) head in (
        a.0.0,
        (a.1 ∙ ap (λ (f : F). Some (a.0.0, f)) fact, sym (ap (λ (x : Occurrence N F S). x.saved) head) ∙ ap (m.saved w) fact),
        from_run ts a.0.0 v (b.1 ∙ ap₂ (λ (x : W) (xs : List (Occurrence N F S)). Some (x, xs)) (ap (λ (p : W × List (Occurrence N F S)). p.0) b.2) tail),
      )

  pub to_run : (ts : List (Occurrence N F S)) (w v : W) → Runs w ts v → IsRun m w ts v
  to_run [] w v h = ap (λ (x : W). Some (x, [])) h
  to_run (t ∷ ts) w v h =
      let first = h.1.0 in
      let rest = to_run ts h.0 v h.2 in
      rw (first, rest) (ap (λ (s : S). let x : Occurrence N F S = record { step = t.step; fact = t.fact; saved = s } in Some (v, x ∷ ts)) (sym h.1.1))

  pub Runs-append : (xs ys : List (Occurrence N F S)) (w u v : W) → Runs w xs u → Runs u ys v → Runs w (xs ++ ys) v
  Runs-append [] ys w u v h k = subst (λ (x : W). Runs x ys v) (sym h) k
  Runs-append (x ∷ xs) ys w u v h k = (h.0, h.1, Runs-append xs ys h.0 u v h.2 k)

  pub Runs-split : (xs ys : List (Occurrence N F S)) (w v : W) → Runs w (xs ++ ys) v → (u : W) × Runs w xs u × Runs u ys v
  Runs-split [] ys w v h = (w, refl, h)
  Runs-split (x ∷ xs) ys w v h = let k = Runs-split xs ys h.0 v h.2 in (k.0, (h.0, h.1, k.1), k.2)

  pub reached_by : (base w v : W) (ts : List (Occurrence N F S)) → IsReached m base w → Runs w ts v → IsReached m base v
  reached_by base w v ts r h = (r.0 ++ ts, to_run (r.0 ++ ts) base v (Runs-append r.0 ts base w v (from_run r.0 base w r.1) h))

  pub reached_next : (base w v : W) (t : Occurrence N F S) → IsReached m base w → Takes m w t v → IsReached m base v
  reached_next base w v t r h = reached_by base w v (t ∷ []) r (v, h, refl)

  pub reached_here : (base : W) → IsReached m base base
  reached_here base = ([], refl)

  -- a run with one more step
  pub run_more : (base w v : W) (ts : List (Occurrence N F S)) (t : Occurrence N F S) → IsRun m base ts w → Takes m w t v → IsRun m base (ts ++ t ∷ []) v
  run_more base w v ts t h k = to_run (ts ++ t ∷ []) base v (Runs-append ts (t ∷ []) base w v (from_run ts base w h) (v, k, refl))

  -- each step of a run is taken in the world of those before it, where it saves what it saved
  pub taken_after : (base v : W) (front back : List (Occurrence N F S)) (t : Occurrence N F S) → IsRun m base (front ++ t ∷ back) v → (w u : W) × IsRun m base front w × Takes m w t u
  taken_after base v front back t h =
      let k = Runs-split front (t ∷ back) base v (from_run (front ++ t ∷ back) base v h) in
      (k.0, k.2.0, to_run front base k.0 k.1, k.2.1)

  -- what each step from a world of a predicate keeps holds in all worlds reached from such a base
  pub reached_good : (Good : W → Type 0) (base : W) → Good base → ((w v : W) (n : N) (f : F) → Good w → m.take w n ≡ Some (v, f) → Good v) → (w : W) → IsReached m base w → Good w
  reached_good Good base g kept w r = along r.0 base g (from_run r.0 base w r.1)
    where
      along : (ts : List (Occurrence N F S)) (u : W) → Good u → Runs u ts w → Good w
      along [] u g h = subst Good h g
      along (t ∷ ts) u g h = along ts h.0 (kept u h.0 t.step t.fact g h.1.0) h.2
