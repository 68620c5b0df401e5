-- The branches for which a first move waited are those of its own fork that stand so far before it.
use Rattle.std.proofs.Common.{◌≡◌, ◌≤◌, ◌-◌, ◌+◌, arith, ℕ, Bool, true, false, List, [], ◌∷◌, ◌++◌, length, length-append, Option, None, Some, is_some, nat_le, le-leb, leb-true, eq-eqb, append_assoc, refl, ap, sym, subst, ◌∙◌}
use Rattle.std.specs.Prelude.{slice_get}
use Rattle.std.specs.List.{list_any}
use Rattle.saved_steps.specs.Paths.{Path, same_branch}
use Rattle.saved_steps.specs.declared.fact.Fact.{Fact}
use Rattle.step_names.specs.Thread.{Thread}
use Rattle.depends.specs.Dependence.{awaited, awaited_by, awaits}
use Rattle.depends.proofs.Awaited.{awaited_parts, awaited_whole, is_awaited, place_whole}
use Rattle.depends.specs.Above.{IsDownward, fork_above, forks_above, forks_from, goes_by}
use Rattle.depends.specs.declared.above.Above.{Above}
use Rattle.depends.proofs.Anyone.{same_bool}
use Rattle.depends.proofs.Rising.{lies_from, lies_to}

-- the index is so far before one
abbrev pub before : ℕ → ℕ → ℕ → Bool
before bound branch i = nat_le (i + bound) branch

pub before_down : (bound branch : ℕ) → IsDownward (before bound branch)
before_down bound branch i j l h = le-leb (i + bound) branch (let k = leb-true (j + bound) branch h in omega (arith, l, k))

-- ---- the last of some

pub last_got : {A : Type 0} (xs : List A) (y : A) → slice_get (xs ++ y ∷ []) (length (xs ++ y ∷ []) - 1) ≡ Some y
last_got {A} xs y = ap (slice_get (xs ++ y ∷ [])) (let l = length-append xs (y ∷ []) in omega (arith, l)) ∙ at xs
  where
    at : (zs : List A) → slice_get (zs ++ y ∷ []) (length zs) ≡ Some y
    at [] = refl
    at (z ∷ zs) = at zs

pub forks_end : (exec : List ℕ) (front path : List (ℕ × ℕ)) (b : ℕ × ℕ) → forks_from exec front (path ++ b ∷ []) ≡ forks_from exec front path ++ fork_above exec (front ++ path) b ∷ []
forks_end exec front [] b = ap (λ (l : List (ℕ × ℕ)). fork_above exec l b ∷ []) (sym (no_more front))
  where
    no_more : (l : List (ℕ × ℕ)) → l ++ [] ≡ l
    no_more [] = refl
    no_more (x ∷ l) = ap (λ (k : List (ℕ × ℕ)). x ∷ k) (no_more l)
forks_end exec front (c ∷ path) b =
    ap (λ (l : List Above). fork_above exec front c ∷ l)
    (forks_end exec (front ++ c ∷ []) path b ∙ ap (λ (l : List (ℕ × ℕ)). forks_from exec (front ++ c ∷ []) path ++ fork_above exec l b ∷ []) (append_assoc front (c ∷ []) path))

-- a path has an end, or is none
pub record Ended (path : List (ℕ × ℕ)) : Type 0 where
  pub front : List (ℕ × ℕ)
  pub last : ℕ × ℕ
  pub whole : path ≡ front ++ last ∷ []

pub ended : (b : ℕ × ℕ) (path : List (ℕ × ℕ)) → Ended (b ∷ path)
ended b [] = record { front = []; last = b; whole = refl }
ended b (c ∷ path) = let e = ended c path in record { front = b ∷ e.front; last = e.last; whole = ap (λ (l : List (ℕ × ℕ)). b ∷ l) e.whole }

-- the fork of the last branch
pub own_fork : (exec : List ℕ) (path : List (ℕ × ℕ)) (e : Ended path) → slice_get (forks_from exec [] path) (length (forks_from exec [] path) - 1) ≡ Some (fork_above exec e.front e.last)
own_fork exec path e =
    ap (λ (l : List Above). slice_get l (length l - 1)) (ap (forks_from exec []) e.whole ∙ forks_end exec [] e.front e.last) ∙ last_got (forks_from exec [] e.front) (fork_above exec e.front e.last)

-- ---- what is awaited

same_itself : (b : ℕ × ℕ) → same_branch b b ≡ true
same_itself b = rw (eq-eqb b.0 b.0 refl, eq-eqb b.1 b.1 refl) refl

goes_on : (bound : ℕ) (front : Path) (c : ℕ × ℕ) (j : ℕ) (r : Path) → j + bound ≤ c.1 → awaited bound (front ++ c ∷ []) (front ++ (c.0, j) ∷ r) ≡ Some r
goes_on bound [] c j r l = rw (eq-eqb c.0 c.0 refl, le-leb (j + bound) c.1 l) refl
goes_on bound (b ∷ []) c j r l = rw (same_itself b) (goes_on bound [] c j r l)
goes_on bound (b ∷ (d ∷ front)) c j r l = rw (same_itself b) (goes_on bound (d ∷ front) c j r l)

module _ (f : Fact) (t : Thread) (e : Ended f.name.thread.path) (some : 1 ≤ f.bound) where
  abbrev pub own : Above
  own = fork_above f.name.thread.exec e.front e.last

  to : list_any (goes_by own.fork (before f.bound own.branch)) (forks_above t) ≡ true → awaits f t ≡ true
  to h =
      let l = lies_to t own.fork (before f.bound own.branch) h in
      let far = leb-true (l.branch + f.bound) e.last.1 l.passes in
      let goes : awaited f.bound f.name.thread.path t.path ≡ Some l.rest = ap (λ p. awaited f.bound p t.path) e.whole ∙ ap (awaited f.bound (e.front ++ e.last ∷ [])) l.path ∙ goes_on f.bound e.front e.last l.branch l.rest far in
      ap is_some (awaited_whole f t l.rest (record { some = omega (arith, some); exec = sym l.exec; goes = goes }))

  got : (o : Option Path) → is_some o ≡ true → (r : Path) × (o ≡ Some r)
  got None h = absurd (let x : false ≡ true = h in cc)
  got (Some r) h = (r, refl)

  from : awaits f t ≡ true → list_any (goes_by own.fork (before f.bound own.branch)) (forks_above t) ≡ true
  from h =
      let g = got (awaited_by f t) h in
      let a = awaited_parts f t g.0 g.1 in
      let i = is_awaited f.bound f.name.thread.path t.path g.0 a.goes in
      let whole : e.front ++ e.last ∷ [] ≡ i.place.0 ++ i.place.1 ∷ [] = sym e.whole ∙ place_whole f.name.thread.path i.place i.is in
      let s = same_ends e.front i.place.0 e.last i.place.1 whole in
      lies_from t own.fork (before f.bound own.branch) (record {
        exec = sym a.exec;
        branch = i.index;
        rest = g.0;
        path = i.goes ∙ append_assoc i.place.0 ((i.place.1.0, i.index) ∷ []) g.0 ∙ ap (λ (p : List (ℕ × ℕ)). p ++ (i.place.1.0, i.index) ∷ g.0) (sym s.0) ∙ ap (λ (b : ℕ × ℕ). e.front ++ (b.0, i.index) ∷ g.0) (sym s.1);
        passes = le-leb (i.index + f.bound) e.last.1 (subst (λ (b : ℕ × ℕ). i.index + f.bound ≤ b.1) (sym s.1) i.before);
      })
    where
      same_ends : (p q : List (ℕ × ℕ)) (b c : ℕ × ℕ) → p ++ b ∷ [] ≡ q ++ c ∷ [] → (p ≡ q) × (b ≡ c)
      same_ends p q b c k = (front_same p q b c k, last_same p q b c k)
        where
          short : (x b : ℕ × ℕ) (p : List (ℕ × ℕ)) → [] ≡ p ++ b ∷ [] → ⊥
          short x b [] k = absurd (let n = ap length k in omega (arith, n))
          short x b (y ∷ p) k = absurd (let n = ap length k in omega (arith, n))

          front_same : (p q : List (ℕ × ℕ)) (b c : ℕ × ℕ) → p ++ b ∷ [] ≡ q ++ c ∷ [] → p ≡ q
          front_same [] [] b c k = refl
          front_same [] (y ∷ q) b c k = absurd (short b c q cc)
          front_same (x ∷ p) [] b c k = absurd (short c b p cc)
          front_same (x ∷ p) (y ∷ q) b c k = let h : x ≡ y = cc in let r = front_same p q b c cc in cc

          last_same : (p q : List (ℕ × ℕ)) (b c : ℕ × ℕ) → p ++ b ∷ [] ≡ q ++ c ∷ [] → b ≡ c
          last_same [] [] b c k = cc
          last_same [] (y ∷ q) b c k = absurd (short b c q cc)
          last_same (x ∷ p) [] b c k = absurd (short c b p cc)
          last_same (x ∷ p) (y ∷ q) b c k = last_same p q b c cc

  pub awaits_is : list_any (goes_by own.fork (before f.bound own.branch)) (forks_above t) ≡ awaits f t
  awaits_is = same_bool _ _ to from
