-- The branches for which a branch waits, by their paths.
use Rattle.std.proofs.Common.{◌≡◌, ℕ, ◌+◌, ◌≤◌, ◌<◌, ◌==◌, Bool, true, false, cond, List, [], ◌∷◌, ◌++◌, arith, refl, ap, ap₂, sym, subst, ◌∙◌, Option, None, Some}
use Rattle.std.specs.Prelude.{◌&&◌, nat_le, not}
use Rattle.std.specs.Str.{bytes_eq}
use Rattle.std.proofs.lemmas.Bool.{and_parts, eqb-true, eq-eqb}
use Rattle.std.proofs.lemmas.List.{append-nil, append_cancel_left}
use Rattle.std.proofs.lemmas.Option.{same_Some}
use Rattle.std.proofs.lemmas.Slice.Eq.{bytes_eq-Decides}
use Rattle.saved_steps.specs.Bounds.{BranchPlace, place_by, place_of, sibling, any_below, in_window, bound_in}
use Rattle.saved_steps.specs.Effects.{waits, first_bound}
use Rattle.saved_steps.specs.Frame.{Frame}
use Rattle.saved_steps.specs.Held.{paths_of}
use Rattle.saved_steps.specs.Paths.{Path, same_branch}
use Rattle.saved_steps.specs.Ready.{frame_is, is_done, may_begin, begins_under, bound_over}
use Rattle.saved_steps.specs.World.{World}
use Rattle.saved_steps.specs.declared.fact.Fact.{Fact}
use Rattle.saved_steps.proofs.Window.{any_at, any_same, le_true, le_is, not_zero}
use Rattle.step_names.specs.Thread.{Thread, child_of}
use Rattle.trace_theory.proofs.Lists.{by_bool}
use Rattle.depends.specs.Dependence.{awaited, awaited_by}
use Rattle.depends.proofs.Threads.{one_branch}

same_itself : (b : ℕ × ℕ) → same_branch b b ≡ true
same_itself b = rw (eq-eqb b.0 b.0 refl, eq-eqb b.1 b.1 refl) refl

-- a branch that stands so far before is awaited
sibling_by : (bound : ℕ) (c : ℕ × ℕ) (p : Path) (j : ℕ) → j + bound ≤ (place_by c p).1.1 → awaited bound (c ∷ p) (sibling (place_by c p) j) ≡ Some []
sibling_by bound c [] j l = rw (eq-eqb c.0 c.0 refl, le_is (j + bound) c.1 l) refl
sibling_by bound c (d ∷ p) j l = rw (same_itself c) (sibling_by bound d p j l)

pub sibling_awaited : (bound : ℕ) (p : Path) (b : BranchPlace) (j : ℕ) → place_of p ≡ Some b → j + bound ≤ b.1.1 → awaited bound p (sibling b j) ≡ Some []
sibling_awaited bound [] b j h l = cc
sibling_awaited bound (c ∷ p) b j h l =
    let e : place_by c p ≡ b = same_Some _ _ h in
    subst (λ (x : BranchPlace). awaited bound (c ∷ p) (sibling x j) ≡ Some []) e (sibling_by bound c p j (subst (λ (x : BranchPlace). j + bound ≤ x.1.1) (sym e) l))

-- and none but such branches
pub record IsAwaited (bound : ℕ) (p q r : Path) : Type 0 where
  pub place : BranchPlace
  pub is : place_of p ≡ Some place
  pub index : ℕ
  pub before : index + bound ≤ place.1.1
  pub goes : q ≡ sibling place index ++ r

by_last : (c x : ℕ × ℕ) (q r : Path) (bound : ℕ) → cond (x.0 == c.0 && nat_le (x.1 + bound) c.1) (Some q) None ≡ Some r → IsAwaited bound (c ∷ []) (x ∷ q) r
by_last c x q r bound h = by_bool (x.0 == c.0 && nat_le (x.1 + bound) c.1) _ (λ k. yes k (rw k at h)) (λ k. let e = rw k at h in cc)
  where
    yes : (x.0 == c.0 && nat_le (x.1 + bound) c.1) ≡ true → Some q ≡ Some r → IsAwaited bound (c ∷ []) (x ∷ q) r
    yes k e =
        let a = and_parts (x.0 == c.0) (nat_le (x.1 + bound) c.1) k in
        record {
          place = ([], c);
          is = refl;
          index = x.1;
          before = le_true (x.1 + bound) c.1 a.1;
          goes = ap₂ (λ (n : ℕ) (u : Path). (n, x.1) ∷ u) (eqb-true x.0 c.0 a.0) (same_Some q r e);
        }

by_next : (bound : ℕ) (c d x : ℕ × ℕ) (p q r : Path) → same_branch c x ≡ true → IsAwaited bound (d ∷ p) q r → IsAwaited bound (c ∷ (d ∷ p)) (x ∷ q) r
by_next bound c d x p q r k i =
    let at : place_by d p ≡ i.place = same_Some _ _ i.is in
    record {
      place = (c ∷ i.place.0, i.place.1);
      is = ap (λ (b : BranchPlace). Some (c ∷ b.0, b.1)) at;
      index = i.index;
      before = i.before;
      goes = ap₂ (λ (y : ℕ × ℕ) (u : Path). y ∷ u) (sym (one_branch c x k)) i.goes;
    }

pub is_awaited : (bound : ℕ) (p q r : Path) → awaited bound p q ≡ Some r → IsAwaited bound p q r
is_awaited bound [] q r h = cc
is_awaited bound (c ∷ []) [] r h = cc
is_awaited bound (c ∷ []) (x ∷ q) r h = by_last c x q r bound h
is_awaited bound (c ∷ (d ∷ p)) [] r h = cc
is_awaited bound (c ∷ (d ∷ p)) (x ∷ q) r h =
    by_bool (same_branch c x) _ (λ k. by_next bound c d x p q r k (is_awaited bound (d ∷ p) q r (rw k at h))) (λ k. let e = rw k at h in cc)

-- a path is that of its place
pub place_whole : (p : Path) (b : BranchPlace) → place_of p ≡ Some b → p ≡ b.0 ++ b.1 ∷ []
place_whole [] b h = cc
place_whole (c ∷ p) b h = by c p ∙ ap (λ (x : BranchPlace). x.0 ++ x.1 ∷ []) (same_Some _ _ h)
  where
    by : (c : ℕ × ℕ) (p : Path) → c ∷ p ≡ (place_by c p).0 ++ (place_by c p).1 ∷ []
    by c [] = refl
    by c (d ∷ p) = ap (λ (u : Path). c ∷ u) (by d p)

-- another branch than the one that waits
pub other_branch : (b : BranchPlace) (j bound : ℕ) → j + bound ≤ b.1.1 → 0 < bound → sibling b j ≡ b.0 ++ b.1 ∷ [] → ⊥
other_branch b j bound l some e =
    let f = append_cancel_left b.0 ((b.1.0, j) ∷ []) (b.1 ∷ []) e in
    let g : j ≡ b.1.1 = ap (λ (u : Path). index_of u) f in
    absurd (omega (arith, l, some, g))
  where
    index_of : Path → ℕ
    index_of [] = 0
    index_of (c ∷ u) = c.1

-- ---- the branch that a fact awaits

pub record Awaited (s : Fact) (t : Thread) (r : Path) : Type 0 where
  pub some : 0 < s.bound
  pub exec : s.name.thread.exec ≡ t.exec
  pub goes : awaited s.bound s.name.thread.path t.path ≡ Some r

pub awaited_parts : (s : Fact) (t : Thread) (r : Path) → awaited_by s t ≡ Some r → Awaited s t r
awaited_parts s t r h =
    by_bool (s.bound == 0) _ (λ k. let e = rw k at h in cc)
    (λ k. by_bool (bytes_eq s.name.thread.exec t.exec) _
    (λ j. record { some = not_zero s.bound k; exec = (bytes_eq-Decides s.name.thread.exec t.exec).0 j; goes = rw (k, j) at h })
    (λ j. let e = rw (k, j) at h in cc))

pub awaited_whole : (s : Fact) (t : Thread) (r : Path) → Awaited s t r → awaited_by s t ≡ Some r
awaited_whole s t r a =
    let z : (s.bound == 0) ≡ false = by_bool (s.bound == 0) _ (λ k. let e = eqb-true s.bound 0 k in absurd (omega (arith, e, a.some))) (λ k. k) in
    rw (z, (bytes_eq-Decides s.name.thread.exec t.exec).1 a.exec) a.goes

-- ---- a thread that may begin

-- each branch for which it waited is done
pub all_done : (w : World) (t u : Thread) (f : Frame) (s : Fact) → s.name.thread ≡ t → waits w.frames t f ≡ false → s.bound ≡ first_bound w.frames t f → awaited_by s u ≡ Some []
    → frame_is is_done (w.frames u) ≡ true
all_done w t u f s own begins bound h = by_bool (f.count == 0) _ first (λ k. absurd (none (bound ∙ rw k refl)))
  where
    a : Awaited s u []
    a = awaited_parts s u [] h

    none : s.bound ≡ 0 → ⊥
    none e = omega (arith, e, a.some)

    first : (f.count == 0) ≡ true → frame_is is_done (w.frames u) ≡ true
    first k =
        let i = is_awaited s.bound s.name.thread.path u.path [] a.goes in
        let path : s.name.thread.path ≡ t.path = ap (λ (x : Thread). x.path) own in
        let place : place_of t.path ≡ Some i.place = ap place_of (sym path) ∙ i.is in
        let bounded : s.bound ≡ bound_in (paths_of w.frames t.exec i.place.0) = bound ∙ rw (k, place) refl in
        let begun : may_begin (paths_of w.frames t.exec) i.place ≡ true = started i.place k place in
        by_bool (frame_is is_done (w.frames u)) _ (λ d. d) (λ d. absurd (clash i.place i.index i.before bounded begun (there i.place i.index i.goes ∙ d)))
      where
        there : (b : BranchPlace) (j : ℕ) → u.path ≡ sibling b j ++ [] → frame_is is_done (paths_of w.frames t.exec (sibling b j)) ≡ frame_is is_done (w.frames u)
        there b j e =
            let exec : t.exec ≡ u.exec = sym (ap (λ (x : Thread). x.exec) own) ∙ a.exec in
            ap₂ (λ (x : List ℕ) (p : Path). frame_is is_done (w.frames (record { exec = x; path = p }))) exec (sym (append-nil (sibling b j)) ∙ sym e)

        started : (b : BranchPlace) → (f.count == 0) ≡ true → place_of t.path ≡ Some b → may_begin (paths_of w.frames t.exec) b ≡ true
        started b k place =
            let n : not (begins_under true (paths_of w.frames t.exec) (place_of t.path)) ≡ false = rw k at begins in
            by_bool (may_begin (paths_of w.frames t.exec) b) _ (λ y. y) (λ y. let x = rw (place, y) at n in cc)

        clash : (b : BranchPlace) (j : ℕ) → j + s.bound ≤ b.1.1 → s.bound ≡ bound_in (paths_of w.frames t.exec b.0) → may_begin (paths_of w.frames t.exec) b ≡ true
            → frame_is is_done (paths_of w.frames t.exec (sibling b j)) ≡ false → ⊥
        clash b j l m begun undone =
            let bound_there = bound_in (paths_of w.frames t.exec b.0) in
            let l2 : j + bound_there ≤ b.1.1 = subst (λ n. j + n ≤ b.1.1) m l in
            let some : 0 < bound_there = subst (λ n. 0 < n) m a.some in
            let z : (bound_there == 0) ≡ false = by_bool (bound_there == 0) _ (λ q. let e = eqb-true bound_there 0 q in absurd (omega (arith, e, some))) (λ q. q) in
            let found : any_below b.1.1 (λ i. nat_le (i + bound_there) b.1.1 && not (frame_is is_done (paths_of w.frames t.exec (sibling b i)))) ≡ true =
            any_at b.1.1 (λ i. nat_le (i + bound_there) b.1.1 && not (frame_is is_done (paths_of w.frames t.exec (sibling b i)))) j (omega (arith, l2, some)) (rw (le_is (j + bound_there) b.1.1 l2, undone) refl) in
            let e = rw (z, found) at begun in
            cc
