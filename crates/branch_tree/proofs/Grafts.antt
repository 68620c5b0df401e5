-- Parts put in the place of what stands at and under a path.
use Rattle.std.proofs.Common.{◌≡◌, ℕ, Bool, true, false, cond, [], ◌∷◌, ◌++◌, refl, sym, ap, ◌∙◌, Option, Some, None, ◌==◌}
use Rattle.std.proofs.Math.Path.{fun_ext}
use Rattle.std.proofs.lemmas.Bool.{eq-eqb, eqb-true, and_parts}
use Rattle.std.proofs.lemmas.Option.{same_Some}
use Rattle.asl_frames.specs.declared.frame.Frame.{Frame}
use Rattle.branch_tree.specs.Paths.{Path, same_branch, rest_after}
use Rattle.branch_tree.specs.FlatMap.{FrameMap, grafted, grafted_at, alone}
use Rattle.branch_tree.specs.Laws.{GivenBack, ForkTakenBack, RestIsExact}

same_branch-refl : (b : ℕ × ℕ) → same_branch b b ≡ true
same_branch-refl b = rw (eq-eqb b.0 b.0 refl, eq-eqb b.1 b.1 refl) refl

rest_is : (p r : Path) → rest_after p (p ++ r) ≡ Some r
rest_is [] r = refl
rest_is (b ∷ p) r = rw (same_branch-refl b) (rest_is p r)

pair : (c b : ℕ × ℕ) → c.0 ≡ b.0 → c.1 ≡ b.1 → c ≡ b
pair c b m i = let e : ◌≡◌ {A = ℕ × ℕ} (c.0, c.1) (b.0, b.1) = rw (m, i) refl in e

whole_is : (p q r : Path) → rest_after p q ≡ Some r → q ≡ p ++ r
whole_is [] q r h = same_Some q r h
whole_is (b ∷ p) [] r h = cc
whole_is (b ∷ p) (c ∷ q) r h = split (same_branch b c) refl h (whole_is p q r)
  where
    split : (s : Bool) → same_branch b c ≡ s → cond s (rest_after p q) None ≡ Some r → (rest_after p q ≡ Some r → q ≡ p ++ r) → (c ∷ q) ≡ (b ∷ p) ++ r
    split false e f g = cc
    split true e f g =
        let parts = and_parts (b.0 == c.0) (b.1 == c.1) e in
        let m : c.0 ≡ b.0 = sym (eqb-true b.0 c.0 parts.0) in
        let i : c.1 ≡ b.1 = sym (eqb-true b.1 c.1 parts.1) in
        let d : c ≡ b = pair c b m i in
        let t : q ≡ p ++ r = g f in
        cc

pub rest_is_exact : RestIsExact
rest_is_exact = (rest_is, whole_is)

-- a part in the place of another is as if the other had never been there, and what stood there leaves all as it was
kept : (before part : FrameMap) (p : Path) (o : Option Path) (q : Path) → rest_after p q ≡ o → ((r : Path) → before (p ++ r) ≡ part r) → grafted_at o part (before q) ≡ before q
kept before part p None q e h = refl
kept before part p (Some r) q e h = sym (ap before (whole_is p q r e) ∙ h r)

twice : (o : Option Path) (one two : FrameMap) (x : Option Frame) → grafted_at o two (grafted_at o one x) ≡ grafted_at o two x
twice None one two x = refl
twice (Some r) one two x = refl

again_is : (before after part one : FrameMap) (p q : Path) → ((r : Path) → before (p ++ r) ≡ part r) → after q ≡ grafted before p one q → grafted after p part q ≡ before q
again_is before after part one p q h e = rw (e, twice (rest_after p q) one part (before q)) (kept before part p (rest_after p q) q refl h)

pub given_back : GivenBack
given_back before after again part p put h e f = fun_ext (λ q. f q ∙ again_is before after part (alone put) p q h (e q))

pub fork_taken_back : ForkTakenBack
fork_taken_back before forked after part taken p old h e t f = (
  fun_ext (λ q. sym (t q) ∙ e (p ++ q) ∙ ap (λ (o : Option Path). grafted_at o part (before (p ++ q))) (rest_is p q)),
  fun_ext (λ q. f q ∙ again_is before forked (alone old) part p q h (e q)),
)
