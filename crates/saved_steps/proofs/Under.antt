-- What stands at a thread and under it, by the branches by which a path goes on from the thread's.
use Rattle.std.proofs.Common.{arith, ◌≡◌, ℕ, Bool, true, false, ◌&&◌, ◌==◌, nat_lt, cond, List, [], ◌∷◌, ◌++◌, refl, sym, ap, ap₂, ◌∙◌, subst, Option, Some, None, is_some, append_assoc}
use Rattle.std.specs.Option.{option_and_then}
use Rattle.std.specs.List.{slice_get}
use Rattle.std.specs.Str.{bytes_eq}
use Rattle.std.specs.Cmp.Lexicographic.{pointwise, bytes_decides}
use Rattle.std.proofs.lemmas.Bool.{eqb-true, eq-eqb, ltb-true}
use Rattle.std.proofs.lemmas.Bool.Decides.{same_from_decides}
use Rattle.std.proofs.lemmas.List.{append-nil}
use Rattle.std.proofs.lemmas.Slice.Eq.{bytes_eq-Decides}
use Rattle.branch_tree.specs.Frame.{Frame}
use Rattle.branch_tree.specs.Phase.{Phase}
use Rattle.branch_tree.specs.Phase.TheVariants.{Ready, Parked, Done, Failed}
use Rattle.branch_tree.specs.FlatMap.{FrameMap, IsTree, is_parked, branch_count, grafted_at}
use Rattle.branch_tree.specs.Paths.{Path, same_branch, same_path, rest_after}
use Rattle.branch_tree.specs.Tree.{Rows, frame_at, node_at}
use Rattle.step_names.specs.Thread.{Thread}
use Rattle.step_names.specs.Under.{is_under, goes_on_by}
use Rattle.saved_steps.specs.Held.{paths_of, put_at}
use Rattle.saved_steps.specs.World.{is_same_thread}
use Rattle.saved_steps.proofs.Threads.{branch_one, branch_itself, same_by_parts}

-- ---- what a path goes on by

pub rest_is : (p r : Path) → rest_after p (p ++ r) ≡ Some r
rest_is [] r = refl
rest_is (b ∷ p) r = rw (branch_itself b) (rest_is p r)

pub rest_itself : (p : Path) → rest_after p p ≡ Some []
rest_itself p = ap (rest_after p) (sym (append-nil p)) ∙ rest_is p []

pub whole_is : (p q r : Path) → rest_after p q ≡ Some r → q ≡ p ++ r
whole_is [] q r h = cc
whole_is (b ∷ p) [] r h = cc
whole_is (b ∷ p) (c ∷ q) r h = by (same_branch b c) refl h (whole_is p q r)
  where
    by : (s : Bool) → same_branch b c ≡ s → cond s (rest_after p q) None ≡ Some r → (rest_after p q ≡ Some r → q ≡ p ++ r) → (c ∷ q) ≡ (b ∷ p) ++ r
    by false e f g = cc
    by true e f g =
        let d : b ≡ c = branch_one b c e in
        let t : q ≡ p ++ r = g f in
        cc

-- the path ends there
abbrev pub is_end : Option Path → Bool
is_end None = false
is_end (Some []) = true
is_end (Some (c ∷ r)) = false

-- its first branch is of this fork
abbrev pub first_is : ℕ → Option Path → Bool
first_is n None = false
first_is n (Some []) = false
first_is n (Some (c ∷ r)) = c.0 == n

and_end : (s : Bool) (o : Option Path) → s && is_end o ≡ is_end (cond s o None)
and_end true o = refl
and_end false o = refl

end_is : (p q : Path) → same_path p q ≡ is_end (rest_after p q)
end_is [] [] = refl
end_is [] (c ∷ q) = refl
end_is (b ∷ p) [] = refl
end_is (b ∷ p) (c ∷ q) = ap (λ (x : Bool). same_branch b c && x) (end_is p q) ∙ and_end (same_branch b c) (rest_after p q)

turned : (b c : ℕ × ℕ) → same_branch b c ≡ same_branch c b
turned b c = same_from_decides (same_branch b c) (same_branch c b) (branch_one b c, λ e. subst (λ (d : ℕ × ℕ). same_branch b d ≡ true) e (branch_itself b))
    (λ h. sym (branch_one c b h), λ e. subst (λ (d : ℕ × ℕ). same_branch d b ≡ true) e (branch_itself b))

and_first : (n : ℕ) (s : Bool) (o : Option Path) → s && first_is n o ≡ first_is n (cond s o None)
and_first n true o = refl
and_first n false o = refl

goes_on_is : (p q : Path) (n : ℕ) → goes_on_by q p n ≡ first_is n (rest_after p q)
goes_on_is [] [] n = refl
goes_on_is [] (c ∷ q) n = refl
goes_on_is (b ∷ p) [] n = refl
goes_on_is (b ∷ p) (c ∷ q) n = ap₂ ◌&&◌ (turned c b) (goes_on_is p q n) ∙ and_first n (same_branch b c) (rest_after p q)

exec_is : (a t : Thread) → pointwise ◌==◌ t.exec a.exec ≡ bytes_eq a.exec t.exec
exec_is a t = same_from_decides (pointwise ◌==◌ t.exec a.exec) (bytes_eq a.exec t.exec) (bytes_decides t.exec a.exec) (λ h. sym ((bytes_eq-Decides a.exec t.exec).0 h), λ e. (bytes_eq-Decides a.exec t.exec).1 (sym e))

-- that a thread is the other, and that it lies under a fork of the other
pub same_is : (a t : Thread) → is_same_thread a t ≡ (bytes_eq a.exec t.exec && is_end (rest_after a.path t.path))
same_is a t = same_by_parts a t ∙ ap (λ (x : Bool). bytes_eq a.exec t.exec && x) (end_is a.path t.path)

pub under_is : (a t : Thread) (n : ℕ) → is_under t a n ≡ (bytes_eq a.exec t.exec && first_is n (rest_after a.path t.path))
under_is a t n = ap₂ ◌&&◌ (exec_is a t) (goes_on_is a.path t.path n)

-- ---- what stands under a thread

nothing_under : (frames : FrameMap) → IsTree frames → (p r : Path) → frames p ≡ None → frames (p ++ r) ≡ None
nothing_under frames tree p [] h = ap frames (append-nil p) ∙ h
nothing_under frames tree p (b ∷ r) h =
    ap frames (sym (append_assoc p (b ∷ []) r)) ∙ nothing_under frames tree (p ++ b ∷ []) r (tree.nothing_below p h b)

none_by : (o : Option Frame) → is_some o ≡ false → o ≡ None
none_by None h = refl
none_by (Some f) h = cc

-- a branch that a frame doesn't stand over has nothing
other_branch : (frames : FrameMap) → IsTree frames → (p : Path) (g : Frame) → frames p ≡ Some g → (b : ℕ × ℕ) (r : Path) → (g.count == b.0 && nat_lt b.1 (branch_count g.phase)) ≡ false → frames (p ++ b ∷ r) ≡ None
other_branch frames tree p g h b r apart =
    ap frames (sym (append_assoc p (b ∷ []) r)) ∙ nothing_under frames tree (p ++ b ∷ []) r (none_by (frames (p ++ b ∷ [])) (tree.branches p g h b ∙ apart))

never : (i : ℕ) → nat_lt i 0 ≡ false
never i = by (nat_lt i 0) refl
  where
    by : (s : Bool) → nat_lt i 0 ≡ s → s ≡ false
    by false e = refl
    by true e = absurd (omega (arith, ltb-true i 0 e))

and_never : (i : ℕ) (s : Bool) → (s && nat_lt i 0) ≡ false
and_never i true = never i
and_never i false = refl

none_below : (i : ℕ) (phase : Phase) → is_parked phase ≡ false → (s : Bool) → (s && nat_lt i (branch_count phase)) ≡ false
none_below i Ready h s = and_never i s
none_below i (Parked m bound) h s = cc
none_below i (Done output) h s = and_never i s
none_below i (Failed fault) h s = and_never i s

pub nothing_at_open : (frames : FrameMap) → IsTree frames → (p : Path) (g : Frame) → frames p ≡ Some g → is_parked g.phase ≡ false → (b : ℕ × ℕ) (r : Path) → frames (p ++ b ∷ r) ≡ None
nothing_at_open frames tree p g h free b r = other_branch frames tree p g h b r (none_below b.1 g.phase free (g.count == b.0))

eq_turned : (m n : ℕ) → (m == n) ≡ false → (n == m) ≡ false
eq_turned m n h = by (n == m) refl
  where
    by : (s : Bool) → (n == m) ≡ s → s ≡ false
    by false e = refl
    by true e = sym (eq-eqb m n (sym (eqb-true n m e))) ∙ h

and_not : (s x : Bool) → s ≡ false → (s && x) ≡ false
and_not true x h = cc
and_not false x h = refl

pub nothing_at_other : (frames : FrameMap) → IsTree frames → (p : Path) (g : Frame) (n : ℕ) → frames p ≡ Some g → g.count ≡ n → (b : ℕ × ℕ) (r : Path) → (b.0 == n) ≡ false → frames (p ++ b ∷ r) ≡ None
nothing_at_other frames tree p g n h e b r apart =
    other_branch frames tree p g h b r (and_not (g.count == b.0) (nat_lt b.1 (branch_count g.phase)) (eq_turned b.0 g.count (subst (λ (m : ℕ). (b.0 == m) ≡ false) (sym e) apart)))

pub no_other_branch : (f : Frame) (kids : List Rows) (n : ℕ) → f.count ≡ n → (b : ℕ × ℕ) (r : Path) → (b.0 == n) ≡ false → node_at f kids (b ∷ r) ≡ None
no_other_branch f kids n e b r apart = by (f.count == b.0) (eq_turned b.0 f.count (subst (λ (m : ℕ). (b.0 == m) ≡ false) (sym e) apart))
  where
    by : (s : Bool) → s ≡ false → cond s (option_and_then (λ kid. frame_at kid r) (slice_get kids b.1)) None ≡ None
    by true h = cc
    by false h = refl

-- ---- a part put at a thread, told by the thread and by one fork of it

module _ (frames : Thread → Option Frame) (a : Thread) (part : FrameMap) (f : Frame) (n : ℕ) (top : part [] ≡ Some f)
    (others : (b : ℕ × ℕ) (r : Path) → (b.0 == n) ≡ false → part (b ∷ r) ≡ None)
    (nothing : (b : ℕ × ℕ) (r : Path) → (b.0 == n) ≡ false → paths_of frames a.exec (a.path ++ b ∷ r) ≡ None) where
  at_rest : (t : Thread) → a.exec ≡ t.exec → (o : Option Path) → rest_after a.path t.path ≡ o
      → grafted_at o part (frames t) ≡ cond (is_end o) (Some f) (cond (first_is n o) (option_and_then part o) (frames t))
  at_rest t e None h = refl
  at_rest t e (Some []) h = top
  at_rest t e (Some (b ∷ r)) h = by (b.0 == n) refl
    where
      there : (b.0 == n) ≡ false → frames t ≡ None
      there apart = ap₂ (λ (x : List ℕ) (p : Path). frames (record { exec = x; path = p })) (sym e) (whole_is a.path t.path (b ∷ r) h) ∙ nothing b r apart

      by : (s : Bool) → (b.0 == n) ≡ s → part (b ∷ r) ≡ cond s (part (b ∷ r)) (frames t)
      by true x = refl
      by false x = others b r x ∙ sym (there x)

  pub told : (t : Thread) → put_at frames a part t ≡ cond (is_same_thread a t) (Some f) (cond (is_under t a n) (option_and_then part (rest_after a.path t.path)) (frames t))
  told t = rw (same_is a t, under_is a t n) (by (bytes_eq a.exec t.exec) refl)
    where
      by : (s : Bool) → bytes_eq a.exec t.exec ≡ s → cond s (grafted_at (rest_after a.path t.path) part (frames t)) (frames t)
          ≡ cond (s && is_end (rest_after a.path t.path)) (Some f) (cond (s && first_is n (rest_after a.path t.path)) (option_and_then part (rest_after a.path t.path)) (frames t))
      by false x = refl
      by true x = at_rest t ((bytes_eq-Decides a.exec t.exec).0 x) (rest_after a.path t.path) refl
