-- A path that is not empty leads into one branch.
use Rattle.std.proofs.Common.{arith, suc, ◌≡◌, ◌<◌, ◌≤◌, ℕ, ◌-◌, Bool, true, false, cond, List, [], ◌∷◌, ◌++◌, refl, sym, ap, subst, ◌∙◌, Option, Some, None, ◌==◌, length, get_or, take, drop, MatchOption, IsSomeAnd}
use Rattle.std.specs.Option.{option_and_then}
use Rattle.std.specs.List.{slice_get}
use Rattle.std.proofs.lemmas.Bool.{eq-eqb, ne_eqb, eqb-true}
use Rattle.std.proofs.lemmas.Option.{slice_get_within, slice_get-get_or, slice_get_past}
use Rattle.std.proofs.lemmas.List.{take_all}
use Rattle.asl_frames.specs.declared.frame.Frame.{Frame}
use Rattle.branch_tree.specs.Paths.{Path}
use Rattle.branch_tree.specs.Tree.{Rows, flat, frame_at, branch_at, node_at}
use Rattle.branch_tree.proofs.Flat.{at_node}

abbrev pub first : Path → ℕ × ℕ
first path = get_or path 0 (0, 0)

abbrev pub rest : Path → Path
rest path = take (length path - 1) (drop 1 path)

pub first_then_rest : (path : Path) → 1 ≤ length path → path ≡ first path ∷ rest path
first_then_rest [] h = absurd (omega arith)
first_then_rest (b ∷ p) h = ap (λ (q : Path). b ∷ q) (sym (take_all (suc (length p) - 1) p (omega arith)))

pub shorter : (path : Path) → 1 ≤ length path → length (rest path) < length path
shorter path h = let e : length path ≡ suc (length (rest path)) = ap length (first_then_rest path h) in omega arith

pub no_steps : (path : Path) → length path < 1 → path ≡ []
no_steps [] h = refl
no_steps (b ∷ p) h = absurd (omega arith)

into : (frame : Frame) (kids : List Rows) (v : Rows) (path : Path) (b : ℕ × ℕ) (p : Path) → flat frame kids ≡ v → path ≡ b ∷ p
    → (q : Path) → frame_at v (path ++ q) ≡ branch_at frame.count kids b (p ++ q)
into frame kids v path b p e h q = rw (← e, h) (at_node frame kids (b ∷ (p ++ q)))

into_branch : (frame : Frame) (kids : List Rows) (v : Rows) (path : Path) (b : ℕ × ℕ) (p : Path) → flat frame kids ≡ v → path ≡ b ∷ p
    → frame_at v path ≡ branch_at frame.count kids b p
into_branch frame kids v path b p e h = rw (← e, h) (at_node frame kids (b ∷ p))

other_fork : (fork : ℕ) (kids : List Rows) (b : ℕ × ℕ) (q : Path) → (b.0 ≡ fork → ⊥) → branch_at fork kids b q ≡ None
other_fork fork kids b q h = rw (ne_eqb fork b.0 (λ e. h (sym e))) refl

no_branch : (fork : ℕ) (kids : List Rows) (b : ℕ × ℕ) (q : Path) → length kids ≤ b.1 → branch_at fork kids b q ≡ None
no_branch fork kids b q h = rw (slice_get_past kids b.1 h) (neither (fork == b.0))
  where
    neither : (r : Bool) → ◌≡◌ {A = Option Frame} (cond r None None) None
    neither true = refl
    neither false = refl

own_branch : (fork : ℕ) (kids : List Rows) (b : ℕ × ℕ) (kid : Rows) (q : Path) → b.0 ≡ fork → b.1 < length kids → kid ≡ get_or kids b.1 kid
    → branch_at fork kids b q ≡ frame_at kid q
own_branch fork kids b kid q f h k =
    let e : slice_get kids b.1 ≡ Some (get_or kids b.1 kid) = slice_get-get_or kids b.1 kid h in
    rw (eq-eqb fork b.0 (sym f), e, ← k) refl

-- where there is a frame the path goes by a branch that is there
pub branch_is_there : (fork : ℕ) (kids : List Rows) (b : ℕ × ℕ) (p : Path) (P : Frame → Type 0) → IsSomeAnd (branch_at fork kids b p) P → (b.0 ≡ fork) × (b.1 < length kids)
branch_is_there fork kids b p P h = found (fork == b.0) (slice_get kids b.1) refl refl h
  where
    found : (r : Bool) (o : Option Rows) → (fork == b.0) ≡ r → slice_get kids b.1 ≡ o → IsSomeAnd (cond r (option_and_then (λ k. frame_at k p) o) None) P → (b.0 ≡ fork) × (b.1 < length kids)
    found false o e f s = absurd s
    found true None e f s = absurd s
    found true (Some kid) e f s = (sym (eqb-true fork b.0 e), slice_get_within kids b.1 kid f)

pub match_along : {T : Type 0} (r : Option T) (view : T → Rows) (f g : Path → Option Frame) → ((q : Path) → f q ≡ g q)
    → MatchOption r ((q : Path) → g q ≡ None) (λ b. (q : Path) → g q ≡ frame_at (view b) q)
    → MatchOption r ((q : Path) → f q ≡ None) (λ b. (q : Path) → f q ≡ frame_at (view b) q)
match_along None view f g e h = λ q. e q ∙ h q
match_along (Some b) view f g e h = λ q. e q ∙ h q

-- a node seen as v, and a path that is not empty
module _ (frame : Frame) (kids : List Rows) (v : Rows) (path : Path) (is : flat frame kids ≡ v) (long : 1 ≤ length path) where
  pub goes_by_no_fork : ((first path).0 ≡ frame.count → ⊥) → (q : Path) → frame_at v (path ++ q) ≡ None
  goes_by_no_fork h q = into frame kids v path (first path) (rest path) is (first_then_rest path long) q ∙ other_fork frame.count kids (first path) (rest path ++ q) h

  pub goes_past : length kids ≤ (first path).1 → (q : Path) → frame_at v (path ++ q) ≡ None
  goes_past h q = into frame kids v path (first path) (rest path) is (first_then_rest path long) q ∙ no_branch frame.count kids (first path) (rest path ++ q) h

  pub goes_on : (kid : Rows) → (first path).0 ≡ frame.count → (first path).1 < length kids → kid ≡ get_or kids (first path).1 kid
      → (q : Path) → frame_at v (path ++ q) ≡ frame_at kid (rest path ++ q)
  goes_on kid f l k q = into frame kids v path (first path) (rest path) is (first_then_rest path long) q ∙ own_branch frame.count kids (first path) kid (rest path ++ q) f l k

  pub goes_to : (kid : Rows) → (first path).0 ≡ frame.count → (first path).1 < length kids → kid ≡ get_or kids (first path).1 kid
      → frame_at v path ≡ frame_at kid (rest path)
  goes_to kid f l k = into_branch frame kids v path (first path) (rest path) is (first_then_rest path long) ∙ own_branch frame.count kids (first path) kid (rest path) f l k

  pub goes_by : (P : Frame → Type 0) → IsSomeAnd (frame_at v path) P → ((first path).0 ≡ frame.count) × ((first path).1 < length kids)
  goes_by P h =
      branch_is_there frame.count kids (first path) (rest path) P
      (subst (λ (o : Option Frame). IsSomeAnd o P) (into_branch frame kids v path (first path) (rest path) is (first_then_rest path long)) h)

  pub holds_there : (P : Frame → Type 0) (kid : Rows) → kid ≡ get_or kids (first path).1 kid → IsSomeAnd (frame_at v path) P → IsSomeAnd (frame_at kid (rest path)) P
  holds_there P kid k h = let s = goes_by P h in subst (λ (o : Option Frame). IsSomeAnd o P) (goes_to kid s.0 s.1 k) h

pub at_end : (frame f : Frame) (kids ks : List Rows) (v : Rows) (path : Path) → flat frame kids ≡ v → length path < 1 → f ≡ frame → ks ≡ kids
    → (q : Path) → frame_at v (path ++ q) ≡ node_at f ks q
at_end frame f kids ks v path is short e g q = rw (no_steps path short, ← is, e, g) (at_node frame kids q)
