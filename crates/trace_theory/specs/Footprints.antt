-- Footprints: what makes a machine reversible. Cells hold something in a world, and a step is a plan, which says what it touches,
-- what it writes of that, and what each written cell holds afterwards.
use Rattle.std.specs.Prelude.{◌≡◌, Bool, true, false, List, Option, Some, option_map, if◌then◌else◌}
use Rattle.trace_theory.specs.Traces.{Machine, Occurrence, IsRun, IsReversible}

-- C are the cells, V what they hold, P the plans
pub record Plans (W N F C V P : Type 0) : Type 0 where
  pub at : W → C → V
  pub plan : W → N → Option P
  pub after_effect : W → P → W
  pub fact : P → F
  pub touches : P → C → Bool
  pub writes : P → C → Bool
  pub holds : P → C → V

-- a run from the base leads to this world
abbrev pub IsReached : {W N F S : Type 0} → Machine W N F S → W → W → Type 0
IsReached {N = N} {F = F} {S = S} m base w = (ts : List (Occurrence N F S)) × IsRun m base ts w

-- What the steps of a machine owe as plans, in the worlds that runs from a base reach.
pub record HasFootprints {W N F S C V P : Type 0} (m : Machine W N F S) (p : Plans W N F C V P) (base : W) : Type 0 where
  -- a step is its plan carried out
  pub planned : (w : W) (n : N) → m.take w n ≡ option_map (λ d. (p.after_effect w d, p.fact d)) (p.plan w n)
  -- then each written cell holds what the plan says, and each other what it held
  pub effect : (w : W) (d : P) (c : C) → p.at (p.after_effect w d) c ≡ (if p.writes d c then p.holds d c else p.at w c)
  -- what is written is touched
  pub within : (d : P) (c : C) → p.writes d c ≡ true → p.touches d c ≡ true
  -- a plan, and what its step saves, is a function of what the plan touches alone
  pub local : (w x : W) (n : N) (d : P) → IsReached m base w → p.plan w n ≡ Some d → ((c : C) → p.touches d c ≡ true → p.at x c ≡ p.at w c)
      → (p.plan x n ≡ Some d) × (m.saved x (p.fact d) ≡ m.saved w (p.fact d))
  -- undoing gives each written cell what it held before the step, from what the step saved, and leaves each other
  pub restores : (w u : W) (n : N) (d : P) (c : C) → IsReached m base w → p.plan w n ≡ Some d
      → p.at (m.undo u (p.fact d) (m.saved w (p.fact d))) c ≡ (if p.writes d c then p.at w c else p.at u c)
  -- of neighbours that don't depend on each other neither writes what the other touches
  pub apart : (w : W) (a b : N) (d e : P) (c : C) → IsReached m base w → p.plan w a ≡ Some d → p.plan (p.after_effect w d) b ≡ Some e → m.depends (p.fact d) (p.fact e) ≡ false
      → (p.writes d c ≡ true → p.touches e c ≡ true → ⊥) × (p.writes e c ≡ true → p.touches d c ≡ true → ⊥)
  -- worlds that hold the same in each cell are one
  pub same : (w x : W) → ((c : C) → p.at w c ≡ p.at x c) → w ≡ x

-- A machine of such plans is reversible: independent neighbours swap (Mazurkiewicz), and a step is undone by what it saved.
abbrev pub PlansAreReversible : (W N F S C V P : Type 0) → Type 0
PlansAreReversible W N F S C V P = (m : Machine W N F S) (p : Plans W N F C V P) (base : W) → HasFootprints m p base → IsReversible m base
