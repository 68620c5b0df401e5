-- The turn of a thread that may begin, told with the bound of the fork over it.
use Rattle.std.proofs.Common.{◌≡◌, Bool, true, false, cond, refl, Option, Some, None}
use Rattle.std.specs.Option.{option_map}
use Rattle.std.proofs.lemmas.Option.{same_Some}
use Rattle.branch_tree.specs.Frame.{Frame}
use Rattle.step_names.specs.Thread.{Thread}
use Rattle.saved_steps.specs.Effects.{Effect, waits, first_bound, effect_with_bound, turn_effect}

-- what a turn does
pub record IsTurnEffect (frames : Thread → Option Frame) (t : Thread) (f : Frame) (o : Option Effect) (d : Effect) : Type 0 where
  pub begins : waits frames t f ≡ false
  pub effect_of : Effect
  pub is : o ≡ Some effect_of
  pub told : effect_with_bound (first_bound frames t f) effect_of ≡ d

pub turn_told : (frames : Thread → Option Frame) (t : Thread) (f : Frame) (o : Option Effect) (d : Effect) → turn_effect frames t f o ≡ Some d → IsTurnEffect frames t f o d
turn_told frames t f o d h = by (waits frames t f) o refl refl h
  where
    by : (b : Bool) (x : Option Effect) → waits frames t f ≡ b → o ≡ x → cond b None (option_map (effect_with_bound (first_bound frames t f)) x) ≡ Some d → IsTurnEffect frames t f o d
    by true x e k g = cc
    by false None e k g = cc
    by false (Some y) e k g = record { begins = e; effect_of = y; is = k; told = same_Some (effect_with_bound (first_bound frames t f) y) d g }

-- the fact of a step that is told with the bound 0 is as it was
pub turn_goes : (frames : Thread → Option Frame) (t : Thread) (f : Frame) (o : Option Effect) → waits frames t f ≡ false → turn_effect frames t f o ≡ option_map (effect_with_bound (first_bound frames t f)) o
turn_goes frames t f o h = rw h refl
