-- A world that no run reaches, in which two independent steps don't swap.
use Rattle.std.proofs.Common.{◌≡◌, [], ◌∷◌, refl, ap, None, Some, arith}
use Rattle.std.specs.Prelude.{◌||◌, if◌then◌else◌}
use Rattle.std.proofs.lemmas.Option.{same_Some}
use Rattle.trace_theory.specs.Counters.{parked, done, Frame, CounterWorld, forks, ends, CounterStep, counter_same_thread, Plan, counter_after_effect, counter_first_frame, PremiseIsNeeded}

-- a branch of the root's first step stands, and the root has taken no step
abbrev pub astray : CounterWorld
astray = record { frames = λ q. if counter_same_thread [] q || counter_same_thread ((1, 0) ∷ []) q then Some counter_first_frame else None; counters = λ _. 0 }

abbrev pub ending : CounterStep
ending = record { thread = (1, 0) ∷ []; no = 1; act = ends }

abbrev pub forking : CounterStep
forking = record { thread = []; no = 1; act = forks }

abbrev pub ended : Plan
ended = record { step = ending; frame = record { count = 1; value = 0; phase = done }; number = 1 }

abbrev pub forked : Plan
forked = record { step = forking; frame = record { count = 1; value = 0; phase = parked }; number = 1 }

pub premise_is_needed : PremiseIsNeeded
premise_is_needed = (
  astray,
  ending,
  forking,
  record {
    independent = refl;
    first = counter_after_effect astray ended;
    second = counter_after_effect (counter_after_effect astray ended) forked;
    other_first = counter_after_effect astray forked;
    other_second = counter_after_effect (counter_after_effect astray forked) ended;
    takes_first = refl;
    takes_second = refl;
    takes_other = refl;
    takes_last = refl;
    differ = λ e. let f = same_Some counter_first_frame ended.frame (ap (λ (v : CounterWorld). v.frames ((1, 0) ∷ [])) e) in let n : 0 ≡ 1 = ap (λ (x : Frame). x.count) f in absurd (omega (arith, n));
  },
)
