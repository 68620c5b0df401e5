-- What is reversible from a world is so from each world that a run from there reaches.
use Rattle.std.proofs.Common.{◌++◌}
use Rattle.std.specs.Prelude.{List}
use Rattle.trace_theory.specs.Traces.{Machine, Occurrence, IsRun, IsReversible, HasNames}
use Rattle.trace_theory.specs.Footprints.{IsReached}
use Rattle.trace_theory.proofs.Lists.{Before-back}
use Rattle.trace_theory.proofs.Runs.{from_run, to_run, Runs-append}

module _ {W N F S : Type 0} (m : Machine W N F S) (start base : W) (reached : IsReached m start base) where
  -- a run from the reached world, behind the run that reaches it
  pub run_from : (ts : List (Occurrence N F S)) (v : W) → IsRun m base ts v → IsRun m start (reached.0 ++ ts) v
  run_from ts v h = to_run m (reached.0 ++ ts) start v (Runs-append m reached.0 ts start base v (from_run m reached.0 start base reached.1) (from_run m ts base v h))

  pub reversible_from : IsReversible m start → IsReversible m base
  reversible_from law = record {
    swapped = λ ts w u v a b h. law.swapped (reached.0 ++ ts) w u v a b (run_from ts w h);
    taken_back = λ ts w v t h. law.taken_back (reached.0 ++ ts) w v t (run_from ts w h);
  }

  pub names_from : HasNames m start → HasNames m base
  names_from names = record {
    itself = names.itself;
    alike = names.alike;
    once = λ ts v x y h b. names.once (reached.0 ++ ts) v x y (run_from ts v h) (Before-back x y reached.0 ts b);
  }

  -- and what a run from it reaches, one from the first world reaches
  pub reached_from : (w : W) → IsReached m base w → IsReached m start w
  reached_from w r = (reached.0 ++ r.0, run_from r.0 w r.1)
