use Rattle.std.specs.Prelude.{IfSome}
use Rattle.step_index.specs.Held.{IsLeftAt}
use Rattle.step_index.specs.Walks.{IsFirstFrom, needed_by}
use Rattle.step_index.proofs.Needed.{Along}
use Rattle.step_index.proofs.held.HeldSteps.first_in_threads.Given as goal

-- the first in the classes of the threads above that were passed
abbrev pub invariant-loop-depth : goal.invariant-loop-depth
invariant-loop-depth l = record {
  first : IsFirstFrom (Along l.self l.fact l.depth) (needed_by l.fact) l.records.items 0 l.found;
  left : IfSome l.found (IsLeftAt l.self);
}
