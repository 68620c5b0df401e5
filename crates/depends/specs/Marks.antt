-- The marks that steps leave: those of each kind.
use Rattle.std.specs.Prelude.{List}
use Rattle.saved_steps.specs.declared.fact.Fact.{Fact}
use Rattle.depends.specs.Kinds.{AreForks, AreKeyMarks, AreStartMarks, AreThreads, AreUnder}
use Rattle.depends.specs.declared.marks.Marks.{Marks}

pub record AreMarksOf (facts : List Fact) (m : Marks) : Type 0 where
  pub threads : AreThreads facts m.threads
  pub started : AreStartMarks facts m.starts
  pub forked : AreForks facts m.forks
  pub lay : AreUnder facts m.under
  pub keyed : AreKeyMarks facts m.keys
