use Rattle.trace_theory.proofs.CounterLaws as law
use Rattle.trace_theory.proofs.CounterPremise.{premise_is_needed}
use Rattle.trace_theory.proofs.laws.counters_are_reversible.Goals as goal

pub returns : goal.returns
returns c = record { lawful = law.counters_are_reversible; names = law.counters_have_names; premise = premise_is_needed }
